-- The pieces of a value, where its first `;` outside quotes is known and where none is there.
use Rattle.std.proofs.Common.{◌≡◌, ℕ, ◌+◌, List, [], ◌∷◌, Bool, true, false, not, ◌&&◌, take, drop, Option, Some, None, refl, ap, sym, ◌∙◌, add-one, cond, eqb-true, ◌++◌}
use Rattle.std.proofs.lemmas.Bool.{cond_both}
use Rattle.std.specs.List.{onto_first}
use Rattle.std.specs.Option.{option_map}
use Rattle.pec_types.specs.Bytes.{is_quote}
use Rattle.pec_bodies.specs.Parameters.{AllQuoted, is_semicolon, leaves_open}
use Rattle.pec_bodies.specs.ParametersReading.{before, behind_first, first_named, or_else, pieces_from, pieces_of, semicolon_from, turned, value_named}

abbrev pub cut_at : List ℕ → Option ℕ → List (List ℕ)
cut_at text None = text ∷ []
cut_at text (Some k) = take k text ∷ pieces_from false (drop (k + 1) text)

cut_later : (q : Bool) (b : ℕ) (bs : List ℕ) (o : Option ℕ) → (not q && is_semicolon b) ≡ false → pieces_from (turned q b) bs ≡ cut_at bs o
    → pieces_from q (b ∷ bs) ≡ cut_at (b ∷ bs) (option_map (λ k. k + 1) o)
cut_later q b bs None e h = rw e (ap (onto_first b) h)
cut_later q b bs (Some k) e h = rw (e, h, add-one (k + 1), add-one k) refl

pub pieces_cut : (q : Bool) (text : List ℕ) → pieces_from q text ≡ cut_at text (semicolon_from q text)
pieces_cut q [] = refl
pieces_cut q (b ∷ bs) =
    cond_both (not q && is_semicolon b) (Some 0) (option_map (λ k. k + 1) (semicolon_from (turned q b) bs)) (λ o. pieces_from q (b ∷ bs) ≡ cut_at (b ∷ bs) o)
    (λ t. rw t refl)
    (λ t. cut_later q b bs (semicolon_from (turned q b) bs) t (pieces_cut (turned q b) bs))

-- a text with no `;` outside quotes has no parameter
pub no_more : (name text : List ℕ) → semicolon_from false text ≡ None → first_named name (behind_first (pieces_from false text)) ≡ None
no_more name text e = rw (pieces_cut false text, e) refl

first_piece : (name rest : List ℕ) (o : Option ℕ) → pieces_from false rest ≡ cut_at rest o
    → first_named name (pieces_from false rest) ≡ or_else (value_named name (before rest o)) (first_named name (behind_first (pieces_from false rest)))
first_piece name rest None h = rw h refl
first_piece name rest (Some k) h = rw h refl

-- behind the first `;` the first piece of the rest is looked at, and then what is behind it
next_piece : (name text : List ℕ) (k : ℕ) → semicolon_from false text ≡ Some k
    → first_named name (behind_first (pieces_from false text))
    ≡ or_else (value_named name (before (drop (k + 1) text) (semicolon_from false (drop (k + 1) text)))) (first_named name (behind_first (pieces_from false (drop (k + 1) text))))
next_piece name text k e =
    ap (λ ps. first_named name (behind_first ps)) (pieces_cut false text)
    ∙ rw e (first_piece name (drop (k + 1) text) (semicolon_from false (drop (k + 1) text)) (pieces_cut false (drop (k + 1) text)))

pub looked_at : (name text piece : List ℕ) (k : ℕ) (o : Option (List ℕ)) → semicolon_from false text ≡ Some k
    → piece ≡ before (drop (k + 1) text) (semicolon_from false (drop (k + 1) text)) → o ≡ value_named name piece
    → or_else o (first_named name (behind_first (pieces_from false (drop (k + 1) text)))) ≡ first_named name (behind_first (pieces_from false text))
looked_at name text piece k o e p v = rw (v, p) (sym (next_piece name text k e))

-- ---- the law of pieces

-- whether the byte behind some stands in quotes
abbrev pub after_all : Bool → List ℕ → Bool
after_all q [] = q
after_all q (b ∷ bs) = after_all (turned q b) bs

abbrev pub AllQuotedFrom : Bool → List ℕ → Type 0
AllQuotedFrom q bytes = (front back : List ℕ) → bytes ≡ front ++ 59 ∷ back → after_all q front ≡ true

later_quoted : (q : Bool) (b : ℕ) (bs : List ℕ) → AllQuotedFrom q (b ∷ bs) → AllQuotedFrom (turned q b) bs
later_quoted q b bs h = λ front back e. h (b ∷ front) back (ap (λ xs. b ∷ xs) e)

no_cut : (q t : Bool) (b : ℕ) (bs : List ℕ) → is_semicolon b ≡ t → AllQuotedFrom q (b ∷ bs) → (not q && t) ≡ false
no_cut q false b bs e h = and_false (not q)
  where
    and_false : (t : Bool) → (t && false) ≡ false
    and_false true = refl
    and_false false = refl
no_cut q true b bs e h = rw (h [] bs (ap (λ c. c ∷ bs) (eqb-true b 59 e))) refl

pieces_last : (q : Bool) (text : List ℕ) → AllQuotedFrom q text → pieces_from q text ≡ text ∷ []
pieces_last q [] h = refl
pieces_last q (b ∷ bs) h = rw (no_cut q (is_semicolon b) b bs refl h) (ap (onto_first b) (pieces_last (turned q b) bs (later_quoted q b bs h)))

pieces_next : (q : Bool) (front back : List ℕ) → AllQuotedFrom q front → after_all q front ≡ false → pieces_from q (front ++ 59 ∷ back) ≡ front ∷ pieces_from false back
pieces_next q [] back h e = rw e refl
pieces_next q (b ∷ front) back h e =
    rw (no_cut q (is_semicolon b) b front refl h) (ap (onto_first b) (pieces_next (turned q b) front back (later_quoted q b front h) e))

pub flips : (q : Bool) (bs : List ℕ) → (q ≡ false → after_all q bs ≡ leaves_open bs) × (q ≡ true → after_all q bs ≡ not (leaves_open bs))
flips q [] = (λ e. e, λ e. e)
flips q (b ∷ bs) = flip_step q bs (is_quote b) (flips q bs) (flips (not q) bs)
  where
    flip_step : (q : Bool) (bs : List ℕ) (t : Bool) → (q ≡ false → after_all q bs ≡ leaves_open bs) × (q ≡ true → after_all q bs ≡ not (leaves_open bs))
        → (not q ≡ false → after_all (not q) bs ≡ leaves_open bs) × (not q ≡ true → after_all (not q) bs ≡ not (leaves_open bs))
        → (q ≡ false → after_all (cond t (not q) q) bs ≡ cond t (not (leaves_open bs)) (leaves_open bs)) × (q ≡ true → after_all (cond t (not q) q) bs ≡ not (cond t (not (leaves_open bs)) (leaves_open bs)))
    flip_step q bs false same other = same
    flip_step q bs true same other = (λ e. other.1 (ap not e), λ e. other.0 (ap not e) ∙ sym (twice (leaves_open bs)))
      where
        twice : (t : Bool) → not (not t) ≡ t
        twice true = refl
        twice false = refl

quoted_from : (bytes : List ℕ) → AllQuoted bytes → AllQuotedFrom false bytes
quoted_from bytes h = λ front back e. (flips false front).0 refl ∙ h front back e

pub value_cut : (front back : List ℕ) → AllQuoted front → leaves_open front ≡ false → pieces_of (front ++ 59 ∷ back) ≡ front ∷ pieces_of back
value_cut front back h e = pieces_next false front back (quoted_from front h) ((flips false front).0 refl ∙ e)

pub value_whole : (value : List ℕ) → AllQuoted value → pieces_of value ≡ value ∷ []
value_whole value h = pieces_last false value (quoted_from value h)
