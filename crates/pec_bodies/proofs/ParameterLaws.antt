-- Parameters: the pieces that a value is cut into, the name and the value of a piece, and the first piece of a name are what
-- `Parameters` says, and nothing else is.
use Rattle.std.proofs.Common.{◌≡◌, ℕ, ◌+◌, ◌-◌, inl, inr, List, [], ◌∷◌, ◌++◌, Bool, true, false, not, ◌&&◌, eqb, cond, get_or, length, take, drop, Option, Some, None, refl, ap, sym, ◌∙◌, arith, eqb-true, length-append}
use Rattle.std.proofs.Math.Path.{subst}
use Rattle.std.proofs.Math.Seq.{take-append_seam, drop-append-add, get_or-append_seam}
use Rattle.std.proofs.lemmas.Bool.{and_from, and_parts, false≢true, le-leb, not-true}
use Rattle.std.proofs.lemmas.Iterator.Adapters.{position_from-zero}
use Rattle.std.specs.List.{AllByRecursion, list_all, onto_first, position, position_from}
use Rattle.std.specs.Option.{option_and_then}
use Rattle.std.specs.Str.{str_eq_ignore_ascii_case}
use Rattle.pec_types.specs.Bytes.{equals_sign, quote, semicolon}
use Rattle.pec_heads.specs.Bytes.{NonePass, trimmed}
use Rattle.pec_bodies.proofs.AnswerLemmas.{some_is}
use Rattle.pec_bodies.proofs.PieceLemmas.{AllQuotedFrom, after_all, flips, value_cut, value_whole}
use Rattle.pec_bodies.specs.Parameters.{AllQuoted, ArePieces, HasNoParameter, HasOtherName, IsNamed, IsParameter, IsUnquoted, in_quotes, is_equals, is_semicolon}
use Rattle.pec_bodies.specs.ParametersReading.{behind_first, first_named, named_value, or_else, parameter_of, pieces_from, pieces_of, turned, unquoted, value_named}

-- ---- pieces

-- the pieces of bytes that begin in quotes or out of them
abbrev ArePiecesFrom : Bool → List ℕ → List (List ℕ) → Type 0
ArePiecesFrom q value [] = ⊥
ArePiecesFrom q value (piece ∷ []) = (value ≡ piece) × AllQuotedFrom q piece
ArePiecesFrom q value (piece ∷ next ∷ more) =
    (rest : List ℕ) × ((value ≡ piece ++ semicolon ∷ rest) × (AllQuotedFrom q piece × ((after_all q piece ≡ false) × ArePiecesFrom false rest (next ∷ more))))

pub nothing_left : (front back : List ℕ) (b : ℕ) → [] ≡ front ++ b ∷ back → ⊥
nothing_left [] back b e = absurd cc
nothing_left (c ∷ front) back b e = absurd cc

head_is : (b c : ℕ) (bs cs : List ℕ) → b ∷ bs ≡ c ∷ cs → b ≡ c
head_is b c bs cs e = cc

tail_is : (b c : ℕ) (bs cs : List ℕ) → b ∷ bs ≡ c ∷ cs → bs ≡ cs
tail_is b c bs cs e = cc

open_at : (q : Bool) (b : ℕ) → (not q && is_semicolon b) ≡ false → b ≡ semicolon → q ≡ true
open_at true b e same = refl
open_at false b e same = absurd (false≢true (sym e ∙ ap is_semicolon same))

pub quoted_cons : (q : Bool) (b : ℕ) (bs : List ℕ) → (not q && is_semicolon b) ≡ false → AllQuotedFrom (turned q b) bs → AllQuotedFrom q (b ∷ bs)
quoted_cons q b bs e h = λ front back parts. by_front q b bs front back e h parts
  where
    by_front : (q : Bool) (b : ℕ) (bs front back : List ℕ) → (not q && is_semicolon b) ≡ false → AllQuotedFrom (turned q b) bs → b ∷ bs ≡ front ++ semicolon ∷ back → after_all q front ≡ true
    by_front q b bs [] back e h parts = open_at q b e (head_is b semicolon bs back parts)
    by_front q b bs (c ∷ front) back e h parts =
        ap (λ x. after_all (turned q x) front) (sym (head_is b c bs (front ++ semicolon ∷ back) parts)) ∙ h front back (tail_is b c bs (front ++ semicolon ∷ back) parts)

piece_cons : (q : Bool) (b : ℕ) (bs : List ℕ) (pieces : List (List ℕ)) → (not q && is_semicolon b) ≡ false → ArePiecesFrom (turned q b) bs pieces → ArePiecesFrom q (b ∷ bs) (onto_first b pieces)
piece_cons q b bs [] e h = absurd h
piece_cons q b bs (piece ∷ []) e h = (ap (λ xs. b ∷ xs) h.0, quoted_cons q b piece e h.1)
piece_cons q b bs (piece ∷ next ∷ more) e h =
    (h.0, (ap (λ xs. b ∷ xs) h.1.0, (quoted_cons q b piece e h.1.1.0, (h.1.1.1.0, h.1.1.1.1))))

cut_here : (q : Bool) (b : ℕ) (bs : List ℕ) (pieces : List (List ℕ)) → (not q && is_semicolon b) ≡ true → ArePiecesFrom false bs pieces → ArePiecesFrom q (b ∷ bs) ([] ∷ pieces)
cut_here q b bs [] e h = absurd h
cut_here q b bs (next ∷ more) e h =
    let p = and_parts (not q) (is_semicolon b) e
    in (bs, (ap (λ c. c ∷ bs) (eqb-true b semicolon p.1), ((λ front back parts. absurd (nothing_left front back semicolon parts)), (not-true q p.0, h))))

pieces_say : (q : Bool) (value : List ℕ) → ArePiecesFrom q value (pieces_from q value)
pieces_say q [] = (refl, λ front back parts. absurd (nothing_left front back semicolon parts))
pieces_say q (b ∷ bs) = by_test q b bs (not q && is_semicolon b) refl (pieces_say false bs) (pieces_say (turned q b) bs)
  where
    by_test : (q : Bool) (b : ℕ) (bs : List ℕ) (t : Bool) → (not q && is_semicolon b) ≡ t → ArePiecesFrom false bs (pieces_from false bs) → ArePiecesFrom (turned q b) bs (pieces_from (turned q b) bs)
        → ArePiecesFrom q (b ∷ bs) (cond t ([] ∷ pieces_from false bs) (onto_first b (pieces_from (turned q b) bs)))
    by_test q b bs true e cut on = cut_here q b bs (pieces_from false bs) e cut
    by_test q b bs false e cut on = piece_cons q b bs (pieces_from (turned q b) bs) e on

pub all_quoted : (bytes : List ℕ) → AllQuotedFrom false bytes → AllQuoted bytes
all_quoted bytes h = λ front back parts. sym ((flips false front).0 refl) ∙ h front back parts

from_outside : (value : List ℕ) (pieces : List (List ℕ)) → ArePiecesFrom false value pieces → ArePieces value pieces
from_outside value [] h = h
from_outside value (piece ∷ []) h = (h.0, all_quoted piece h.1)
from_outside value (piece ∷ next ∷ more) h = (
  h.0,
  (
    record { parts = h.1.0; quoted = all_quoted piece h.1.1.0; closed = sym ((flips false piece).0 refl) ∙ h.1.1.1.0 },
    from_outside h.0 (next ∷ more) h.1.1.1.1,
  ),
)

pub pieces_are : (value : List ℕ) → ArePieces value (pieces_of value)
pieces_are value = from_outside value (pieces_of value) (pieces_say false value)

pub pieces_again : (value : List ℕ) (pieces : List (List ℕ)) → ArePieces value pieces → pieces_of value ≡ pieces
pieces_again value [] h = absurd h
pieces_again value (piece ∷ []) h = ap pieces_of h.0 ∙ value_whole piece h.1
pieces_again value (piece ∷ next ∷ more) h =
    ap pieces_of h.1.0.parts ∙ value_cut piece h.0 h.1.0.quoted h.1.0.closed ∙ ap (λ ps. piece ∷ ps) (pieces_again h.0 (next ∷ more) h.1.1)

pub pieces_is : (value : List ℕ) (pieces : List (List ℕ)) → (pieces_of value ≡ pieces → ArePieces value pieces) × (ArePieces value pieces → pieces_of value ≡ pieces)
pieces_is value pieces = (λ e. subst (ArePieces value) e (pieces_are value), pieces_again value pieces)

-- ---- the first `=`

record Equals (bytes : List ℕ) (at : ℕ) : Type 0 where
  before : List ℕ
  behind : List ℕ
  parts : bytes ≡ before ++ equals_sign ∷ behind
  first : NonePass is_equals before
  place : at ≡ length before

equals_from : (i : ℕ) (bytes : List ℕ) (k : ℕ) → position_from is_equals i bytes ≡ Some k → (at : ℕ) × (Equals bytes at × (k ≡ i + at))
equals_from i [] k e = absurd cc
equals_from i (b ∷ bs) k e = by_test i b bs k (is_equals b) refl e (equals_from (i + 1) bs k)
  where
    by_test : (i b : ℕ) (bs : List ℕ) (k : ℕ) (t : Bool) → is_equals b ≡ t → cond t (Some i) (position_from is_equals (i + 1) bs) ≡ Some k
        → (position_from is_equals (i + 1) bs ≡ Some k → (at : ℕ) × (Equals bs at × (k ≡ i + 1 + at))) → (at : ℕ) × (Equals (b ∷ bs) at × (k ≡ i + at))
    by_test i b bs k true e h later =
        (0, (record { before = []; behind = bs; parts = ap (λ c. c ∷ bs) (eqb-true b equals_sign e); first = refl; place = refl }, omega (arith, some_is i k h)))
    by_test i b bs k false e h later =
        let f = later h
        in (
          f.0 + 1,
          (
            record {
              before = b ∷ f.1.0.before;
              behind = f.1.0.behind;
              parts = ap (λ xs. b ∷ xs) f.1.0.parts;
              first = and_from (not (is_equals b)) _ (ap not e) f.1.0.first;
              place = omega (arith, f.1.0.place);
            },
            omega (arith, f.1.1),
          ),
        )

equals_none_from : (i : ℕ) (bytes : List ℕ) → position_from is_equals i bytes ≡ None → NonePass is_equals bytes
equals_none_from i [] e = refl
equals_none_from i (b ∷ bs) e = by_test i b bs (is_equals b) refl e (equals_none_from (i + 1) bs)
  where
    by_test : (i b : ℕ) (bs : List ℕ) (t : Bool) → is_equals b ≡ t → cond t (Some i) (position_from is_equals (i + 1) bs) ≡ None
        → (position_from is_equals (i + 1) bs ≡ None → NonePass is_equals bs) → NonePass is_equals (b ∷ bs)
    by_test i b bs true e h later = absurd cc
    by_test i b bs false e h later = and_from (not (is_equals b)) _ (ap not e) (later h)

equals_again_from : (i : ℕ) (before behind : List ℕ) → NonePass is_equals before → position_from is_equals i (before ++ equals_sign ∷ behind) ≡ Some (i + length before)
equals_again_from i [] behind none = ap Some (omega arith)
equals_again_from i (b ∷ before) behind none =
    let p = and_parts (not (is_equals b)) (list_all (λ c. not (is_equals c)) before) none
    in rw (not-true (is_equals b) p.0) (equals_again_from (i + 1) before behind p.1 ∙ ap Some (omega arith))

equals_says : (bytes : List ℕ) (at : ℕ) → position is_equals bytes ≡ Some at → Equals bytes at
equals_says bytes at e =
    let f = equals_from 0 bytes at (sym (position_from-zero is_equals bytes) ∙ e)
    in let same : f.0 ≡ at = omega (arith, f.1.1)
    in ap_place bytes f.0 at f.1.0 same
  where
    ap_place : (bytes : List ℕ) (one other : ℕ) → Equals bytes one → one ≡ other → Equals bytes other
    ap_place bytes one other h e = record { before = h.before; behind = h.behind; parts = h.parts; first = h.first; place = sym e ∙ h.place }

equals_none : (bytes : List ℕ) → position is_equals bytes ≡ None → NonePass is_equals bytes
equals_none bytes e = equals_none_from 0 bytes (sym (position_from-zero is_equals bytes) ∙ e)

pub equals_again : (before behind : List ℕ) → NonePass is_equals before → position is_equals (before ++ equals_sign ∷ behind) ≡ Some (length before)
equals_again before behind none = position_from-zero is_equals (before ++ equals_sign ∷ behind) ∙ equals_again_from 0 before behind none ∙ ap Some (omega arith)

-- ---- quotes

-- the first and the last byte, and what stands between
split_last : (b : ℕ) (bs : List ℕ) → (front : List ℕ) × ((last : ℕ) × (b ∷ bs ≡ front ++ last ∷ []))
split_last b [] = ([], (b, refl))
split_last b (c ∷ bs) = let s = split_last c bs in (b ∷ s.0, (s.1.0, ap (λ xs. b ∷ xs) s.1.1))

unquoted_long : (a : ℕ) (front : List ℕ) (last : ℕ) → unquoted (a ∷ front ++ last ∷ []) ≡ cond (eqb a quote && eqb last quote) front (a ∷ front ++ last ∷ [])
unfolding unquoted
unquoted_long a front last =
    let value : List ℕ = a ∷ front ++ last ∷ []
    in let long : length value ≡ length front + 2 = omega (arith, length-append front (last ∷ []))
    in let end : length value - 1 ≡ length (a ∷ front) = omega (arith, long)
    in ap (λ t. cond ((t && eqb a quote) && eqb (get_or value (length value - 1) 0) quote) (take (length value - 2) (drop 1 value)) value) (le-leb 2 (length value) (omega (arith, long)))
    ∙ ap (λ k. cond (eqb a quote && eqb (get_or value k 0) quote) (take (length value - 2) (drop 1 value)) value) end
    ∙ ap (λ b. cond (eqb a quote && eqb b quote) (take (length value - 2) (drop 1 value)) value) (get_or-append_seam (a ∷ front) last [] 0)
    ∙ ap (λ k. cond (eqb a quote && eqb last quote) (take k (front ++ last ∷ [])) value) (omega (arith, long))
    ∙ ap (λ xs. cond (eqb a quote && eqb last quote) xs value) (take-append_seam front (last ∷ []))

abbrev last_of : List ℕ → ℕ
last_of [] = 0
last_of (b ∷ []) = b
last_of (b ∷ c ∷ bs) = last_of (c ∷ bs)

last_there : (front : List ℕ) (b : ℕ) → last_of (front ++ b ∷ []) ≡ b
last_there [] b = refl
last_there (c ∷ []) b = refl
last_there (c ∷ d ∷ front) b = last_there (d ∷ front) b

same_last : (one other : List ℕ) (b c : ℕ) → one ++ b ∷ [] ≡ other ++ c ∷ [] → b ≡ c
same_last one other b c e = sym (last_there one b) ∙ ap last_of e ∙ last_there other c

-- bytes that begin and end otherwise aren't in quotes
not_quoted : (a : ℕ) (front : List ℕ) (last : ℕ) (inner : List ℕ) → (eqb a quote && eqb last quote) ≡ false → a ∷ front ++ last ∷ [] ≡ in_quotes inner → ⊥
not_quoted a front last inner none e =
    let one : a ≡ quote = head_is a quote (front ++ last ∷ []) (inner ++ quote ∷ []) e
    in let other : last ≡ quote = same_last front inner last quote (tail_is a quote (front ++ last ∷ []) (inner ++ quote ∷ []) e)
    in false≢true (sym none ∙ ap (λ b. eqb b quote && eqb last quote) one ∙ ap (λ b. eqb b quote) other)

long_says : (a : ℕ) (front : List ℕ) (last : ℕ) (t : Bool) → (eqb a quote && eqb last quote) ≡ t → IsUnquoted (a ∷ front ++ last ∷ []) (cond t front (a ∷ front ++ last ∷ []))
long_says a front last true e =
    let p = and_parts (eqb a quote) (eqb last quote) e
    in inl (ap (λ b. b ∷ front ++ last ∷ []) (eqb-true a quote p.0) ∙ ap (λ b. quote ∷ front ++ b ∷ []) (eqb-true last quote p.1))
long_says a front last false e = inr (refl, λ inner same. not_quoted a front last inner e same)

pub unquoted_says : (written : List ℕ) → IsUnquoted written (unquoted written)
unfolding unquoted
unquoted_says [] = inr (refl, λ inner e. absurd cc)
unquoted_says (a ∷ []) = inr (refl, λ inner e. nothing_left inner [] quote (tail_is a quote [] (inner ++ quote ∷ []) e))
unquoted_says (a ∷ b ∷ bs) = by_last a b bs (split_last b bs)
  where
    by_last : (a b : ℕ) (bs : List ℕ) → (front : List ℕ) × ((last : ℕ) × (b ∷ bs ≡ front ++ last ∷ [])) → IsUnquoted (a ∷ b ∷ bs) (unquoted (a ∷ b ∷ bs))
    by_last a b bs s =
        subst (λ xs. IsUnquoted (a ∷ xs) (unquoted (a ∷ xs))) (sym s.1.1)
        (subst (IsUnquoted (a ∷ s.0 ++ s.1.0 ∷ [])) (sym (unquoted_long a s.0 s.1.0)) (long_says a s.0 s.1.0 (eqb a quote && eqb s.1.0 quote) refl))

pub unquoted_again : (written value : List ℕ) → IsUnquoted written value → unquoted written ≡ value
unquoted_again written value h = elim h [
  | inl e ↦ ap unquoted e ∙ unquoted_long quote value quote
  | inr n ↦ elim (unquoted_says written) [ inl e ↦ absurd (n.1 (unquoted written) e) | inr o ↦ o.0 ∙ sym n.0 ]
]

-- ---- a piece

named_at : (name bytes before behind : List ℕ) (at : ℕ) → bytes ≡ before ++ equals_sign ∷ behind → at ≡ length before
    → named_value name bytes at ≡ cond (str_eq_ignore_ascii_case before name) (Some (unquoted behind)) None
named_at name bytes before behind at parts place =
    let whole : List ℕ = before ++ equals_sign ∷ behind
    in ap (λ xs. named_value name xs at) parts
    ∙ ap (λ k. named_value name whole k) place
    ∙ ap (λ xs. cond (str_eq_ignore_ascii_case xs name) (Some (unquoted (drop (length before + 1) whole))) None) (take-append_seam before (equals_sign ∷ behind))
    ∙ ap (λ xs. cond (str_eq_ignore_ascii_case before name) (Some (unquoted xs)) None) (drop-append-add before (equals_sign ∷ behind) 1)

named_says : (name piece found : List ℕ) → value_named name piece ≡ Some found → IsNamed name piece found
unfolding value_named
named_says name piece found e = by_place name piece found (position is_equals (trimmed piece)) refl e
  where
    by_name : (name piece found : List ℕ) (at : ℕ) (q : Equals (trimmed piece) at) (t : Bool) → str_eq_ignore_ascii_case q.before name ≡ t → cond t (Some (unquoted q.behind)) None ≡ Some found
        → IsNamed name piece found
    by_name name piece found at q true same e = record {
      before = q.before;
      behind = q.behind;
      parts = q.parts;
      first = q.first;
      same = same;
      value_is = subst (IsUnquoted q.behind) (some_is (unquoted q.behind) found e) (unquoted_says q.behind);
    }
    by_name name piece found at q false same e = absurd cc

    by_place : (name piece found : List ℕ) (o : Option ℕ) → position is_equals (trimmed piece) ≡ o → option_and_then (named_value name (trimmed piece)) o ≡ Some found → IsNamed name piece found
    by_place name piece found None p e = absurd cc
    by_place name piece found (Some at) p e =
        let q = equals_says (trimmed piece) at p
        in by_name name piece found at q (str_eq_ignore_ascii_case q.before name) refl (sym (named_at name (trimmed piece) q.before q.behind at q.parts q.place) ∙ e)

pub named_again : (name piece found : List ℕ) → IsNamed name piece found → value_named name piece ≡ Some found
unfolding value_named
named_again name piece found h =
    ap (option_and_then (named_value name (trimmed piece))) (ap (position is_equals) h.parts ∙ equals_again h.before h.behind h.first)
    ∙ named_at name (trimmed piece) h.before h.behind (length h.before) h.parts refl
    ∙ ap (λ t. cond t (Some (unquoted h.behind)) None) h.same
    ∙ ap Some (unquoted_again h.behind found h.value_is)

none_some : (found : List ℕ) (o : Option (List ℕ)) → o ≡ None → o ≡ Some found → ⊥
none_some found o e h = absurd cc

other_says : (name piece : List ℕ) → value_named name piece ≡ None → HasOtherName name piece
other_says name piece e = λ found h. none_some found (value_named name piece) e (named_again name piece found h)

other_again : (name piece : List ℕ) → HasOtherName name piece → value_named name piece ≡ None
other_again name piece h = by_answer name piece h (value_named name piece) refl
  where
    by_answer : (name piece : List ℕ) → HasOtherName name piece → (o : Option (List ℕ)) → value_named name piece ≡ o → value_named name piece ≡ None
    by_answer name piece h None e = e
    by_answer name piece h (Some found) e = absurd (h found (named_says name piece found e))

-- ---- pieces in a row

record FirstNamed (name : List ℕ) (pieces : List (List ℕ)) (found : List ℕ) : Type 0 where
  before : List (List ℕ)
  piece : List ℕ
  after : List (List ℕ)
  parts : pieces ≡ before ++ piece ∷ after
  others : AllByRecursion (HasOtherName name) before
  named : IsNamed name piece found

first_says : (name : List ℕ) (pieces : List (List ℕ)) (found : List ℕ) → first_named name pieces ≡ Some found → FirstNamed name pieces found
first_says name [] found e = absurd cc
first_says name (piece ∷ pieces) found e = by_answer name piece pieces found (value_named name piece) refl e (first_says name pieces found)
  where
    by_answer : (name piece : List ℕ) (pieces : List (List ℕ)) (found : List ℕ) (o : Option (List ℕ)) → value_named name piece ≡ o → or_else o (first_named name pieces) ≡ Some found
        → (first_named name pieces ≡ Some found → FirstNamed name pieces found) → FirstNamed name (piece ∷ pieces) found
    by_answer name piece pieces found None e h later =
        let f = later h
        in record { before = piece ∷ f.before; piece = f.piece; after = f.after; parts = ap (λ ps. piece ∷ ps) f.parts; others = (other_says name piece e, f.others); named = f.named }
    by_answer name piece pieces found (Some value) e h later =
        record { before = []; piece = piece; after = pieces; parts = refl; others = tt; named = named_says name piece found (e ∙ h) }

none_says : (name : List ℕ) (pieces : List (List ℕ)) → first_named name pieces ≡ None → AllByRecursion (HasOtherName name) pieces
none_says name [] e = tt
none_says name (piece ∷ pieces) e = by_answer name piece pieces (value_named name piece) refl e (none_says name pieces)
  where
    by_answer : (name piece : List ℕ) (pieces : List (List ℕ)) (o : Option (List ℕ)) → value_named name piece ≡ o → or_else o (first_named name pieces) ≡ None
        → (first_named name pieces ≡ None → AllByRecursion (HasOtherName name) pieces) → AllByRecursion (HasOtherName name) (piece ∷ pieces)
    by_answer name piece pieces None e h later = (other_says name piece e, later h)
    by_answer name piece pieces (Some value) e h later = absurd cc

first_again : (name : List ℕ) (before : List (List ℕ)) (piece : List ℕ) (after : List (List ℕ)) (found : List ℕ) → AllByRecursion (HasOtherName name) before → IsNamed name piece found
    → first_named name (before ++ piece ∷ after) ≡ Some found
first_again name [] piece after found others named = ap (λ o. or_else o (first_named name after)) (named_again name piece found named)
first_again name (other ∷ before) piece after found others named =
    ap (λ o. or_else o (first_named name (before ++ piece ∷ after))) (other_again name other others.0) ∙ first_again name before piece after found others.1 named

none_again : (name : List ℕ) (pieces : List (List ℕ)) → AllByRecursion (HasOtherName name) pieces → first_named name pieces ≡ None
none_again name [] others = refl
none_again name (piece ∷ pieces) others = ap (λ o. or_else o (first_named name pieces)) (other_again name piece others.0) ∙ none_again name pieces others.1

-- ---- the law

parameter_says : (name value found : List ℕ) → parameter_of name value ≡ Some found → IsParameter name value found
unfolding parameter_of
parameter_says name value found e = by_pieces name value found (pieces_of value) (pieces_are value) e
  where
    by_pieces : (name value found : List ℕ) (pieces : List (List ℕ)) → ArePieces value pieces → first_named name (behind_first pieces) ≡ Some found → IsParameter name value found
    by_pieces name value found [] are e = absurd are
    by_pieces name value found (first ∷ others) are e =
        let f = first_says name others found e
        in record {
          first = first;
          before = f.before;
          piece = f.piece;
          after = f.after;
          pieces = subst (λ ps. ArePieces value (first ∷ ps)) f.parts are;
          others = f.others;
          named = f.named;
        }

pub parameter_again : (name value found : List ℕ) → IsParameter name value found → parameter_of name value ≡ Some found
unfolding parameter_of
parameter_again name value found h =
    ap (λ ps. first_named name (behind_first ps)) (pieces_again value (h.first ∷ h.before ++ h.piece ∷ h.after) h.pieces)
    ∙ first_again name h.before h.piece h.after found h.others h.named

nothing_says : (name value : List ℕ) → parameter_of name value ≡ None → HasNoParameter name value
unfolding parameter_of
nothing_says name value e = by_pieces name value (pieces_of value) (pieces_are value) e
  where
    by_pieces : (name value : List ℕ) (pieces : List (List ℕ)) → ArePieces value pieces → first_named name (behind_first pieces) ≡ None → HasNoParameter name value
    by_pieces name value [] are e = absurd are
    by_pieces name value (first ∷ others) are e = record { first = first; others = others; pieces = are; none = none_says name others e }

nothing_again : (name value : List ℕ) → HasNoParameter name value → parameter_of name value ≡ None
unfolding parameter_of
nothing_again name value h =
    ap (λ ps. first_named name (behind_first ps)) (pieces_again value (h.first ∷ h.others) h.pieces) ∙ none_again name h.others h.none

pub parameter_is : (name value found : List ℕ) → (parameter_of name value ≡ Some found → IsParameter name value found) × (IsParameter name value found → parameter_of name value ≡ Some found)
parameter_is name value found = (parameter_says name value found, parameter_again name value found)

pub nothing_is : (name value : List ℕ) → (parameter_of name value ≡ None → HasNoParameter name value) × (HasNoParameter name value → parameter_of name value ≡ None)
nothing_is name value = (nothing_says name value, nothing_again name value)
