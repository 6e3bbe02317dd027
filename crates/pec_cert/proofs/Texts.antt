-- Escaped texts are read exactly.
use Rattle.std.proofs.Common.{◌≡◌, ℕ, ◌+◌, Bool, true, false, not, ◌||◌, cond, eqb, List, [], ◌∷◌, ◌++◌, length, Some, None, Ok, Err, refl, sym, ap, subst, ◌∙◌, inl, inr, arith, eqb-true}
use Rattle.std.specs.Prelude.{◌⊎◌, codes, IsTrue}
use Rattle.std.specs.List.{flat_map, AllByRecursion, position_from}
use Rattle.std.proofs.lemmas.Bool.{false≢true}
use Rattle.std.proofs.lemmas.Iterator.Adapters.{position_from-zero}
use Rattle.pec_types.specs.Text.{is_unprintable, AllPrintable}
use Rattle.pec_grammar.specs.Grammar.{Cursor, Read, Grammar, byte, choice, HasValue, union, word, many, many_at, ended_at, led, word_at, ◌>>=◌, seen_at, both_at}
use Rattle.pec_grammar.proofs.Parts.{Answers, Lawful, byte_lawful}
use Rattle.pec_grammar.proofs.Sequences.{seen_lawful, same_lawful, word_lawful, led_lawful}
use Rattle.pec_grammar.proofs.Alternatives.{Apart, HasByte, union_lawful, many_lawful}
use Rattle.pec_grammar.proofs.Openings.{choice_lawful, Opens}
use Rattle.pec_cert.specs.Markup.{escape}
use Rattle.pec_cert.specs.LinesReading.{is_plain, escapes, char_at, content_at, element_at}

not_or : (x y : Bool) → not (x || y) ≡ true → (x ≡ false) × (not y ≡ true)
not_or true y e = absurd (false≢true e)
not_or false y e = (refl, e)

pub record Plain (c : ℕ) : Type 0 where
  pub printable : is_unprintable c ≡ false
  pub amp : eqb c 38 ≡ false
  pub lt : eqb c 60 ≡ false
  pub gt : eqb c 62 ≡ false
  pub quot : eqb c 34 ≡ false

pub plain_is : (c : ℕ) → is_plain c ≡ true → Plain c
plain_is c e =
    let a = not_or (is_unprintable c) (eqb c 38 || (eqb c 60 || (eqb c 62 || eqb c 34))) e in
    let b = not_or (eqb c 38) (eqb c 60 || (eqb c 62 || eqb c 34)) a.1 in
    let d = not_or (eqb c 60) (eqb c 62 || eqb c 34) b.1 in
    let f = not_or (eqb c 62) (eqb c 34) d.1 in
    record { printable = a.0; amp = b.0; lt = d.0; gt = f.0; quot = last (eqb c 34) f.1 }
  where
    last : (x : Bool) → not x ≡ true → x ≡ false
    last true e = absurd (false≢true e)
    last false e = refl

pub plain_spelled : (c : ℕ) → is_plain c ≡ true → c ∷ [] ≡ escape c
plain_spelled c e = let p = plain_is c e in rw (p.amp, p.lt, p.gt, p.quot) refl

-- an escape begins with `&`
escaped_first : (c : ℕ) → HasValue escapes c → (more : List ℕ) × (escape c ≡ 38 ∷ more)
escaped_first c has = elim has [
  | inl is ↦ (codes "amp;", ap escape is)
  | inr h ↦ elim h [
    | inl is ↦ (codes "lt;", ap escape is)
    | inr k ↦ elim k [
      | inl is ↦ (codes "gt;", ap escape is)
      | inr m ↦ elim m [ inl is ↦ (codes "quot;", ap escape is) | inr none ↦ absurd none ]
    ]
  ]
]

escaped_printable : (c : ℕ) → HasValue escapes c → is_unprintable c ≡ false
escaped_printable c has = elim has [
  | inl is ↦ ap is_unprintable is
  | inr h ↦ elim h [
    | inl is ↦ ap is_unprintable is
    | inr k ↦ elim k [
      | inl is ↦ ap is_unprintable is
      | inr m ↦ elim m [ inl is ↦ ap is_unprintable is | inr none ↦ absurd none ]
    ]
  ]
]

plain_or_escaped : (c : ℕ) (a b d e : Bool) → is_unprintable c ≡ false → eqb c 38 ≡ a → eqb c 60 ≡ b → eqb c 62 ≡ d → eqb c 34 ≡ e → IsTrue (is_plain c) ⊎ HasValue escapes c
plain_or_escaped c true b d e u ea eb ed ee = inr (inl (eqb-true c 38 ea))
plain_or_escaped c false true d e u ea eb ed ee = inr (inr (inl (eqb-true c 60 eb)))
plain_or_escaped c false false true e u ea eb ed ee = inr (inr (inr (inl (eqb-true c 62 ed))))
plain_or_escaped c false false false true u ea eb ed ee = inr (inr (inr (inr (inl (eqb-true c 34 ee)))))
plain_or_escaped c false false false false u ea eb ed ee = inl (rw (u, ea, eb, ed, ee) refl)

abbrev pub character : Grammar ℕ
character = record { Fits = λ c. is_unprintable c ≡ false; spell = escape; read = char_at }

plain_apart : Apart (byte is_plain) (choice escape escapes)
plain_apart x y a b x_fits y_fits same =
    let first = escaped_first y y_fits in
    let begins : x ∷ a ≡ 38 ∷ (first.0 ++ b) = same ∙ ap (λ z. z ++ b) first.1 in
    let is : x ≡ 38 = cc in
    let amp : eqb x 38 ≡ true = ap (λ n. eqb n 38) is in
    false≢true (sym (plain_is x x_fits).amp ∙ amp)

pub character_lawful : Lawful character
unfolding char_at
character_lawful =
    same_lawful (union escape (byte is_plain) (choice escape escapes)) character
    (λ c fits. elim fits [ inl plain ↦ (plain_is c plain).printable | inr has ↦ escaped_printable c has ])
    (λ c fits. plain_or_escaped c (eqb c 38) (eqb c 60) (eqb c 62) (eqb c 34) fits refl refl refl refl)
    (λ c fits. refl) (λ at. refl)
    (union_lawful escape (byte is_plain) (choice escape escapes) (λ c fits. plain_spelled c fits) (λ c fits. refl) plain_apart
    (byte_lawful is_plain 97 refl)
    (choice_lawful escape (codes "&amp;", 38) ((codes "&lt;", 60) ∷ (codes "&gt;", 62) ∷ (codes "&quot;", 34) ∷ []) (refl, (refl, (refl, (refl, tt)))) refl))

-- a spelling's first byte, which is no `<`
pub record IsInText (text : List ℕ) : Type 0 where
  pub first : ℕ
  pub more : List ℕ
  pub parts : text ≡ first ∷ more
  pub other : eqb first 60 ≡ false

first_byte : (c : ℕ) → is_unprintable c ≡ false → IsInText (escape c)
first_byte c fits = elim (plain_or_escaped c (eqb c 38) (eqb c 60) (eqb c 62) (eqb c 34) fits refl refl refl refl) [
  | inl plain ↦ record { first = c; more = []; parts = sym (plain_spelled c plain); other = (plain_is c plain).lt }
  | inr has ↦ let e = escaped_first c has in record { first = 38; more = e.0; parts = e.1; other = refl }
]

pub character_has_byte : HasByte character
character_has_byte c fits = let f = first_byte c fits in omega (arith, ap length f.parts)

-- a byte that was read is printable
pub read_printable : (at after : Cursor) (c : ℕ) → char_at at ≡ Ok (c, after) → is_unprintable c ≡ false
read_printable at after c read = (subst (λ r. Answers character at r) read (character_lawful.answers at)).fits

-- All printable, by recursion and by position.

all_step : (c from : ℕ) (text : List ℕ) (t : Bool) → is_unprintable c ≡ t → cond t (Some from) (position_from is_unprintable (from + 1) text) ≡ None
    → (position_from is_unprintable (from + 1) text ≡ None → AllByRecursion (λ c. is_unprintable c ≡ false) text) → AllByRecursion (λ c. is_unprintable c ≡ false) (c ∷ text)
all_step c from text true is found further = let h : ⊥ = cc in absurd h
all_step c from text false is found further = (is, further found)

all_from : (text : List ℕ) (from : ℕ) → position_from is_unprintable from text ≡ None → AllByRecursion (λ c. is_unprintable c ≡ false) text
all_from [] from e = tt
all_from (c ∷ text) from e = all_step c from text (is_unprintable c) refl e (all_from text (from + 1))

none_from : (text : List ℕ) (from : ℕ) → AllByRecursion (λ c. is_unprintable c ≡ false) text → position_from is_unprintable from text ≡ None
none_from [] from all = refl
none_from (c ∷ text) from all = rw all.0 (none_from text (from + 1) all.1)

pub all_printable : (text : List ℕ) → AllPrintable text → AllByRecursion (λ c. is_unprintable c ≡ false) text
all_printable text e = all_from text 0 (sym (position_from-zero is_unprintable text) ∙ e)

pub printable_all : (text : List ℕ) → AllByRecursion (λ c. is_unprintable c ≡ false) text → AllPrintable text
printable_all text all = position_from-zero is_unprintable text ∙ none_from text 0 all

all_push : (text : List ℕ) (c : ℕ) → AllByRecursion (λ c. is_unprintable c ≡ false) text → is_unprintable c ≡ false → AllByRecursion (λ c. is_unprintable c ≡ false) (text ++ c ∷ [])
all_push [] c all fits = (fits, tt)
all_push (b ∷ bs) c all fits = (all.0, all_push bs c all.1 fits)

pub printable_push : (text : List ℕ) (c : ℕ) → AllPrintable text → is_unprintable c ≡ false → AllPrintable (text ++ c ∷ [])
printable_push text c e fits = printable_all (text ++ c ∷ []) (all_push text c (all_printable text e) fits)

-- A text and its closing tag, which begins with `<`.

content_apart : (tag : List ℕ) → Apart character (word (60 ∷ tag))
content_apart tag x y a b x_fits y_fits same =
    let f = first_byte x x_fits in
    let begins : f.first ∷ (f.more ++ a) ≡ 60 ∷ (tag ++ b) = ap (λ z. z ++ a) (sym f.parts) ∙ same in
    let is : f.first ≡ 60 = cc in
    let lt : eqb f.first 60 ≡ true = ap (λ n. eqb n 60) is in
    false≢true (sym f.other ∙ lt)

abbrev pub content : List ℕ → Grammar (List ℕ)
content tag = record { Fits = AllPrintable; spell = λ text. flat_map escape text ++ tag; read = content_at tag }

content_step : (tag : List ℕ) (at : Cursor) (r : Read (List ℕ)) → ended_at (λ _. r) tag at ≡ seen_at (λ p. p.0) (both_at (λ _. r) (word_at tag)) at
content_step tag at (Ok taken) = rest_step (word_at tag taken.1)
  where
    rest_step : (r : Read (Unit {0})) → (r >>= λ w. Ok (taken.0, w.1)) ≡ seen_at (λ p. p.0) (both_at (λ _. Ok taken) (λ _. r)) at
    rest_step (Ok w) = refl
    rest_step (Err stop) = refl
content_step tag at (Err stop) = refl

pub content_lawful : (tag : List ℕ) → Lawful (content (60 ∷ tag))
unfolding content_at
content_lawful tag =
    seen_lawful (many character (word (60 ∷ tag))) (content (60 ∷ tag)) (λ p. p.0) (λ text. (text, tt))
    (record {
      there = λ p fits. printable_all p.0 fits.0;
      spelled = λ p fits. refl;
      again = λ text fits. (all_printable text fits, tt);
      respelled = λ text fits. refl;
      undone = λ text fits. refl;
    })
    (λ at. content_step (60 ∷ tag) at (many_at char_at at))
    (many_lawful character (word (60 ∷ tag)) (content_apart tag) character_has_byte character_lawful (word_lawful (60 ∷ tag)))

abbrev pub tagged : List ℕ → List ℕ → Grammar (List ℕ)
tagged start_tag end_tag = record { Fits = AllPrintable; spell = λ text. start_tag ++ (flat_map escape text ++ end_tag); read = element_at start_tag end_tag }

pub tagged_lawful : (start_tag end_tag : List ℕ) → Lawful (tagged start_tag (60 ∷ end_tag))
unfolding element_at
tagged_lawful start_tag end_tag =
    same_lawful (led start_tag (content (60 ∷ end_tag))) (tagged start_tag (60 ∷ end_tag)) (λ x fits. fits) (λ x fits. fits) (λ x fits. refl) (λ at. refl)
    (led_lawful start_tag (content (60 ∷ end_tag)) (content_lawful end_tag))

pub tagged_opens : (start_tag end_tag : List ℕ) → Opens (tagged start_tag end_tag) (start_tag ∷ [])
tagged_opens start_tag end_tag x fits = record { front = start_tag; among = inl refl; more = flat_map escape x ++ end_tag; parts = refl }
