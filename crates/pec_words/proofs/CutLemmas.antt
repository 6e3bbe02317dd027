-- A text is cut at its first separator and then behind it; its parts are what it is cut into, and no others.
use Rattle.std.proofs.Common.{◌≡◌, ◌≢◌, ℕ, suc, ◌+◌, ◌<◌, Bool, true, false, cond, eqb, List, [], ◌∷◌, length, take, drop, position, Option, Some, None, MatchOption, refl, sym, ◌∙◌, ap, subst, arith}
use Rattle.std.proofs.lemmas.Bool.{eqb-false, ne_eqb}
use Rattle.std.proofs.lemmas.Iterator.Adapters.{position_from-zero}
use Rattle.std.proofs.lemmas.List.Elements.{All-cons, All-nil}
use Rattle.std.proofs.lemmas.List.Splits.{join_with_byte-slice_split, length-slice_split, slice_split_at, slice_split_none}
use Rattle.std.specs.Prelude.{count_by}
use Rattle.std.specs.List.{All, AllByRecursion, join_with_byte, onto_first, position_from, slice_split}
use Rattle.pec_types.specs.Bytes.{Bytes}
use Rattle.pec_words.specs.Cuts.{IsCut, Lacks, is_at}

-- ---- the first cut

-- where the first separator stands, the text is cut
pub record CutsAt (c : ℕ) (text : Bytes) (from at : ℕ) : Type 0 where
  pub place : ℕ
  pub is : at ≡ from + place
  pub parts : slice_split (is_at c) text ≡ take place text ∷ slice_split (is_at c) (drop (place + 1) text)

abbrev Tells : ℕ → Bytes → ℕ → Option ℕ → Type 0
Tells c text from answer = MatchOption answer (slice_split (is_at c) text ≡ text ∷ []) (λ at. CutsAt c text from at)

further : (c b : ℕ) (bs : Bytes) (from : ℕ) (answer : Option ℕ) → eqb b c ≡ false → Tells c bs (from + 1) answer → Tells c (b ∷ bs) from answer
further c b bs from None other told = rw other (ap (λ parts. onto_first b parts) told)
further c b bs from (Some at) other told =
    let one_more : suc told.place + 1 ≡ suc (told.place + 1) = omega arith in
    record {
      place = suc told.place;
      is = omega (arith, told.is);
      parts = rw other (ap (λ parts. onto_first b parts) told.parts ∙ ap (λ n. (b ∷ take told.place bs) ∷ slice_split (is_at c) (drop n (b ∷ bs))) (sym one_more));
    }

step : (c b : ℕ) (bs : Bytes) (from : ℕ) (x : Bool) → eqb b c ≡ x → Tells c bs (from + 1) (position_from (is_at c) (from + 1) bs)
    → Tells c (b ∷ bs) from (cond x (Some from) (position_from (is_at c) (from + 1) bs))
step c b bs from true here told = record { place = 0; is = omega arith; parts = rw here refl }
step c b bs from false other told = further c b bs from (position_from (is_at c) (from + 1) bs) other told

told_from : (c : ℕ) (text : Bytes) (from : ℕ) → Tells c text from (position_from (is_at c) from text)
told_from c [] from = refl
told_from c (b ∷ bs) from = step c b bs from (eqb b c) refl (told_from c bs (from + 1))

told : (c : ℕ) (text : Bytes) → Tells c text 0 (position (is_at c) text)
told c text = subst (λ o. Tells c text 0 o) (sym (position_from-zero (is_at c) text)) (told_from c text 0)

pub not_cut : (c : ℕ) (text : Bytes) → None ≡ position (is_at c) text → slice_split (is_at c) text ≡ text ∷ []
not_cut c text none = subst (λ o. Tells c text 0 o) (sym none) (told c text)

pub cut_at : (c : ℕ) (text : Bytes) (at : ℕ) → Some at ≡ position (is_at c) text → slice_split (is_at c) text ≡ take at text ∷ slice_split (is_at c) (drop (at + 1) text)
cut_at c text at found =
    let here : CutsAt c text 0 at = subst (λ o. Tells c text 0 o) (sym found) (told c text) in
    let same : here.place ≡ at = omega (arith, here.is) in
    subst (λ n. slice_split (is_at c) text ≡ take n text ∷ slice_split (is_at c) (drop (n + 1) text)) same here.parts

-- ---- all parts

pub tests_from : (c : ℕ) (bytes : Bytes) → Lacks c bytes → All (λ b. eqb b c ≡ false) bytes
tests_from c [] h = All-nil (λ b. eqb b c ≡ false)
tests_from c (b ∷ bs) h = All-cons (λ x. eqb x c ≡ false) b bs (ne_eqb b c h.0) (tests_from c bs h.1)

-- the parts are what the text is cut into
pub parts_again : (c : ℕ) (parts : List Bytes) → 0 < length parts → AllByRecursion (Lacks c) parts → slice_split (is_at c) (join_with_byte c parts) ≡ parts
parts_again c [] some whole = absurd (omega arith)
parts_again c (part ∷ []) some whole = slice_split_none (is_at c) part (tests_from c part whole.0)
parts_again c (part ∷ next ∷ parts) some whole =
    slice_split_at (is_at c) part c (join_with_byte c (next ∷ parts)) (tests_from c part whole.0) (eqb-same c)
    ∙ ap (λ ps. part ∷ ps) (parts_again c (next ∷ parts) (omega arith) whole.1)
  where
    eqb-same : (n : ℕ) → eqb n n ≡ true
    eqb-same n = by_test (eqb n n) refl
      where
        by_test : (x : Bool) → eqb n n ≡ x → x ≡ true
        by_test true e = refl
        by_test false e = absurd (eqb-false n n e refl)

pub split_again : (c : ℕ) (text : Bytes) (parts : List Bytes) → IsCut c text parts → slice_split (is_at c) text ≡ parts
split_again c text parts is = ap (slice_split (is_at c)) is.joined ∙ parts_again c parts is.some is.whole

-- what the text is cut into has no separator
abbrev AllLack : ℕ → List Bytes → Type 0
AllLack c parts = AllByRecursion (Lacks c) parts

onto_lacks : (c b : ℕ) (parts : List Bytes) → b ≢ c → AllLack c parts → AllLack c (onto_first b parts)
onto_lacks c b [] other whole = ((other, tt), tt)
onto_lacks c b (part ∷ parts) other whole = ((other, whole.0), whole.1)

cut_lacks : (c b : ℕ) (bs : Bytes) (x : Bool) → eqb b c ≡ x → AllLack c (slice_split (is_at c) bs)
    → AllLack c (cond x ([] ∷ slice_split (is_at c) bs) (onto_first b (slice_split (is_at c) bs)))
cut_lacks c b bs true e whole = (tt, whole)
cut_lacks c b bs false e whole = onto_lacks c b (slice_split (is_at c) bs) (eqb-false b c e) whole

split_lacks : (c : ℕ) (text : Bytes) → AllLack c (slice_split (is_at c) text)
split_lacks c [] = (tt, tt)
split_lacks c (b ∷ bs) = cut_lacks c b bs (eqb b c) refl (split_lacks c bs)

pub split_is : (c : ℕ) (text : Bytes) (parts : List Bytes) → slice_split (is_at c) text ≡ parts → IsCut c text parts
split_is c text parts e = subst (IsCut c text) e (record {
  some = omega (arith, length-slice_split (is_at c) text);
  joined = sym (join_with_byte-slice_split c text);
  whole = split_lacks c text;
})
