-- What tests of lists mean.
use Rattle.std.proofs.Common.{◌≡◌, ◌↔◌, ℕ, zero, suc, ◌<◌, ◌==◌, arith, Bool, true, false, cond, not, ◌&&◌, ◌||◌, List, [], ◌∷◌, length, refl, sym, ◌∙◌, IsTrue, All, Option, Some, None, is_some}
use Rattle.std.specs.List.{filter, list_all, list_any}
use Rattle.std.specs.Option.{option_map}
use Rattle.std.specs.Str.{bytes_eq}
use Rattle.std.specs.Cmp.Lexicographic.{bytes_decides}
use Rattle.std.proofs.lemmas.Bool.{cases_Bool, false≢true}
use Rattle.std.proofs.lemmas.List.Elements.{All-nil, All-head, All-tail, All-cons}
use Rattle.pec_types.specs.Bytes.{Bytes, Path}
use Rattle.pec_ledger.specs.Along.{AllDiffer, StandsNotIn}
use Rattle.pec_shelf.specs.Settled.{all_differ}
use mathlib.Core.Logic.{⊎_elim}

or_false : (a b : Bool) → a || b ≡ false → (a ≡ false) × (b ≡ false)
or_false true b e = absurd (false≢true (sym e))
or_false false b e = (refl, e)

or_both : (a b : Bool) → a ≡ false → b ≡ false → a || b ≡ false
or_both true b e f = absurd (false≢true (sym e))
or_both false b e f = f

and_true : (a b : Bool) → a && b ≡ true → (a ≡ true) × (b ≡ true)
and_true true b e = (refl, e)
and_true false b e = absurd (false≢true e)

not_true : (a : Bool) → not a ≡ true → a ≡ false
not_true true e = absurd (false≢true e)
not_true false e = refl

unequal : (x y : Bytes) → (x ≡ y → ⊥) → bytes_eq x y ≡ false
unequal x y n = ⊎_elim (λ same. absurd (n ((bytes_decides x y).0 same))) (λ differ. differ) (cases_Bool (bytes_eq x y))

stands_not : (x : Bytes) (xs : Path) → list_any (bytes_eq x) xs ≡ false → StandsNotIn x xs
stands_not x [] e = tt
stands_not x (y ∷ ys) e =
    let parts = or_false (bytes_eq x y) (list_any (bytes_eq x) ys) e in
    (λ same. false≢true (sym parts.0 ∙ (bytes_decides x y).1 same), stands_not x ys parts.1)

stands : (x : Bytes) (xs : Path) → StandsNotIn x xs → list_any (bytes_eq x) xs ≡ false
stands x [] n = refl
stands x (y ∷ ys) n = or_both (bytes_eq x y) (list_any (bytes_eq x) ys) (unequal x y n.0) (stands x ys n.1)

pub differ : (xs : Path) → all_differ xs ≡ true → AllDiffer xs
differ [] e = tt
differ (x ∷ xs) e =
    let parts = and_true (not (list_any (bytes_eq x) xs)) (all_differ xs) e in
    (stands_not x xs (not_true (list_any (bytes_eq x) xs) parts.0), differ xs parts.1)

pub differ_back : (xs : Path) → AllDiffer xs → all_differ xs ≡ true
differ_back [] d = refl
differ_back (x ∷ xs) d = rw (stands x xs d.0) (differ_back xs d.1)

truth : (b : Bool) → b ≡ true → IsTrue b
truth b e = e

pub all_pass : {X : Type 0} (p : X → Bool) (xs : List X) → list_all p xs ≡ true → All (λ x. IsTrue (p x)) xs
all_pass p [] e = All-nil (λ x. IsTrue (p x))
all_pass p (x ∷ xs) e =
    let parts = and_true (p x) (list_all p xs) e in
    All-cons (λ x. IsTrue (p x)) x xs (truth (p x) parts.0) (all_pass p xs parts.1)

of_truth : (b : Bool) → IsTrue b → b ≡ true
of_truth b t = t

pub all_pass_back : {X : Type 0} (p : X → Bool) (xs : List X) → All (λ x. IsTrue (p x)) xs → list_all p xs ≡ true
all_pass_back p [] a = refl
all_pass_back p (x ∷ xs) a =
    rw (of_truth (p x) (All-head (λ x. IsTrue (p x)) x xs a)) (all_pass_back p xs (All-tail (λ x. IsTrue (p x)) x xs a))

pub all_is : {X : Type 0} (p : X → Bool) (xs : List X) (b : Bool) → b ≡ list_all p xs → IsTrue b ↔ All (λ x. IsTrue (p x)) xs
all_is p xs b e = (λ t. all_pass p xs (sym e ∙ of_truth b t), λ a. truth b (e ∙ all_pass_back p xs a))

pub differ_is : (xs : Path) (b : Bool) → b ≡ all_differ xs → IsTrue b ↔ AllDiffer xs
differ_is xs b e = (λ t. differ xs (sym e ∙ of_truth b t), λ d. truth b (e ∙ differ_back xs d))

-- some element passes where those that pass aren't none
pub some_pass : {X : Type 0} (p : X → Bool) (xs : List X) (b : Bool) → b ≡ list_any p xs → IsTrue b ↔ (0 < length (filter p xs))
some_pass p [] b e = (λ t. absurd (false≢true (sym e ∙ t)), λ l. absurd (omega (arith, l)))
some_pass p (x ∷ xs) b e = by (p x) (some_pass p xs b) e
  where
    by : (c : Bool) → (b ≡ list_any p xs → IsTrue b ↔ (0 < length (filter p xs))) → b ≡ c || list_any p xs
        → IsTrue b ↔ (0 < length (cond c (x ∷ filter p xs) (filter p xs)))
    by true more f = (λ t. omega arith, λ l. f)
    by false more f = more f

pub not_empty : (n : ℕ) (b : Bool) → b ≡ (n == 0) → b ≡ false → 0 < n
not_empty zero b e f = absurd (false≢true (sym f ∙ e))
not_empty (suc n) b e f = omega arith

pub missing : {X Y : Type 0} (o : Option X) (f : X → Y) (t : Option Y) (b : Bool) → option_map f o ≡ t → b ≡ is_some o → b ≡ false → t ≡ None
missing None f t b e s n = sym e
missing (Some x) f t b e s n = absurd (false≢true (sym n ∙ s))
