-- Options, and paths of addresses in which none stands twice.
use Rattle.std.proofs.Common.{◌≡◌, ℕ, zero, suc, ◌+◌, ◌<◌, ◌≤◌, Bool, true, false, not, ◌||◌, cond, List, [], ◌∷◌, ◌++◌, length, map, slice_get, Option, None, Some, refl, ap, sym, ◌∙◌, subst, arith}
use Rattle.std.specs.Prelude.{Contains}
use Rattle.std.specs.List.{AllByRecursion, find, position_or_len}
use Rattle.std.specs.Option.{option_and_then}
use Rattle.std.specs.Str.{bytes_eq}
use Rattle.std.proofs.lemmas.Bool.{false≢true, lt-ltb}
use Rattle.std.proofs.Math.Bool.{or-true}
use Rattle.std.proofs.lemmas.Option.{none-some, same_Some}
use Rattle.std.proofs.lemmas.Slice.Eq.{bytes_eq-Decides}
use Rattle.pec_types.specs.Bytes.{Bytes, Path}
use Rattle.pec_types.specs.declared.messages.Recipient.{Recipient}
use Rattle.pec_heads.specs.BoundedFacts.{AllDifferent}
use Rattle.pec_heads.specs.FactsOfHeads.{has_address}
use Rattle.pec_receipts.specs.Receipts.{has_address as is_of, place_among}
use Rattle.pec_ledger.specs.Along.{AllDiffer, StandsNotIn}

-- ---- options and lists

pub at_number : {X : Type 0} (xs : List X) (n : ℕ) → n < length xs → (x : X) × (slice_get xs n ≡ Some x)
at_number [] n within = absurd (omega arith)
at_number (x ∷ xs) zero within = (x, refl)
at_number (x ∷ xs) (suc n) within = at_number xs n (omega arith)

pub then_some : {A B : Type 0} (o : Option A) (f : A → Option B) (y : B) → option_and_then f o ≡ Some y → (x : A) × ((o ≡ Some x) × (f x ≡ Some y))
then_some None f y e = absurd (none-some y e)
then_some (Some x) f y e = (x, (refl, e))

pub all_joined : {X : Type 0} (P : X → Type 0) (xs ys : List X) → AllByRecursion P xs → AllByRecursion P ys → AllByRecursion P (xs ++ ys)
all_joined P [] ys a b = b
all_joined P (x ∷ xs) ys a b = (a.0, all_joined P xs ys a.1 b)

pub all_mapped : {X Y : Type 0} (P : Y → Type 0) (f : X → Y) (xs : List X) → AllByRecursion (λ x. P (f x)) xs → AllByRecursion P (map f xs)
all_mapped P f [] a = tt
all_mapped P f (x ∷ xs) a = (a.0, all_mapped P f xs a.1)

-- what is found passes, and has what all have
pub found_has : {X : Type 0} (P : X → Type 0) (test : X → Bool) (xs : List X) (x : X) → AllByRecursion P xs → find test xs ≡ Some x → (test x ≡ true) × P x
found_has {X} P test [] x a e = absurd (none-some x e)
found_has {X} P test (y ∷ ys) x a e = here (test y) refl (found_has P test ys x a.1) e
  where
    here : (t : Bool) → test y ≡ t → (find test ys ≡ Some x → (test x ≡ true) × P x) → cond t (Some y) (find test ys) ≡ Some x → (test x ≡ true) × P x
    here true is more e = (ap test (sym (same_Some y x e)) ∙ is, subst P (same_Some y x e) a.0)
    here false is more e = more e

-- ---- Bool

pub first_no : (a b : Bool) → (a || b) ≡ false → a ≡ false
first_no true b e = absurd (false≢true (sym e))
first_no false b e = refl

pub second_no : (a b : Bool) → (a || b) ≡ false → b ≡ false
second_no true b e = absurd (false≢true (sym e))
second_no false b e = e

-- what isn't unequal is equal
pub stable : (a b : Bool) → ((a ≡ b → ⊥) → ⊥) → a ≡ b
stable true true n = refl
stable false false n = refl
stable true false n = absurd (n (λ e. false≢true (sym e)))
stable false true n = absurd (n false≢true)

either_no : (a b : Bool) → a ≡ false → b ≡ false → (a || b) ≡ false
either_no false b e f = f
either_no true b e f = absurd (false≢true (sym e))

pub both_no : (a : Bool) → a ≡ true → a ≡ false → ⊥
both_no true e f = false≢true (sym f)
both_no false e f = false≢true e

-- ---- paths

same_address : (a b : Bytes) → bytes_eq a b ≡ true → a ≡ b
same_address a b e = (bytes_eq-Decides a b).0 e

pub equal_itself : (a : Bytes) → bytes_eq a a ≡ true
equal_itself a = (bytes_eq-Decides a a).1 refl

turned : (a b : Bytes) → bytes_eq a b ≡ true → bytes_eq b a ≡ true
turned a b e = (bytes_eq-Decides b a).1 (sym (same_address a b e))

turned_no : (a b : Bytes) → bytes_eq a b ≡ false → bytes_eq b a ≡ false
turned_no a b e = by (bytes_eq b a) refl
  where
    by : (t : Bool) → bytes_eq b a ≡ t → t ≡ false
    by true is = absurd (both_no (bytes_eq a b) (turned b a is) e)
    by false is = refl

-- no address stands again behind itself
stands_not : (a : Bytes) (others : Path) → has_address others a ≡ false → StandsNotIn a others
stands_not a [] e = tt
stands_not a (b ∷ others) e = (
  (λ same. both_no (bytes_eq b a) ((bytes_eq-Decides b a).1 (sym same)) (first_no (bytes_eq b a) (has_address others a) e)),
  stands_not a others (second_no (bytes_eq b a) (has_address others a) e),
)

pub they_differ : (path : Path) → AllDifferent path → AllDiffer path
they_differ [] d = tt
they_differ (a ∷ path) d = (stands_not a path d.0, they_differ path d.1)

-- a path without the first of an address
abbrev without : Bytes → Path → Path
without a [] = []
without a (b ∷ path) = cond (bytes_eq b a) path (b ∷ without a path)

shorter : (a : Bytes) (path : Path) → has_address path a ≡ true → length path ≡ length (without a path) + 1
shorter a [] e = absurd (false≢true e)
shorter a (b ∷ path) e = here (bytes_eq b a) (shorter a path) e
  where
    here : (t : Bool) → (has_address path a ≡ true → length path ≡ length (without a path) + 1) → (t || has_address path a) ≡ true
        → length (b ∷ path) ≡ length (cond t path (b ∷ without a path)) + 1
    here true more e = omega arith
    here false more e = omega (arith, more e)

stays : (a c : Bytes) (path : Path) → bytes_eq a c ≡ false → has_address path c ≡ true → has_address (without a path) c ≡ true
stays a c [] n e = absurd (false≢true e)
stays a c (b ∷ path) n e = here (bytes_eq b a) refl (bytes_eq b c) refl (stays a c path n) e
  where
    here : (t : Bool) → bytes_eq b a ≡ t → (u : Bool) → bytes_eq b c ≡ u → (has_address path c ≡ true → has_address (without a path) c ≡ true)
        → (u || has_address path c) ≡ true → has_address (cond t path (b ∷ without a path)) c ≡ true
    here true is true has more e = absurd (both_no (bytes_eq a c) (subst (λ (x : Bytes). bytes_eq x c ≡ true) (same_address b a is) has) n)
    here true is false has more e = e
    here false is true has more e = ap (λ (x : Bool). x || has_address (without a path) c) has
    here false is false has more e = ap (λ (x : Bool). x || has_address (without a path) c) has ∙ more e

-- addresses of which none stands twice are no more than those of a path in which all of them stand
pub no_more : (xs path : Path) → AllDifferent xs → ((x : Bytes) → has_address xs x ≡ true → has_address path x ≡ true) → length xs ≤ length path
no_more [] path d all = omega arith
no_more (a ∷ xs) path d all =
    let there = all a (ap (λ (t : Bool). t || has_address xs a) (equal_itself a))
    in let more = no_more xs (without a path) d.1 (λ c in_xs. stays a c path (other c in_xs (bytes_eq a c) refl)
    (all c (ap (λ (t : Bool). bytes_eq a c || t) in_xs ∙ or-true (bytes_eq a c))))
    in omega (arith, shorter a path there)
  where
    other : (c : Bytes) → has_address xs c ≡ true → (t : Bool) → bytes_eq a c ≡ t → bytes_eq a c ≡ false
    other c in_xs true is = absurd (both_no (has_address xs a) (subst (λ (x : Bytes). has_address xs x ≡ true) (sym (same_address a c is)) in_xs) d.0)
    other c in_xs false is = is

-- ---- places among recipients

in_path : (path : Path) (a : Bytes) → Contains path a → has_address path a ≡ true
in_path [] a (k, within, is) = absurd (omega arith)
in_path (b ∷ path) a (zero, within, is) = ap (λ (t : Bool). t || has_address path a) ((bytes_eq-Decides b a).1 is)
in_path (b ∷ path) a (suc k, within, is) =
    ap (λ (t : Bool). bytes_eq b a || t) (in_path path a (k, omega arith, is)) ∙ or-true (bytes_eq b a)

first_place : (a : Bytes) (all : List Recipient) → has_address (map (λ (r : Recipient). r.address) all) a ≡ true → position_or_len (is_of a) all < length all
first_place a [] e = absurd (false≢true e)
first_place a (r ∷ all) e = here (bytes_eq r.address a) (first_place a all) e
  where
    here : (t : Bool) → (has_address (map (λ (x : Recipient). x.address) all) a ≡ true → position_or_len (is_of a) all < length all)
        → (t || has_address (map (λ (x : Recipient). x.address) all) a) ≡ true → cond (not t) (1 + position_or_len (is_of a) all) 0 < length (r ∷ all)
    here true more e = omega arith
    here false more e = omega (arith, more e)

-- an address that is one of the recipients' has its place among them
pub placed : (a : Bytes) (all : List Recipient) → Contains (map (λ (r : Recipient). r.address) all) a → (place : ℕ) × (place_among all a ≡ Some place)
unfolding place_among
placed a all there =
    let within = first_place a all (in_path (map (λ (r : Recipient). r.address) all) a there)
    in (
      position_or_len (is_of a) all,
      ap (λ (t : Bool). cond t (Some (position_or_len (is_of a) all)) None) (lt-ltb (position_or_len (is_of a) all) (length all) within),
    )
