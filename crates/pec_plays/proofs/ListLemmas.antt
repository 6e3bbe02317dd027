-- Lists, filters and look-ups, and what the tests of the ledger on ids, pairs and homes stand for.
use Rattle.std.proofs.Common.{◌≡◌, ℕ, zero, suc, ◌<◌, List, [], ◌∷◌, Bool, true, false, not, ◌||◌, cond, ◌⊎◌, inl, inr, length, map, refl, ap, sym, subst, ◌∙◌, arith, Option, Some, None}
use Rattle.std.specs.Prelude.{Contains, IsSome, filter, is_none, ◌==◌}
use Rattle.std.specs.List.{find, list_any}
use Rattle.std.specs.Option.{option_or}
use Rattle.std.specs.Str.{bytes_eq}
use Rattle.std.proofs.lemmas.Bool.{and_from, and_parts, eqb-true, eq-eqb, false≢true}
use Rattle.std.proofs.lemmas.List.Folds.{find-append}
use Rattle.std.proofs.lemmas.Option.{none-some, same_Some}
use Rattle.std.proofs.lemmas.Slice.Eq.{bytes_eq-Decides}
use Rattle.pec_types.specs.Bytes.{Bytes, Path}
use Rattle.pec_types.specs.Message.{Id}
use Rattle.pec_ledger.specs.Along.{AllDiffer, GoesOnAs, StandsNotIn}
use Rattle.pec_ledger.specs.Lookups.{is_home}
use Rattle.pec_ledger.specs.Pairs.{Pair, pair_of, same_id, same_pair}
use Rattle.pec_plays.specs.Reception.{each_once}

-- ---- items

pub contains_cases : {X : Type 0} (y : X) (xs : List X) (x : X) → Contains (y ∷ xs) x → (y ≡ x) ⊎ Contains xs x
contains_cases y xs x (zero, l, e) = inl e
contains_cases y xs x (suc k, l, e) = inr (k, omega arith, e)

pub contains_none : {X : Type 0} (x : X) → Contains [] x → ⊥
contains_none x (k, l, e) = omega arith

pub contains_here : {X : Type 0} (x : X) (xs : List X) → Contains (x ∷ xs) x
contains_here x xs = (0, omega arith, refl)

pub contains_there : {X : Type 0} (y : X) (xs : List X) (x : X) → Contains xs x → Contains (y ∷ xs) x
contains_there y xs x (k, l, e) = (suc k, omega arith, e)

pub some_item : {X : Type 0} (xs : List X) → 0 < length xs → (x : X) × Contains xs x
some_item [] l = absurd (omega arith)
some_item (x ∷ xs) l = (x, contains_here x xs)

pub some_length : {X : Type 0} (xs : List X) (x : X) → Contains xs x → 0 < length xs
some_length [] x c = absurd (contains_none x c)
some_length (y ∷ xs) x c = omega arith

pub into_map : {X Y : Type 0} (f : X → Y) (xs : List X) (x : X) → Contains xs x → Contains (map f xs) (f x)
into_map f [] x c = absurd (contains_none x c)
into_map f (y ∷ xs) x c =
    elim (contains_cases y xs x c) [
      | inl same ↦ subst (λ z. Contains (f y ∷ map f xs) z) (ap f same) (contains_here (f y) (map f xs))
      | inr there ↦ contains_there (f y) (map f xs) (f x) (into_map f xs x there)
    ]

-- ---- filters

kept : {X : Type 0} (p : X → Bool) (y : X) (xs : List X) (x : X) (b : Bool) → p y ≡ b → (Contains (filter p xs) x → Contains xs x × (p x ≡ true))
    → Contains (cond b (y ∷ filter p xs) (filter p xs)) x → Contains (y ∷ xs) x × (p x ≡ true)
kept p y xs x true e more c =
    elim (contains_cases y (filter p xs) x c) [
      | inl same ↦ (subst (λ z. Contains (y ∷ xs) z) same (contains_here y xs), subst (λ z. p z ≡ true) same e)
      | inr there ↦ (contains_there y xs x (more there).0, (more there).1)
    ]
kept p y xs x false e more c = (contains_there y xs x (more c).0, (more c).1)

pub from_filter : {X : Type 0} (p : X → Bool) (xs : List X) (x : X) → Contains (filter p xs) x → Contains xs x × (p x ≡ true)
from_filter p [] x c = absurd (contains_none x c)
from_filter p (y ∷ xs) x c = kept p y xs x (p y) refl (from_filter p xs x) c

kept_so : {X : Type 0} (y : X) (xs : List X) (x : X) (b : Bool) → ((y ≡ x) × (b ≡ true)) ⊎ Contains xs x → Contains (cond b (y ∷ xs) xs) x
kept_so y xs x true (inl (same, e)) = subst (λ z. Contains (y ∷ xs) z) same (contains_here y xs)
kept_so y xs x false (inl (same, e)) = absurd (false≢true e)
kept_so y xs x true (inr c) = contains_there y xs x c
kept_so y xs x false (inr c) = c

pub into_filter : {X : Type 0} (p : X → Bool) (xs : List X) (x : X) → Contains xs x → p x ≡ true → Contains (filter p xs) x
into_filter p [] x c e = absurd (contains_none x c)
into_filter p (y ∷ xs) x c e =
    kept_so y (filter p xs) x (p y)
    (elim (contains_cases y xs x c) [
      | inl same ↦ inl (same, ap p same ∙ e)
      | inr there ↦ inr (into_filter p xs x there e)
    ])

-- filters keep that all differ
not_in_filter : {X : Type 0} (p : X → Bool) (x : X) (xs : List X) → StandsNotIn x xs → StandsNotIn x (filter p xs)
not_in_filter p x [] n = tt
not_in_filter p x (y ∷ xs) n = by_test (p y) n (not_in_filter p x xs n.1)
  where
    by_test : (b : Bool) → StandsNotIn x (y ∷ xs) → StandsNotIn x (filter p xs) → StandsNotIn x (cond b (y ∷ filter p xs) (filter p xs))
    by_test true n rest = (n.0, rest)
    by_test false n rest = rest

pub differ_filter : {X : Type 0} (p : X → Bool) (xs : List X) → AllDiffer xs → AllDiffer (filter p xs)
differ_filter p [] d = tt
differ_filter p (x ∷ xs) d = by_test (p x) (not_in_filter p x xs d.0) (differ_filter p xs d.1)
  where
    by_test : (b : Bool) → StandsNotIn x (filter p xs) → AllDiffer (filter p xs) → AllDiffer (cond b (x ∷ filter p xs) (filter p xs))
    by_test true n rest = (n, rest)
    by_test false n rest = rest

filtered_out : {X : Type 0} (same : X → X → Bool) → ((x : X) → same x x ≡ true) → (x : X) (xs : List X) → StandsNotIn x (filter (λ y. not (same x y)) xs)
filtered_out same again x [] = tt
filtered_out same again x (y ∷ xs) = by_test (same x y) refl (filtered_out same again x xs)
  where
    by_test : (b : Bool) → same x y ≡ b → StandsNotIn x (filter (λ y. not (same x y)) xs)
        → StandsNotIn x (cond (not b) (y ∷ filter (λ y. not (same x y)) xs) (filter (λ y. not (same x y)) xs))
    by_test true e rest = rest
    by_test false e rest = ((λ (equal : x ≡ y). false≢true (sym e ∙ subst (λ z. same x z ≡ true) equal (again x))), rest)

pub once_differ : {X : Type 0} (same : X → X → Bool) → ((x : X) → same x x ≡ true) → (xs : List X) → AllDiffer (each_once same xs)
once_differ same again [] = tt
once_differ same again (x ∷ xs) =
    (filtered_out same again x (each_once same xs), differ_filter (λ y. not (same x y)) (each_once same xs) (once_differ same again xs))

-- each item, at its first place
pub once_from : {X : Type 0} (same : X → X → Bool) (xs : List X) (x : X) → Contains (each_once same xs) x → Contains xs x
once_from same [] x c = c
once_from same (y ∷ xs) x c =
    elim (contains_cases y (filter (λ z. not (same y z)) (each_once same xs)) x c) [
      | inl equal ↦ subst (λ z. Contains (y ∷ xs) z) equal (contains_here y xs)
      | inr there ↦ contains_there y xs x (once_from same xs x (from_filter (λ z. not (same y z)) (each_once same xs) x there).0)
    ]

once_kept : {X : Type 0} (same : X → X → Bool) → ((x y : X) → same x y ≡ true → x ≡ y) → (y x : X) (xs : List X) (b : Bool) → same y x ≡ b
    → Contains (each_once same xs) x → Contains (y ∷ filter (λ z. not (same y z)) (each_once same xs)) x
once_kept same equal y x xs true e c =
    subst (λ z. Contains (y ∷ filter (λ z. not (same y z)) (each_once same xs)) z) (equal y x e)
    (contains_here y (filter (λ z. not (same y z)) (each_once same xs)))
once_kept same equal y x xs false e c =
    contains_there y (filter (λ z. not (same y z)) (each_once same xs)) x (into_filter (λ z. not (same y z)) (each_once same xs) x c (ap not e))

pub once_into : {X : Type 0} (same : X → X → Bool) → ((x y : X) → same x y ≡ true → x ≡ y) → (xs : List X) (x : X) → Contains xs x → Contains (each_once same xs) x
once_into same equal [] x c = c
once_into same equal (y ∷ xs) x c =
    elim (contains_cases y xs x c) [
      | inl is ↦ subst (λ z. Contains (each_once same (y ∷ xs)) z) is (contains_here y (filter (λ z. not (same y z)) (each_once same xs)))
      | inr there ↦ once_kept same equal y x xs (same y x) refl (once_into same equal xs x there)
    ]

-- ---- look-ups

looked : {X : Type 0} (p : X → Bool) (y : X) (xs : List X) (x : X) (b : Bool) → p y ≡ b → (find p xs ≡ Some x → Contains xs x × (p x ≡ true))
    → cond b (Some y) (find p xs) ≡ Some x → Contains (y ∷ xs) x × (p x ≡ true)
looked p y xs x true t more e = (subst (λ z. Contains (y ∷ xs) z) (same_Some y x e) (contains_here y xs), subst (λ z. p z ≡ true) (same_Some y x e) t)
looked p y xs x false t more e = (contains_there y xs x (more e).0, (more e).1)

pub found_there : {X : Type 0} (p : X → Bool) (xs : List X) (x : X) → find p xs ≡ Some x → Contains xs x × (p x ≡ true)
found_there p [] x e = absurd (none-some x e)
found_there p (y ∷ xs) x e = looked p y xs x (p y) refl (found_there p xs x) e

looked_for : {X : Type 0} (p : X → Bool) (y : X) (xs : List X) (x : X) (b : Bool) → p y ≡ b → p x ≡ true
    → (Contains xs x → (z : X) × (find p xs ≡ Some z)) → Contains (y ∷ xs) x → (z : X) × (cond b (Some y) (find p xs) ≡ Some z)
looked_for p y xs x true t e more c = (y, refl)
looked_for p y xs x false t e more c =
    elim (contains_cases y xs x c) [
      | inl same ↦ absurd (false≢true (sym t ∙ ap p same ∙ e))
      | inr there ↦ more there
    ]

pub some_found : {X : Type 0} (p : X → Bool) (xs : List X) (x : X) → Contains xs x → p x ≡ true → (y : X) × (find p xs ≡ Some y)
some_found p [] x c e = absurd (contains_none x c)
some_found p (y ∷ xs) x c e = looked_for p y xs x (p y) refl e (λ there. some_found p xs x there e) c

or_some : {X : Type 0} (o r : Option X) (x : X) → o ≡ Some x → option_or o r ≡ Some x
or_some o r x e = ap (λ o. option_or o r) e

-- what is found stays found in a list that goes on
pub found_stays : {X : Type 0} (p : X → Bool) (xs ys : List X) (x : X) → GoesOnAs xs ys → find p xs ≡ Some x → find p ys ≡ Some x
found_stays p xs ys x more e = ap (find p) more.1 ∙ find-append p xs more.0 ∙ or_some (find p xs) (find p more.0) x e

pub found_none : {X : Type 0} (o : Option X) → is_none o ≡ true → o ≡ None
found_none None e = refl
found_none (Some x) e = absurd (false≢true e)

pub what_is : {X : Type 0} (o : Option X) → IsSome o → (x : X) × (o ≡ Some x)
what_is None e = absurd (false≢true e)
what_is (Some x) e = (x, refl)

-- ---- addresses, ids, pairs, homes

pub bytes_same : (a b : Bytes) → bytes_eq a b ≡ true → a ≡ b
bytes_same a b e = (bytes_eq-Decides a b).0 e

pub bytes_again : (a : Bytes) → bytes_eq a a ≡ true
bytes_again a = (bytes_eq-Decides a a).1 refl

pub some_address : (addresses : Path) (a : Bytes) → list_any (bytes_eq a) addresses ≡ true → Contains addresses a
some_address [] a e = absurd (false≢true e)
some_address (b ∷ addresses) a e = by_test (bytes_eq a b) refl e (some_address addresses a)
  where
    by_test : (t : Bool) → bytes_eq a b ≡ t → (t || list_any (bytes_eq a) addresses) ≡ true
        → (list_any (bytes_eq a) addresses ≡ true → Contains addresses a) → Contains (b ∷ addresses) a
    by_test true t e more = subst (λ (x : Bytes). Contains (b ∷ addresses) x) (sym (bytes_same a b t)) (contains_here b addresses)
    by_test false t e more = contains_there b addresses a (more e)

or_right : (a b : Bool) → b ≡ true → (a || b) ≡ true
or_right true b e = refl
or_right false b e = e

pub address_there : (addresses : Path) (a : Bytes) → Contains addresses a → list_any (bytes_eq a) addresses ≡ true
address_there [] a c = absurd (contains_none a c)
address_there (b ∷ addresses) a c =
    elim (contains_cases b addresses a c) [
      | inl same ↦ ap (λ t. t || list_any (bytes_eq a) addresses) ((bytes_eq-Decides a b).1 (sym same))
      | inr there ↦ or_right (bytes_eq a b) (list_any (bytes_eq a) addresses) (address_there addresses a there)
    ]

pub id_again : (a : Id) → same_id a a ≡ true
id_again a = and_from (a.provider == a.provider) (a.number == a.number) (eq-eqb a.provider a.provider refl) (eq-eqb a.number a.number refl)

pub pair_again : (a : Pair) → same_pair a a ≡ true
pair_again a = and_from (same_id a.id a.id) (bytes_eq a.recipient a.recipient) (id_again a.id) (bytes_again a.recipient)

ids : (a b c d : ℕ) → a ≡ b → c ≡ d → (let i : Id = record { provider = a; number = c } in let j : Id = record { provider = b; number = d } in i ≡ j)
ids a b c d e f = rw (e, f) refl

pairs : (a b : Id) (c d : Bytes) → a ≡ b → c ≡ d → pair_of a c ≡ pair_of b d
pairs a b c d e f = rw (e, f) refl

pub same_ids : (a b : Id) → same_id a b ≡ true → a ≡ b
same_ids a b e =
    let numbers = and_parts (a.provider == b.provider) (a.number == b.number) e
    in ids a.provider b.provider a.number b.number (eqb-true a.provider b.provider numbers.0) (eqb-true a.number b.number numbers.1)

pub same_pairs : (a b : Pair) → same_pair a b ≡ true → a ≡ b
same_pairs a b e =
    let parts = and_parts (same_id a.id b.id) (bytes_eq a.recipient b.recipient) e
    in pairs a.id b.id a.recipient b.recipient (same_ids a.id b.id parts.0) (bytes_same a.recipient b.recipient parts.1)

pub home_is : (p : ℕ) (home : Option ℕ) → is_home p home ≡ true → home ≡ Some p
home_is p None e = absurd (false≢true e)
home_is p (Some q) e = ap (λ k. Some k) (sym (eqb-true p q e))

pub home_again : (p : ℕ) (home : Option ℕ) → home ≡ Some p → is_home p home ≡ true
home_again p home e = ap (is_home p) e ∙ eq-eqb p p refl
