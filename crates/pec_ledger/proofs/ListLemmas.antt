-- Membership in lists that are made of others, look-ups that stay, and counts.
use Rattle.std.proofs.Common.{◌≡◌, ℕ, zero, suc, ◌+◌, ◌≤◌, List, [], ◌∷◌, ◌++◌, length, map, Bool, true, false, cond, ◌&&◌, ◌⊎◌, inl, inr, refl, ap, sym, subst, ◌∙◌, arith, Option, Some, None}
use Rattle.std.specs.Prelude.{Contains, All, filter, slice_get}
use Rattle.std.specs.List.{cons_option, find, filter_map}
use Rattle.std.specs.Option.{option_and_then, option_map, option_or}
use Rattle.std.proofs.lemmas.List.Elements.{All-head, All-tail}
use Rattle.std.proofs.lemmas.List.Folds.{find-append}
use Rattle.std.proofs.lemmas.Option.{none-some, same_Some}
use Rattle.std.proofs.lemmas.Bool.{false≢true}
use Rattle.pec_ledger.specs.Along.{times, GoesOnAs}

-- ---- membership

pub contains_here : {X : Type 0} (x : X) (xs : List X) → Contains (x ∷ xs) x
contains_here x xs = (0, omega arith, refl)

pub contains_there : {X : Type 0} (y : X) (xs : List X) (x : X) → Contains xs x → Contains (y ∷ xs) x
contains_there y xs x (k, l, e) = (suc k, omega arith, e)

pub contains_cases : {X : Type 0} (y : X) (xs : List X) (x : X) → Contains (y ∷ xs) x → (y ≡ x) ⊎ Contains xs x
contains_cases y xs x (zero, l, e) = inl e
contains_cases y xs x (suc k, l, e) = inr (k, omega arith, e)

pub contains_none : {X : Type 0} (x : X) → Contains [] x → ⊥
contains_none x (k, l, e) = omega arith

-- two tests for one item
filtered_cases : {X : Type 0} (p : X → Bool) (y : X) (xs : List X) (x : X) (b : Bool) → p y ≡ b
    → (Contains xs x → Contains (y ∷ xs) x)
    → (Contains (filter p xs) x → Contains xs x × (p x ≡ true))
    → Contains (cond b (y ∷ filter p xs) (filter p xs)) x → Contains (y ∷ xs) x × (p x ≡ true)
filtered_cases p y xs x true e out more c =
    elim (contains_cases y (filter p xs) x c) [
      | inl same ↦ (subst (λ z. Contains (y ∷ xs) z) same (contains_here y xs), subst (λ z. p z ≡ true) same e)
      | inr there ↦ (out (more there).0, (more there).1)
    ]
filtered_cases p y xs x false e out more c = (out (more c).0, (more c).1)

pub from_filter : {X : Type 0} (p : X → Bool) (xs : List X) (x : X) → Contains (filter p xs) x → Contains xs x × (p x ≡ true)
from_filter p [] x c = absurd (contains_none x c)
from_filter p (y ∷ xs) x c = filtered_cases p y xs x (p y) refl (contains_there y xs x) (from_filter p xs x) c

kept_here : {X : Type 0} (y : X) (xs : List X) (x : X) (b : Bool) → (y ≡ x) × (b ≡ true) → Contains (cond b (y ∷ xs) xs) x
kept_here y xs x true (same, e) = subst (λ z. Contains (y ∷ xs) z) same (contains_here y xs)
kept_here y xs x false (same, e) = absurd (false≢true e)

kept_there : {X : Type 0} (y : X) (xs : List X) (x : X) (b : Bool) → Contains xs x → Contains (cond b (y ∷ xs) xs) x
kept_there y xs x true c = contains_there y xs x c
kept_there y xs x false c = c

pub into_filter : {X : Type 0} (p : X → Bool) (xs : List X) (x : X) → Contains xs x → p x ≡ true → Contains (filter p xs) x
into_filter p [] x c e = absurd (contains_none x c)
into_filter p (y ∷ xs) x c e =
    elim (contains_cases y xs x c) [
      | inl same ↦ kept_here y (filter p xs) x (p y) (same, ap p same ∙ e)
      | inr there ↦ kept_there y (filter p xs) x (p y) (into_filter p xs x there e)
    ]

pub into_map : {X Y : Type 0} (f : X → Y) (xs : List X) (x : X) → Contains xs x → Contains (map f xs) (f x)
into_map f [] x c = absurd (contains_none x c)
into_map f (y ∷ xs) x c =
    elim (contains_cases y xs x c) [
      | inl same ↦ subst (λ z. Contains (f y ∷ map f xs) z) (ap f same) (contains_here (f y) (map f xs))
      | inr there ↦ contains_there (f y) (map f xs) (f x) (into_map f xs x there)
    ]

pub from_map : {X Y : Type 0} (f : X → Y) (xs : List X) (y : Y) → Contains (map f xs) y → (x : X) × Contains xs x × (f x ≡ y)
from_map f [] y c = absurd (contains_none y c)
from_map f (x ∷ xs) y c =
    elim (contains_cases (f x) (map f xs) y c) [
      | inl same ↦ (x, contains_here x xs, same)
      | inr there ↦ let more = from_map f xs y there in (more.0, contains_there x xs more.0 more.1, more.2)
    ]

pub into_filter_map : {X Y : Type 0} (f : X → Option Y) (xs : List X) (x : X) (y : Y) → Contains xs x → f x ≡ Some y → Contains (filter_map f xs) y
into_filter_map f [] x y c e = absurd (contains_none x c)
into_filter_map f (z ∷ xs) x y c e =
    elim (contains_cases z xs x c) [
      | inl same ↦ rw (ap f same ∙ e) (contains_here y (filter_map f xs))
      | inr there ↦ past (f z) (filter_map f xs) y (into_filter_map f xs x y there e)
    ]
  where
    past : {Y : Type 0} (o : Option Y) (ys : List Y) (y : Y) → Contains ys y → Contains (cons_option o ys) y
    past None ys y c = c
    past (Some z) ys y c = contains_there z ys y c

-- ---- counts

pub times_append : {X : Type 0} (p : X → Bool) (xs ys : List X) → times p (xs ++ ys) ≡ times p xs + times p ys
times_append p [] ys = omega arith
times_append p (x ∷ xs) ys = counted (p x) x (filter p xs) (filter p ys) (filter p (xs ++ ys)) (times_append p xs ys)
  where
    counted : {X : Type 0} (b : Bool) (x : X) (ps qs rs : List X) → length rs ≡ length ps + length qs
        → length (cond b (x ∷ rs) rs) ≡ length (cond b (x ∷ ps) ps) + length qs
    counted true x ps qs rs e = omega (arith, e)
    counted false x ps qs rs e = e

one_or_none : {X : Type 0} (b : Bool) (x : X) → length (cond b (x ∷ []) []) ≡ cond b 1 0
one_or_none true x = refl
one_or_none false x = refl

pub times_pushed : {X : Type 0} (p : X → Bool) (xs : List X) (x : X) (b : Bool) → p x ≡ b → times p (xs ++ x ∷ []) ≡ times p xs + cond b 1 0
times_pushed p xs x b e =
    times_append p xs (x ∷ []) ∙ ap (λ n. times p xs + n) (one_or_none (p x) x ∙ ap (λ (c : Bool). cond c 1 0) e)

-- ---- look-ups

pub some_or : {X : Type 0} (o r : Option X) (x : X) → o ≡ Some x → option_or o r ≡ Some x
some_or (Some y) r x e = e
some_or None r x e = absurd (none-some x e)

-- what is found in a list is found in one that goes on
pub found_stays : {X : Type 0} (p : X → Bool) (xs ys : List X) (x : X) → GoesOnAs xs ys → find p xs ≡ Some x → find p ys ≡ Some x
found_stays p xs ys x (more, g) e = ap (find p) g ∙ find-append p xs more ∙ some_or (find p xs) (find p more) x e

-- so is an item at its place
pub place_stays : {X : Type 0} (xs more : List X) (n : ℕ) (x : X) → slice_get xs n ≡ Some x → slice_get (xs ++ more) n ≡ Some x
place_stays [] more n x e = absurd (none-some x e)
place_stays (y ∷ xs) more zero x e = e
place_stays (y ∷ xs) more (suc n) x e = place_stays xs more n x e

pub stays_at : {X : Type 0} (xs ys : List X) (n : ℕ) (x : X) → GoesOnAs xs ys → slice_get xs n ≡ Some x → slice_get ys n ≡ Some x
stays_at xs ys n x (more, g) e = ap (λ l. slice_get l n) g ∙ place_stays xs more n x e

-- what one look-up after another gives
pub both_found : {A B : Type 0} (f : A → Option B) (o : Option A) (y : B) → option_and_then f o ≡ Some y → (x : A) × (o ≡ Some x) × (f x ≡ Some y)
both_found f None y e = absurd (none-some y e)
both_found f (Some x) y e = (x, refl, e)

pub bound : {A B : Type 0} (f : A → Option B) (o : Option A) (x : A) (y : B) → o ≡ Some x → f x ≡ Some y → option_and_then f o ≡ Some y
bound f o x y e h = ap (option_and_then f) e ∙ h

pub mapped : {A B : Type 0} (f : A → B) (o : Option A) (y : B) → option_map f o ≡ Some y → (x : A) × (o ≡ Some x) × (f x ≡ y)
mapped f None y e = absurd (none-some y e)
mapped f (Some x) y e = (x, refl, same_Some (f x) y e)

-- ---- more on counts and tests

pub none_counted : {X : Type 0} (p : X → Bool) (xs : List X) → find p xs ≡ None → times p xs ≡ 0
none_counted p [] e = refl
none_counted p (x ∷ xs) e = passed (p x) x (find p xs) (filter p xs) e (none_counted p xs)
  where
    passed : {X : Type 0} (b : Bool) (x : X) (found : Option X) (kept : List X) → cond b (Some x) found ≡ None
        → (found ≡ None → length kept ≡ 0) → length (cond b (x ∷ kept) kept) ≡ 0
    passed true x found kept e more = absurd (none-some x (sym e))
    passed false x found kept e more = more e

pub some_counted : {X : Type 0} (p : X → Bool) (xs : List X) (x : X) → Contains xs x → p x ≡ true → 1 ≤ times p xs
some_counted p xs x c e = at_least (filter p xs) x (into_filter p xs x c e)
  where
    at_least : {X : Type 0} (xs : List X) (x : X) → Contains xs x → 1 ≤ length xs
    at_least xs x (k, l, e) = omega arith

looked : {X : Type 0} (p : X → Bool) (y : X) (xs : List X) (x : X) (b : Bool) → p y ≡ b
    → (find p xs ≡ Some x → Contains xs x × (p x ≡ true)) → cond b (Some y) (find p xs) ≡ Some x → Contains (y ∷ xs) x × (p x ≡ true)
looked p y xs x true t more e =
    (subst (λ z. Contains (y ∷ xs) z) (same_Some y x e) (contains_here y xs), subst (λ z. p z ≡ true) (same_Some y x e) t)
looked p y xs x false t more e = (contains_there y xs x (more e).0, (more e).1)

pub found_there : {X : Type 0} (p : X → Bool) (xs : List X) (x : X) → find p xs ≡ Some x → Contains xs x × (p x ≡ true)
found_there p [] x e = absurd (none-some x e)
found_there p (y ∷ xs) x e = looked p y xs x (p y) refl (found_there p xs x) e

looked_for : {X : Type 0} (p : X → Bool) (y : X) (xs : List X) (x : X) (b : Bool) → p y ≡ b → p x ≡ true
    → (Contains xs x → (z : X) × (find p xs ≡ Some z)) → Contains (y ∷ xs) x → (z : X) × (cond b (Some y) (find p xs) ≡ Some z)
looked_for p y xs x true t e more c = (y, refl)
looked_for p y xs x false t e more c =
    elim (contains_cases y xs x c) [
      | inl same ↦ absurd (false≢true (sym t ∙ ap p same ∙ e))
      | inr there ↦ more there
    ]

pub some_found : {X : Type 0} (p : X → Bool) (xs : List X) (x : X) → Contains xs x → p x ≡ true → (y : X) × (find p xs ≡ Some y)
some_found p [] x c e = absurd (contains_none x c)
some_found p (y ∷ xs) x c e = looked_for p y xs x (p y) refl e (λ there. some_found p xs x there e) c

-- a filter of a filter
filtered_twice : {X : Type 0} (p : X → Bool) (x : X) (ps qs : List X) (b c : Bool) → p x ≡ c → filter p ps ≡ qs
    → filter p (cond b (x ∷ ps) ps) ≡ cond (b && c) (x ∷ qs) qs
filtered_twice p x ps qs true true e f = ap (λ t. cond t (x ∷ filter p ps) (filter p ps)) e ∙ ap (λ l. x ∷ l) f
filtered_twice p x ps qs true false e f = ap (λ t. cond t (x ∷ filter p ps) (filter p ps)) e ∙ f
filtered_twice p x ps qs false c e f = f

pub filter_twice : {X : Type 0} (p q : X → Bool) (xs : List X) → filter p (filter q xs) ≡ filter (λ x. q x && p x) xs
filter_twice p q [] = refl
filter_twice p q (x ∷ xs) =
    filtered_twice p x (filter q xs) (filter (λ y. q y && p y) xs) (q x) (p x) refl (filter_twice p q xs)

-- two tests that agree on what is there count the same
agreed : {X Y : Type 0} (x : X) (y : Y) (b c : Bool) (ps : List X) (qs : List Y) → b ≡ c → length ps ≡ length qs
    → length (cond b (x ∷ ps) ps) ≡ length (cond c (y ∷ qs) qs)
agreed x y true c ps qs e l = subst (λ d. length (x ∷ ps) ≡ length (cond d (y ∷ qs) qs)) e (omega (arith, l))
agreed x y false c ps qs e l = subst (λ d. length ps ≡ length (cond d (y ∷ qs) qs)) e l

pub counts_agree : {X : Type 0} (p q : X → Bool) (xs : List X) → All (λ x. p x ≡ q x) xs → times p xs ≡ times q xs
counts_agree p q [] all = refl
counts_agree p q (x ∷ xs) all =
    agreed x x (p x) (q x) (filter p xs) (filter q xs) (All-head (λ y. p y ≡ q y) x xs all)
    (counts_agree p q xs (All-tail (λ y. p y ≡ q y) x xs all))

not_counted : {X : Type 0} (x : X) (b : Bool) (kept : List X) → b ≡ false → length kept ≡ 0 → length (cond b (x ∷ kept) kept) ≡ 0
not_counted x true kept e l = absurd (false≢true (sym e))
not_counted x false kept e l = l

pub none_there : {X : Type 0} (p : X → Bool) (xs : List X) → All (λ x. p x ≡ false) xs → times p xs ≡ 0
none_there p [] all = refl
none_there p (x ∷ xs) all =
    not_counted x (p x) (filter p xs) (All-head (λ y. p y ≡ false) x xs all) (none_there p xs (All-tail (λ y. p y ≡ false) x xs all))

-- a count over mapped items
pub times_mapped : {X Y : Type 0} (p : Y → Bool) (q : X → Bool) (f : X → Y) → ((x : X) → p (f x) ≡ q x) → (xs : List X) → times p (map f xs) ≡ times q xs
times_mapped p q f same [] = refl
times_mapped p q f same (x ∷ xs) =
    agreed (f x) x (p (f x)) (q x) (filter p (map f xs)) (filter q xs) (same x) (times_mapped p q f same xs)

pub never_counted : {X : Type 0} (xs : List X) → times (λ (x : X). false) xs ≡ 0
never_counted [] = refl
never_counted (x ∷ xs) = never_counted xs
