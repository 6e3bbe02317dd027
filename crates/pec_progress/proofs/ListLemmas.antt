-- Lists, look-ups that stay, and what the tests of the ledger on ids, pairs and homes stand for.
use Rattle.std.proofs.Common.{◌≡◌, ℕ, zero, suc, ◌<◌, List, [], ◌∷◌, ◌++◌, Bool, true, false, cond, ◌⊎◌, inl, inr, length, refl, ap, sym, subst, ◌∙◌, arith, Option, Some, None}
use Rattle.std.specs.Prelude.{Contains, IsSome, filter, slice_index_or, ◌==◌, if◌then◌else◌}
use Rattle.std.specs.List.{find}
use Rattle.std.specs.Option.{option_and_then}
use Rattle.std.specs.Str.{bytes_eq}
use Rattle.std.proofs.lemmas.Bool.{and_from, and_parts, eqb-true, eq-eqb, false≢true}
use Rattle.std.proofs.lemmas.List.{append-nil, append_assoc}
use Rattle.std.proofs.lemmas.List.Elements.{Contains-append_left, Contains-append_right}
use Rattle.std.proofs.lemmas.Option.{none-some, same_Some}
use Rattle.std.proofs.lemmas.Slice.Eq.{bytes_eq-Decides}
use Rattle.pec_types.specs.Bytes.{Bytes}
use Rattle.pec_types.specs.Message.{Id}
use Rattle.pec_ledger.specs.Along.{GoesOnAs}
use Rattle.pec_ledger.specs.Lookups.{is_home}
use Rattle.pec_ledger.specs.Pairs.{Pair, pair_of, same_id, same_pair}
use Rattle.pec_plays.specs.Turns.{frames_in}

-- ---- items

pub contains_cases : {X : Type 0} (y : X) (xs : List X) (x : X) → Contains (y ∷ xs) x → (y ≡ x) ⊎ Contains xs x
contains_cases y xs x (zero, l, e) = inl e
contains_cases y xs x (suc k, l, e) = inr (k, omega arith, e)

pub contains_none : {X : Type 0} (x : X) → Contains [] x → ⊥
contains_none x (k, l, e) = omega arith

pub contains_here : {X : Type 0} (x : X) (xs : List X) → Contains (x ∷ xs) x
contains_here x xs = (0, omega arith, refl)

pub contains_there : {X : Type 0} (y : X) (xs : List X) (x : X) → Contains xs x → Contains (y ∷ xs) x
contains_there y xs x (k, l, e) = (suc k, omega arith, e)

pub some_length : {X : Type 0} (xs : List X) (x : X) → Contains xs x → 0 < length xs
some_length [] x c = absurd (contains_none x c)
some_length (y ∷ xs) x c = omega arith

-- ---- filters

kept : {X : Type 0} (p : X → Bool) (y : X) (xs : List X) (x : X) (b : Bool) → p y ≡ b → (Contains (filter p xs) x → Contains xs x × (p x ≡ true))
    → Contains (cond b (y ∷ filter p xs) (filter p xs)) x → Contains (y ∷ xs) x × (p x ≡ true)
kept p y xs x true e more c =
    elim (contains_cases y (filter p xs) x c) [
      | inl same ↦ (subst (λ z. Contains (y ∷ xs) z) same (contains_here y xs), subst (λ z. p z ≡ true) same e)
      | inr there ↦ (contains_there y xs x (more there).0, (more there).1)
    ]
kept p y xs x false e more c = (contains_there y xs x (more c).0, (more c).1)

pub from_filter : {X : Type 0} (p : X → Bool) (xs : List X) (x : X) → Contains (filter p xs) x → Contains xs x × (p x ≡ true)
from_filter p [] x c = absurd (contains_none x c)
from_filter p (y ∷ xs) x c = kept p y xs x (p y) refl (from_filter p xs x) c

kept_so : {X : Type 0} (y : X) (xs : List X) (x : X) (b : Bool) → ((y ≡ x) × (b ≡ true)) ⊎ Contains xs x → Contains (cond b (y ∷ xs) xs) x
kept_so y xs x true (inl (same, e)) = subst (λ z. Contains (y ∷ xs) z) same (contains_here y xs)
kept_so y xs x false (inl (same, e)) = absurd (false≢true e)
kept_so y xs x true (inr c) = contains_there y xs x c
kept_so y xs x false (inr c) = c

pub into_filter : {X : Type 0} (p : X → Bool) (xs : List X) (x : X) → Contains xs x → p x ≡ true → Contains (filter p xs) x
into_filter p [] x c e = absurd (contains_none x c)
into_filter p (y ∷ xs) x c e =
    kept_so y (filter p xs) x (p y)
    (elim (contains_cases y xs x c) [
      | inl same ↦ inl (same, ap p same ∙ e)
      | inr there ↦ inr (into_filter p xs x there e)
    ])

-- ---- look-ups

looked : {X : Type 0} (p : X → Bool) (y : X) (xs : List X) (x : X) (b : Bool) → p y ≡ b → (find p xs ≡ Some x → Contains xs x × (p x ≡ true))
    → cond b (Some y) (find p xs) ≡ Some x → Contains (y ∷ xs) x × (p x ≡ true)
looked p y xs x true t more e = (subst (λ z. Contains (y ∷ xs) z) (same_Some y x e) (contains_here y xs), subst (λ z. p z ≡ true) (same_Some y x e) t)
looked p y xs x false t more e = (contains_there y xs x (more e).0, (more e).1)

pub found_there : {X : Type 0} (p : X → Bool) (xs : List X) (x : X) → find p xs ≡ Some x → Contains xs x × (p x ≡ true)
found_there p [] x e = absurd (none-some x e)
found_there p (y ∷ xs) x e = looked p y xs x (p y) refl (found_there p xs x) e

looked_for : {X : Type 0} (p : X → Bool) (y : X) (xs : List X) (x : X) (b : Bool) → p y ≡ b → p x ≡ true
    → (Contains xs x → (z : X) × (find p xs ≡ Some z)) → Contains (y ∷ xs) x → (z : X) × (cond b (Some y) (find p xs) ≡ Some z)
looked_for p y xs x true t e more c = (y, refl)
looked_for p y xs x false t e more c =
    elim (contains_cases y xs x c) [
      | inl same ↦ absurd (false≢true (sym t ∙ ap p same ∙ e))
      | inr there ↦ more there
    ]

pub some_found : {X : Type 0} (p : X → Bool) (xs : List X) (x : X) → Contains xs x → p x ≡ true → (y : X) × (find p xs ≡ Some y)
some_found p [] x c e = absurd (contains_none x c)
some_found p (y ∷ xs) x c e = looked_for p y xs x (p y) refl e (λ there. some_found p xs x there e) c

pub what_is : {X : Type 0} (o : Option X) → IsSome o → (x : X) × (o ≡ Some x)
what_is None e = absurd (false≢true e)
what_is (Some x) e = (x, refl)

pub none_or_some : {X : Type 0} (o : Option X) → (o ≡ None) ⊎ ((x : X) × (o ≡ Some x))
none_or_some None = inl refl
none_or_some (Some x) = inr (x, refl)

pub some_is : {X : Type 0} (o : Option X) (x : X) → o ≡ Some x → IsSome o
some_is o x e = subst (λ q. IsSome q) (sym e) refl

-- ---- one look-up after another

pub both : {A B : Type 0} (f : A → Option B) (o : Option A) (y : B) → option_and_then f o ≡ Some y → (x : A) × (o ≡ Some x) × (f x ≡ Some y)
both f None y e = absurd (none-some y e)
both f (Some x) y e = (x, refl, e)

pub if_true : {X : Type 0} (b : Bool) (x y : X) → b ≡ true → (if b then x else y) ≡ x
if_true true x y e = refl
if_true false x y e = absurd (false≢true e)

pub if_false : {X : Type 0} (b : Bool) (x y : X) → b ≡ false → (if b then x else y) ≡ y
if_false true x y e = absurd (false≢true (sym e))
if_false false x y e = refl

-- ---- lists that go on

pub itself : {X : Type 0} (xs : List X) → GoesOnAs xs xs
itself xs = ([], sym (append-nil xs))

pub on_through : {X : Type 0} (xs ys zs : List X) → GoesOnAs xs ys → GoesOnAs ys zs → GoesOnAs xs zs
on_through xs ys zs (more, e) (last, f) = (more ++ last, f ∙ ap (λ l. l ++ last) e ∙ append_assoc xs more last)

-- what waits on a link waits among all
pub waits_among : (links : List (List Bytes)) (from : ℕ) (frame : Bytes) → Contains (slice_index_or links from []) frame → Contains (frames_in links) frame
waits_among [] from frame c = absurd (contains_none frame c)
waits_among (link ∷ links) zero frame c = Contains-append_left link (frames_in links) frame c
waits_among (link ∷ links) (suc from) frame c = Contains-append_right link (frames_in links) frame (waits_among links from frame c)

-- ---- ids, pairs, homes

bytes_same : (a b : Bytes) → bytes_eq a b ≡ true → a ≡ b
bytes_same a b e = (bytes_eq-Decides a b).0 e

bytes_again : (a : Bytes) → bytes_eq a a ≡ true
bytes_again a = (bytes_eq-Decides a a).1 refl

pub id_again : (a : Id) → same_id a a ≡ true
id_again a = and_from (a.provider == a.provider) (a.number == a.number) (eq-eqb a.provider a.provider refl) (eq-eqb a.number a.number refl)

pub pair_again : (a : Pair) → same_pair a a ≡ true
pair_again a = and_from (same_id a.id a.id) (bytes_eq a.recipient a.recipient) (id_again a.id) (bytes_again a.recipient)

ids : (a b c d : ℕ) → a ≡ b → c ≡ d → (let i : Id = record { provider = a; number = c } in let j : Id = record { provider = b; number = d } in i ≡ j)
ids a b c d e f = rw (e, f) refl

pairs : (a b : Id) (c d : Bytes) → a ≡ b → c ≡ d → pair_of a c ≡ pair_of b d
pairs a b c d e f = rw (e, f) refl

pub same_ids : (a b : Id) → same_id a b ≡ true → a ≡ b
same_ids a b e =
    let numbers = and_parts (a.provider == b.provider) (a.number == b.number) e
    in ids a.provider b.provider a.number b.number (eqb-true a.provider b.provider numbers.0) (eqb-true a.number b.number numbers.1)

pub same_pairs : (a b : Pair) → same_pair a b ≡ true → a ≡ b
same_pairs a b e =
    let parts = and_parts (same_id a.id b.id) (bytes_eq a.recipient b.recipient) e
    in pairs a.id b.id a.recipient b.recipient (same_ids a.id b.id parts.0) (bytes_same a.recipient b.recipient parts.1)

pub home_is : (p : ℕ) (home : Option ℕ) → is_home p home ≡ true → home ≡ Some p
home_is p None e = absurd (false≢true e)
home_is p (Some q) e = ap (λ k. Some k) (sym (eqb-true p q e))

pub home_again : (p : ℕ) (home : Option ℕ) → home ≡ Some p → is_home p home ≡ true
home_again p home e = ap (is_home p) e ∙ eq-eqb p p refl
