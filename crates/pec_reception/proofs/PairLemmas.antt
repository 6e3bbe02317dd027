-- Whether a message has pairs, as a test: what the shelf answers is what pec_plays asks.
use Rattle.std.proofs.Common.{◌≡◌, ◌↔◌, ℕ, zero, suc, ◌<◌, List, [], ◌∷◌, Bool, true, false, ◌||◌, ◌⊎◌, inl, inr, cond}
use Rattle.std.proofs.Common.{length, refl, ap, sym, subst, ◌∙◌, arith, Option, Some, None}
use Rattle.std.specs.Prelude.{Contains, IsTrue, is_some}
use Rattle.std.specs.List.{list_any}
use Rattle.std.specs.Str.{bytes_eq}
use Rattle.std.proofs.lemmas.Bool.{and_from, and_parts, eqb-true, eq-eqb, false≢true, ltb-true, lt-ltb}
use Rattle.std.proofs.lemmas.Bool.Decides.{same_from_decides}
use Rattle.std.proofs.lemmas.Option.{none-some, same_Some}
use Rattle.std.proofs.lemmas.Slice.Eq.{bytes_eq-Decides}
use Rattle.pec_types.specs.Bytes.{Bytes, Path}
use Rattle.pec_ledger.specs.Lookups.{Accepted, HasPair, HasPairsAt, addresses_of, at_home, is_home}
use Rattle.pec_ledger.specs.Trade.{Trade}
use Rattle.pec_plays.specs.Reception.{has_pair, has_pairs_at}

pub contains_cases : {X : Type 0} (y : X) (xs : List X) (x : X) → Contains (y ∷ xs) x → (y ≡ x) ⊎ Contains xs x
contains_cases y xs x (zero, l, e) = inl e
contains_cases y xs x (suc k, l, e) = inr (k, omega arith, e)

pub contains_none : {X : Type 0} (x : X) → Contains [] x → ⊥
contains_none x (k, l, e) = omega arith

pub contains_here : {X : Type 0} (x : X) (xs : List X) → Contains (x ∷ xs) x
contains_here x xs = (0, omega arith, refl)

pub contains_there : {X : Type 0} (y : X) (xs : List X) (x : X) → Contains xs x → Contains (y ∷ xs) x
contains_there y xs x (k, l, e) = (suc k, omega arith, e)

some_address : (addresses : Path) (a : Bytes) → list_any (bytes_eq a) addresses ≡ true → Contains addresses a
some_address [] a e = absurd (false≢true e)
some_address (b ∷ addresses) a e = by_test (bytes_eq a b) refl e (some_address addresses a)
  where
    by_test : (t : Bool) → bytes_eq a b ≡ t → (t || list_any (bytes_eq a) addresses) ≡ true
        → (list_any (bytes_eq a) addresses ≡ true → Contains addresses a) → Contains (b ∷ addresses) a
    by_test true t e more = subst (λ (x : Bytes). Contains (b ∷ addresses) x) (sym ((bytes_eq-Decides a b).0 t))
        (contains_here b addresses)
    by_test false t e more = contains_there b addresses a (more e)

or_right : (a b : Bool) → b ≡ true → (a || b) ≡ true
or_right true b e = refl
or_right false b e = e

pub address_there : (addresses : Path) (a : Bytes) → Contains addresses a → list_any (bytes_eq a) addresses ≡ true
address_there [] a c = absurd (contains_none a c)
address_there (b ∷ addresses) a c =
    elim (contains_cases b addresses a c) [
      | inl same ↦ ap (λ t. t || list_any (bytes_eq a) addresses) ((bytes_eq-Decides a b).1 (sym same))
      | inr there ↦ or_right (bytes_eq a b) (list_any (bytes_eq a) addresses) (address_there addresses a there)
    ]

-- some address is at home at a provider exactly where the list of those that are isn't empty
module _ (trade : Trade) (by : ℕ) where
  home_is : (home : Option ℕ) → is_home by home ≡ true → home ≡ Some by
  home_is None e = absurd (false≢true e)
  home_is (Some q) e = ap (λ k. Some k) (sym (eqb-true by q e))

  home_again : (home : Option ℕ) → home ≡ Some by → is_home by home ≡ true
  home_again home e = ap (is_home by) e ∙ eq-eqb by by refl

  abbrev SomeAt : Path → Type 0
  SomeAt addresses = (recipient : Bytes) × Contains addresses recipient × (trade.home recipient ≡ Some by)

  some_at : (addresses : Path) → 0 < length (at_home trade by addresses) → SomeAt addresses
  some_at [] l = absurd (omega arith)
  some_at (a ∷ addresses) l = by_test (is_home by (trade.home a)) refl l (some_at addresses)
    where
      by_test : (t : Bool) → is_home by (trade.home a) ≡ t
          → 0 < length (cond t (a ∷ at_home trade by addresses) (at_home trade by addresses))
          → (0 < length (at_home trade by addresses) → SomeAt addresses) → SomeAt (a ∷ addresses)
      by_test true e l more = (a, contains_here a addresses, home_is (trade.home a) e)
      by_test false e l more = ((more l).0, contains_there a addresses (more l).0 (more l).1, (more l).2)

  at_some : (addresses : Path) → SomeAt addresses → 0 < length (at_home trade by addresses)
  at_some [] some = absurd (contains_none some.0 some.1)
  at_some (a ∷ addresses) some =
      by_test (is_home by (trade.home a)) refl (contains_cases a addresses some.0 some.1)
      (λ there. at_some addresses (some.0, there, some.2))
    where
      by_test : (t : Bool) → is_home by (trade.home a) ≡ t → (a ≡ some.0) ⊎ Contains addresses some.0
          → (Contains addresses some.0 → 0 < length (at_home trade by addresses))
          → 0 < length (cond t (a ∷ at_home trade by addresses) (at_home trade by addresses))
      by_test true e c more = omega arith
      by_test false e (inl same) more = absurd
          (false≢true (sym e ∙ home_again (trade.home a) (ap trade.home same ∙ some.2)))
      by_test false e (inr there) more = more there

abbrev PairsIn : Trade → ℕ → Option Accepted → Type 0
PairsIn trade by found = (message : Accepted) × (found ≡ Some message) × HasPairsAt trade message by

pub pairs_same : (trade : Trade) (by : ℕ) (found : Option Accepted) (r : Bool) → (IsTrue r ↔ PairsIn trade by found)
    → r ≡ has_pairs_at trade by found
pairs_same trade by found r is = same_from_decides {P = PairsIn trade by found} r (has_pairs_at trade by found) is
    (decides found)
  where
    decides : (found : Option Accepted) → (has_pairs_at trade by found ≡ true) ↔ PairsIn trade by found
    decides None = (λ e. absurd (false≢true e), λ pairs. absurd (none-some pairs.0 pairs.1))
    decides (Some m) = (
      λ e. (
        m,
        refl,
        some_at trade by (addresses_of m.facts)
            (ltb-true 0 (length (at_home trade by (addresses_of m.facts))) e),
      ),
      λ pairs. lt-ltb 0 (length (at_home trade by (addresses_of m.facts)))
          (at_some trade by (addresses_of m.facts) (subst (λ (x : Accepted). HasPairsAt trade x by)
          (sym (same_Some m pairs.0 pairs.1)) pairs.2)),
    )

abbrev PairIn : Trade → Bytes → Option Accepted → Type 0
PairIn trade recipient found = (message : Accepted) × (found ≡ Some message) × HasPair trade message recipient

pub pair_same : (trade : Trade) (recipient : Bytes) (found : Option Accepted) (r : Bool)
    → (IsTrue r ↔ PairIn trade recipient found) → r ≡ has_pair trade recipient found
pair_same trade recipient found r is = same_from_decides {P = PairIn trade recipient found} r
    (has_pair trade recipient found) is (decides found)
  where
    decides : (found : Option Accepted) → (has_pair trade recipient found ≡ true) ↔ PairIn trade recipient found
    decides None = (λ e. absurd (false≢true e), λ pair. absurd (none-some pair.0 pair.1))
    decides (Some m) = (
      λ e.
          let parts = and_parts (list_any (bytes_eq recipient) (addresses_of m.facts))
          (is_some (trade.home recipient)) e
          in (m, refl, (some_address (addresses_of m.facts) recipient parts.0, parts.1)),
      λ pair.
          let has = subst (λ (x : Accepted). HasPair trade x recipient) (sym (same_Some m pair.0 pair.1)) pair.2
          in and_from (list_any (bytes_eq recipient) (addresses_of m.facts)) (is_some (trade.home recipient))
          (address_there (addresses_of m.facts) recipient has.0) has.1,
    )
