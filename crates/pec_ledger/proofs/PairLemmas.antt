-- Tests for ids and pairs decide whether they are equal.
use Rattle.std.proofs.Common.{◌≡◌, ℕ, ◌≤◌, List, [], ◌∷◌, ◌++◌, Bool, true, false, refl, sym, subst, arith, None}
use Rattle.std.specs.Prelude.{◌==◌}
use Rattle.std.specs.List.{find}
use Rattle.std.specs.Str.{bytes_eq}
use Rattle.std.proofs.lemmas.Bool.{and_from, and_parts, eqb-true, eq-eqb}
use Rattle.std.proofs.lemmas.Slice.Eq.{bytes_eq-Decides}
use Rattle.pec_types.specs.Bytes.{Bytes}
use Rattle.pec_types.specs.Message.{Id}
use Rattle.pec_ledger.specs.Along.{times}
use Rattle.pec_ledger.specs.Pairs.{Pair, pair_of, same_id, same_pair}
use Rattle.pec_ledger.proofs.ListLemmas.{none_counted, times_pushed}

pub bytes_same : (a b : Bytes) → bytes_eq a b ≡ true → a ≡ b
bytes_same a b e = (bytes_eq-Decides a b).0 e

pub bytes_again : (a : Bytes) → bytes_eq a a ≡ true
bytes_again a = (bytes_eq-Decides a a).1 refl

ids : (a b c d : ℕ) → a ≡ b → c ≡ d → (let i : Id = record { provider = a; number = c } in let j : Id = record { provider = b; number = d } in i ≡ j)
ids a b c d e f = rw (e, f) refl

pub same_ids : (a b : Id) → same_id a b ≡ true → a ≡ b
same_ids a b e =
    let parts = and_parts (a.provider == b.provider) (a.number == b.number) e
    in ids a.provider b.provider a.number b.number (eqb-true a.provider b.provider parts.0) (eqb-true a.number b.number parts.1)

pub id_again : (a : Id) → same_id a a ≡ true
id_again a = and_from (a.provider == a.provider) (a.number == a.number) (eq-eqb a.provider a.provider refl) (eq-eqb a.number a.number refl)

pairs : (a b : Id) (c d : Bytes) → a ≡ b → c ≡ d → pair_of a c ≡ pair_of b d
pairs a b c d e f = rw (e, f) refl

pub same_pairs : (a b : Pair) → same_pair a b ≡ true → a ≡ b
same_pairs a b e =
    let parts = and_parts (same_id a.id b.id) (bytes_eq a.recipient b.recipient) e
    in pairs a.id b.id a.recipient b.recipient (same_ids a.id b.id parts.0) (bytes_same a.recipient b.recipient parts.1)

pub pair_again : (a : Pair) → same_pair a a ≡ true
pair_again a = and_from (same_id a.id a.id) (bytes_eq a.recipient a.recipient) (id_again a.id) (bytes_again a.recipient)

-- A row of a pair that has none is the first of that pair, and no second one of another.
pub once_more : {X : Type 0} (key : X → Pair) (xs : List X) (x : X) → find (λ (k : X). same_pair (key x) (key k)) xs ≡ None
    → ((pair : Pair) → times (λ (k : X). same_pair pair (key k)) xs ≤ 1)
    → (pair : Pair) → times (λ (k : X). same_pair pair (key k)) (xs ++ x ∷ []) ≤ 1
once_more {X} key xs x none once pair = one (same_pair pair (key x)) refl
  where
    one : (b : Bool) → same_pair pair (key x) ≡ b → times (λ (k : X). same_pair pair (key k)) (xs ++ x ∷ []) ≤ 1
    one true e =
        let pushed = times_pushed (λ (k : X). same_pair pair (key k)) xs x true e
        in let zero : times (λ (k : X). same_pair pair (key k)) xs ≡ 0 =
        subst (λ (p : Pair). times (λ (k : X). same_pair p (key k)) xs ≡ 0) (sym (same_pairs pair (key x) e))
        (none_counted (λ (k : X). same_pair (key x) (key k)) xs none)
        in omega (arith, pushed, zero)
    one false e =
        let pushed = times_pushed (λ (k : X). same_pair pair (key k)) xs x false e
        in let before = once pair
        in omega (arith, pushed, before)
