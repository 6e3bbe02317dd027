-- What the sender knows delivered lies in the recipient's mailbox or archive, once.
use Rattle.std.proofs.Common.{◌≡◌, ℕ, ◌≤◌, ◌==◌, ◌&&◌, List, [], ◌∷◌, Bool, true, false, refl, ap, sym, subst, ◌∙◌, arith, Some}
use Rattle.std.specs.Prelude.{All, if◌then◌else◌}
use Rattle.std.specs.List.{find}
use Rattle.std.specs.Str.{bytes_eq}
use Rattle.std.proofs.lemmas.Bool.{and_from, and_parts, eqb-true}
use Rattle.std.proofs.lemmas.List.Elements.{All-head, All-tail}
use Rattle.std.proofs.lemmas.Option.{none-some, same_Some}
use Rattle.std.proofs.lemmas.Slice.Eq.{bytes_eq-Decides}
use Rattle.pec_types.specs.Bytes.{Bytes}
use Rattle.pec_types.specs.Message.{Id}
use Rattle.pec_types.specs.declared.messages.Decision.TheVariants.{Placed}
use Rattle.pec_ledger.specs.Along.{times}
use Rattle.pec_ledger.specs.Guarantees.{OneDelivery, OneOutcome, is_envelope_of, is_placed, times_held, times_placed}
use Rattle.pec_ledger.specs.Half.{Fate, Known}
use Rattle.pec_ledger.specs.Ledger.{IsDecidedSo, Journals, decided_at, ledger}
use Rattle.pec_ledger.specs.Lookups.{decided_of, known_of}
use Rattle.pec_ledger.specs.Pairs.{Pair, pair_of, same_id, same_pair}
use Rattle.pec_ledger.specs.Trade.{Trade}

-- ---- pairs

ids : (a b c d : ℕ) → a ≡ b → c ≡ d
    → (let i : Id = record { provider = a; number = c } in let j : Id = record { provider = b; number = d } in i ≡ j)
ids a b c d e f = rw (e, f) refl

pairs : (a b : Id) (c d : Bytes) → a ≡ b → c ≡ d → pair_of a c ≡ pair_of b d
pairs a b c d e f = rw (e, f) refl

same_pairs : (a b : Pair) → same_pair a b ≡ true → a ≡ b
same_pairs a b e =
    let both = and_parts (same_id a.id b.id) (bytes_eq a.recipient b.recipient) e
    in let id = and_parts (a.id.provider == b.id.provider) (a.id.number == b.id.number) both.0
    in pairs a.id b.id a.recipient b.recipient
    (ids a.id.provider b.id.provider a.id.number b.id.number (eqb-true a.id.provider b.id.provider id.0)
    (eqb-true a.id.number b.id.number id.1))
    ((bytes_eq-Decides a.recipient b.recipient).0 both.1)

-- ---- what is found

-- what is found passes the test, and has what all have
module _ {X : Type 0} (test : X → Bool) (P : X → Type 0) where
  holds_by : (x : X) (xs : List X) (b : Bool) → test x ≡ b → (y : X) → (if b then Some x else find test xs) ≡ Some y
      → All P (x ∷ xs) → (find test xs ≡ Some y → All P xs → (test y ≡ true) × P y) → (test y ≡ true) × P y
  holds_by x xs true is y e all more =
      let same = same_Some x y e
      in (subst (λ (z : X). test z ≡ true) same is, subst P same (All-head P x xs all))
  holds_by x xs false is y e all more = more e (All-tail P x xs all)

  found_holds : (xs : List X) (y : X) → find test xs ≡ Some y → All P xs → (test y ≡ true) × P y
  found_holds [] y e all = absurd (none-some y e)
  found_holds (x ∷ xs) y e all = holds_by x xs (test x) refl y e all (found_holds xs y)

-- what is found and passes another test is counted by both
module _ {X : Type 0} (test also : X → Bool) where
  counts_by : (x : X) (xs : List X) (b : Bool) → test x ≡ b → (y : X) → (if b then Some x else find test xs) ≡ Some y
      → also y ≡ true → (find test xs ≡ Some y → 1 ≤ times (λ (z : X). test z && also z) xs)
      → 1 ≤ times (λ (z : X). test z && also z) (x ∷ xs)
  counts_by x xs true is y e passes more =
      let here : (test x && also x) ≡ true = and_from (test x) (also x) is
      (subst (λ (z : X). also z ≡ true) (sym (same_Some x y e)) passes)
      in rw here (omega arith)
  counts_by x xs false is y e passes more = by_rest (test x && also x) refl
    where
      by_rest : (c : Bool) → (test x && also x) ≡ c → 1 ≤ times (λ (z : X). test z && also z) (x ∷ xs)
      by_rest true here = rw here (omega arith)
      by_rest false here = rw here (more e)

  found_counts : (xs : List X) (y : X) → find test xs ≡ Some y → also y ≡ true
      → 1 ≤ times (λ (z : X). test z && also z) xs
  found_counts [] y e passes = absurd (none-some y e)
  found_counts (x ∷ xs) y e passes = counts_by x xs (test x) refl y e passes (λ f. found_counts xs y f passes)

-- ---- deliveries

pub delivered_once : (trade : Trade) (J : Journals) → OneOutcome trade J → OneDelivery trade J
    → (pair : Pair) (row : Known) (home : ℕ) → known_of (ledger trade J pair.id.provider) pair ≡ Some row
    → row.decision ≡ Placed → trade.home pair.recipient ≡ Some home
    → times_held (is_envelope_of pair.id) (ledger trade J home) pair.recipient ≡ 1
delivered_once trade J one deliveries pair row home known placed at_home =
    let found = found_holds (λ (k : Known). same_pair pair k.pair)
    (λ (k : Known). IsDecidedSo trade J k.pair k.decision k.decided) (ledger trade J pair.id.provider).known row known
    (one.known_decided pair.id.provider)
    in let decided =
    subst (λ (p : Pair). IsDecidedSo trade J p row.decision row.decided) (sym (same_pairs pair row.pair found.0))
    found.1
    in let there : decided_of (ledger trade J home) pair ≡ Some decided.fate =
    ap (decided_at trade J pair) (sym at_home) ∙ decided.decided
    in let some : 1 ≤ times_placed (ledger trade J home) pair =
    found_counts (λ (fate : Fate). same_pair pair fate.pair) (λ (fate : Fate). is_placed fate.decision)
    (ledger trade J home).decided decided.fate there (ap is_placed (decided.so ∙ placed))
    in let many = deliveries.envelopes home pair
    in let most = deliveries.once home pair
    in let n : times_held (is_envelope_of pair.id) (ledger trade J home) pair.recipient ≡ 1 =
    omega (arith, some, many, most)
    in n
