-- Rows that stand while one journal goes on, and what rows of one provider say of another's.
use Rattle.std.proofs.Common.{◌≡◌, ℕ, List, ◌++◌, true, ◌&&◌, ap, sym, subst, ◌∙◌, Some}
use Rattle.std.specs.Prelude.{All, IsSome, is_some, ◌==◌}
use Rattle.std.specs.List.{find}
use Rattle.std.proofs.lemmas.Bool.{and_parts, eqb-true}
use Rattle.std.proofs.lemmas.List.Elements.{All-contains, All-nil, All-push}
use Rattle.std.proofs.lemmas.Option.{same_Some}
use Rattle.pec_types.specs.Message.{Id}
use Rattle.pec_records.specs.declared.entries.Entry.{Entry}
use Rattle.pec_records.specs.declared.entries.Entry.TheVariants as entries
use Rattle.pec_ledger.specs.Along.{GoesOnAs}
use Rattle.pec_ledger.specs.Half.{Charge, Fate, Half, Known, Taken}
use Rattle.pec_ledger.specs.Ledger.{Fit, Journals, Meets, accepted_in, ledger}
use Rattle.pec_ledger.specs.Lookups.{Accepted, accepted_at, addresses_of, at_home, charged_of, decided_of, is_acked, known_of, taken_of}
use Rattle.pec_ledger.specs.Pairs.{Pair, same_id, same_pair}
use Rattle.pec_ledger.specs.Steps.{charged_by, half, step}
use Rattle.pec_ledger.specs.Trade.{Trade}
use Rattle.pec_ledger.specs.TradeLaws.{IsTrade}
use Rattle.pec_ledger.proofs.Arrivals.{envelope_names, envelope_of, facts_of, row_of, sent_row}
use Rattle.pec_ledger.proofs.Growth.{Longer, accepted_stays, decided_stays, known_stays, longer_half, taken_stays, what_is}
use Rattle.pec_ledger.proofs.GuaranteeLemmas.{IsKnownPair, acked_known, all_as_before, holds_in_all}
use Rattle.pec_ledger.proofs.ListLemmas.{found_stays, found_there}
use Rattle.pec_ledger.proofs.PairLemmas.{same_ids, same_pairs}

-- ---- one journal that goes on

module _ (trade : Trade) (p : ℕ) (old new : List Entry) (g : GoesOnAs old new) where
  longer : Longer (half trade p old) (half trade p new)
  unfolding ledger
  longer = longer_half trade (λ q. old) (λ q. new) (λ q. g) p

  pub accepted_stands : (number : ℕ) (message : Accepted) → accepted_at (half trade p old) number ≡ Some message → accepted_at (half trade p new) number ≡ Some message
  accepted_stands number message e = accepted_stays (half trade p old) (half trade p new) number message longer e

  pub taken_stands : (id : Id) (row : Taken) → taken_of (half trade p old) id ≡ Some row → taken_of (half trade p new) id ≡ Some row
  taken_stands id row e = taken_stays (half trade p old) (half trade p new) id row longer e

  pub decided_stands : (pair : Pair) (fate : Fate) → decided_of (half trade p old) pair ≡ Some fate → decided_of (half trade p new) pair ≡ Some fate
  decided_stands pair fate e = decided_stays (half trade p old) (half trade p new) pair fate longer e

  pub known_stands : (pair : Pair) (row : Known) → known_of (half trade p old) pair ≡ Some row → known_of (half trade p new) pair ≡ Some row
  known_stands pair row e = known_stays (half trade p old) (half trade p new) pair row longer e

  pub acked_stands : (pair : Pair) → is_acked (half trade p old) pair ≡ true → is_acked (half trade p new) pair ≡ true
  acked_stands pair e =
      let row = what_is (find (same_pair pair) (half trade p old).acked) e
      in ap is_some (found_stays (same_pair pair) (half trade p old).acked (half trade p new).acked row.0 longer.acked row.1)

-- ---- journals that are Fit

module _ (trade : Trade) (J : Journals) (fit : Fit trade J) where
  abbrev IsTakenThere : Charge → Type 0
  IsTakenThere charge = IsSome (taken_of (ledger trade J charge.by) charge.id)

  charged_step : (p : ℕ) (h : Half) (e : Entry) → All IsTakenThere h.charged → Meets trade J p h e → All IsTakenThere (h.charged ++ charged_by e)
  charged_step p h (entries.Charged moment id by) all meets =
      All-push IsTakenThere h.charged (record { id = id; by = by; moment = moment }) all meets.joint
  charged_step p h _ all meets = all_as_before IsTakenThere h.charged all

  all_taken : (p : ℕ) → All IsTakenThere (ledger trade J p).charged
  unfolding step
  all_taken p =
      holds_in_all trade J fit p (λ h. All IsTakenThere h.charged) (All-nil IsTakenThere) (λ h e all meets. charged_step p h e all meets)

  pub charged_is_taken : (p : ℕ) (id : Id) (by : ℕ) (charge : Charge) → charged_of (ledger trade J p) id by ≡ Some charge → IsSome (taken_of (ledger trade J by) id)
  charged_is_taken p id by charge e =
      let rows = (ledger trade J p).charged
      in let found = found_there (λ (row : Charge). same_id id row.id && (by == row.by)) rows charge e
      in let same = and_parts (same_id id charge.id) (by == charge.by) found.1
      in subst (λ (i : Id). IsSome (taken_of (ledger trade J by) i)) (sym (same_ids id charge.id same.0))
      (subst (λ (q : ℕ). IsSome (taken_of (ledger trade J q) charge.id)) (sym (eqb-true by charge.by same.1)) (All-contains IsTakenThere rows charge (all_taken p) found.0))

  pub acked_is_known : (p : ℕ) (pair : Pair) → is_acked (ledger trade J p) pair ≡ true → IsSome (known_of (ledger trade J pair.id.provider) pair)
  acked_is_known p pair e =
      let rows = (ledger trade J p).acked
      in let other = what_is (find (same_pair pair) rows) e
      in let found = found_there (same_pair pair) rows other.0 other.1
      in subst (IsKnownPair trade J) (sym (same_pairs pair other.0 found.1)) (All-contains (IsKnownPair trade J) rows other.0 (acked_known trade J fit p) found.0)

  pub recipients_agree : IsTrade trade → (p : ℕ) (id : Id) (row : Taken) (message : Accepted) → taken_of (ledger trade J p) id ≡ Some row
      → accepted_in trade J id ≡ Some message → row.recipients ≡ at_home trade p (addresses_of message.facts)
  recipients_agree world p id row message taken accepted =
      let envelope = envelope_of trade J fit p id row taken
      in let same = same_Some envelope.1.message message (sym envelope.1.is.accepted ∙ accepted)
      in envelope.2
      ∙ ap (at_home trade p) (envelope_names trade J fit world id p envelope.0 envelope.1 ∙ ap (λ (m : Accepted). addresses_of m.facts) same)

  pub senders_agree : (id : Id) (message : Accepted) → accepted_in trade J id ≡ Some message → message.facts.sender ≡ message.sender
  senders_agree id message e =
      let row = row_of trade J fit id message e
      in let facts = facts_of trade J fit row.0 message row.2
      in (sent_row trade J fit id message row.0 row.1 facts.0).sender ∙ facts.1
