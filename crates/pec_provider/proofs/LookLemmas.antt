-- How often screens looked at a submission, by what was answered.
use Rattle.std.proofs.Common.{◌≡◌, ℕ, ◌≤◌, List, length, Bool, true, false, Option, Some, None, inr, refl, sym, subst}
use Rattle.std.proofs.Common.{Result, Err}
use Rattle.std.specs.Prelude.{IsErrAnd}
use Rattle.std.proofs.lemmas.Result.{err_from_is_err_and}
use Rattle.pec_types.specs.Bytes.{Bytes, Path}
use Rattle.pec_types.specs.declared.messages.Cause.{Cause}
use Rattle.pec_types.specs.declared.messages.Facts.{Facts}
use Rattle.pec_ledger.specs.OfDirectory.{facts_in}
use Rattle.pec_types.specs.declared.turns.ProviderFault.{ProviderFault}
use Rattle.pec_types.specs.declared.turns.ProviderFault.TheVariants as faults
use Rattle.pec_ledger.specs.Trade.{Trade}
use Rattle.pec_plays.specs.Commands.{entry_by, screened_cause}
use Rattle.pec_points.specs.Admission.{Looked}
use Rattle.pec_points.specs.AdmissionReading.{admission_of, admission_with, admitted, head_in, screened}
use Rattle.pec_points.specs.Case.{Case}
use Rattle.pec_points.specs.declared.admission.Admission.{Admission}
use Rattle.pec_points.specs.declared.admission.Admission.TheVariants.{Accepted, Not}
use Rattle.pec_reception.specs.OfTrades.{cause_in}
use Rattle.pec_records.specs.Entry.{IsWithinLimits, longest_message, most_addresses}
use Rattle.pec_records.specs.declared.entries.Entry.{Entry}
use Rattle.pec_provider.specs.Appending.{Appends, WorksAt}
use Rattle.pec_provider.specs.Looking.{Looks}
use Rattle.pec_provider.specs.Provider.{Desk}

-- the cause of what the screens said behind an answer
pub cause_screened : (found : Bool) (answer : Admission) → cause_in (screened found answer) ≡ screened_cause found (cause_in answer)
cause_screened true (Accepted facts) = refl
cause_screened false (Accepted facts) = refl
cause_screened true (Not cause) = refl
cause_screened false (Not cause) = refl

-- an accepted message has the facts that are told
facts_told : (cause : Option Cause) (found : Option Facts) (facts : Facts) → admitted cause found ≡ Accepted facts → found ≡ Some facts
facts_told None (Some f) facts e = cc
facts_told None None facts e = cc
facts_told (Some cause) found facts e = cc

pub accepted_facts : (case : Case) (facts : Facts) → admission_of case ≡ Accepted facts → facts_in case.message ≡ Some facts
unfolding admission_of admission_with head_in facts_in
accepted_facts case facts e = facts_told _ _ facts e

-- the fault that is handed on
pub handed : {X : Type 0} (P : Result X ProviderFault → Type 0) (fault : ProviderFault) (result : Result X ProviderFault)
    → IsErrAnd result (λ f. f ≡ fault) → P (Err fault) → P result
handed {X} P fault result is so =
    let p = err_from_is_err_and result is in
    subst P (sym p.1) (subst (λ (f : ProviderFault). P (Err f)) (sym p.2) so)

module _ (X : Type 0) (case : Case) (before after : List ℕ) where
  -- before the screens: the provider isn't at work
  pub still : (trade : Trade) (me now : ℕ) (desk : Desk) (fault : ProviderFault) → WorksAt {X = X} trade me now desk (Err fault)
      → after ≡ before → Looks {X = X} case before after (Err fault)
  still trade me now desk faults.Down works e = e
  still trade me now desk (faults.ClockBack moment) works e = e
  still trade me now desk faults.JournalFull works e = absurd works
  still trade me now desk faults.DiskFault works e = absurd works
  still trade me now desk faults.NoMemory works e = absurd works
  still trade me now desk faults.NoAccount works e = absurd works
  still trade me now desk faults.Full works e = absurd works
  still trade me now desk faults.OldJournal works e = absurd works
  still trade me now desk faults.NoNeed works e = absurd works
  still trade me now desk faults.NoItem works e = absurd works
  still trade me now desk (faults.Changed which) works e = absurd works

  -- behind them: the entry wasn't appended
  pub behind : (trade : Trade) (me : ℕ) (entry : Entry) (old new : Desk) (fault : ProviderFault)
      → Appends {X = X} trade me entry old new (Err fault) → Looked case before after → Looks {X = X} case before after (Err fault)
  behind trade me entry old new faults.JournalFull appends looked = looked
  behind trade me entry old new faults.DiskFault appends looked = looked
  behind trade me entry old new faults.NoMemory appends looked = inr looked
  behind trade me entry old new faults.Down appends looked = absurd appends
  behind trade me entry old new (faults.ClockBack moment) appends looked = absurd appends
  behind trade me entry old new faults.NoAccount appends looked = absurd appends
  behind trade me entry old new faults.Full appends looked = absurd appends
  behind trade me entry old new faults.OldJournal appends looked = absurd appends
  behind trade me entry old new faults.NoNeed appends looked = absurd appends
  behind trade me entry old new faults.NoItem appends looked = absurd appends
  behind trade me entry old new (faults.Changed which) appends looked = absurd appends

-- the entry of a submission is within the limits that its path and its message are in
pub within_limits : (cause : Option Cause) (moment : ℕ) (sender : Bytes) (path : Path) (message : Bytes) → length path ≤ most_addresses
    → length message ≤ longest_message → IsWithinLimits (entry_by cause moment sender path message)
within_limits None moment sender path message few short = short
within_limits (Some cause) moment sender path message few short = (few, short)
