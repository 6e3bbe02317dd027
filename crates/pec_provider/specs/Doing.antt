-- How what is to be done (pec_reception) is done: `Undertakes`, for one step. This project's profile.
use Rattle.std.specs.Prelude.{◌≡◌, ℕ, Bool, false, List, Option, Some, None, Result, Ok, Err}
use Rattle.pec_types.specs.declared.turns.ProviderFault.{ProviderFault}
use Rattle.pec_records.specs.declared.entries.Entry.{Entry}
use Rattle.pec_ledger.specs.Trade.{Trade}
use Rattle.pec_plays.specs.Steps.{Step, has_no_room}
use Rattle.pec_reception.specs.Shows.{Shows}
use Rattle.pec_reception.specs.declared.received.Received.{Received}
use Rattle.pec_provider.specs.Appending.{Appends}
use Rattle.pec_provider.specs.Provider.{Desk}

-- the journal has no room for an entry, if there is one
abbrev pub is_full_for : Trade → ℕ → List Entry → Option Entry → Bool
is_full_for trade me journal None = false
is_full_for trade me journal (Some entry) = has_no_room trade me journal entry

-- What is to be done is a step of these entries.
pub record Undertakes (trade : Trade) (me : ℕ) (journal : List Entry) (received : Received) (step : Step) : Type 0 where
  pub shows : Shows received step
  pub full : step.full ≡ is_full_for trade me journal step.entry

-- An entry is appended, if there is one.
abbrev pub AppendsAny : {X : Type 0} → Trade → ℕ → Option Entry → Desk → Desk → Result X ProviderFault → Type 0
AppendsAny trade me None old new (Ok x) = new ≡ old
AppendsAny trade me None old new (Err fault) = ⊥
AppendsAny trade me (Some entry) old new answer = Appends trade me entry old new answer
