-- What is to be done with the next pair that has to be decided, by what screens find in its original: `IsReady`; and
-- why that isn't known: `IsUnready`. RFC 6109, section 3.3, within this project's profile.
use Rattle.std.specs.Prelude.{ℕ, Bool, IsTrue, List, [], ◌∷◌, Option, Some, None}
use Rattle.pec_types.specs.declared.turns.ProviderFault.{ProviderFault}
use Rattle.pec_types.specs.declared.turns.ProviderFault.TheVariants as faults
use Rattle.pec_records.specs.declared.entries.Entry.{Entry}
use Rattle.pec_screen.specs.Verdicts.{Patterns}
use Rattle.pec_ledger.specs.Pairs.{Pair}
use Rattle.pec_ledger.specs.Trade.{Trade}
use Rattle.pec_plays.specs.Decisions.{undecided}
use Rattle.pec_reception.specs.Shows.{Shows, decide_as}
use Rattle.pec_reception.specs.declared.received.Received.{Received}
use Rattle.pec_provider.specs.Reading.{FindsFirst}
use Rattle.pec_provider.specs.Working.{IsFound}

-- Nothing is undecided; or this is done with the first of these pairs, as screens found a rule for it or none.
abbrev pub ShowsNext : Trade → ℕ → ℕ → Bool → List Entry → List Pair → Option Received → Type 0
ShowsNext trade me moment found journal [] None = Unit {0}
ShowsNext trade me moment found journal [] (Some received) = ⊥
ShowsNext trade me moment found journal (pair ∷ pairs) None = ⊥
ShowsNext trade me moment found journal (pair ∷ pairs) (Some received) =
    Shows received (decide_as trade me moment found journal pair)

-- This is to be done, by what screens of these patterns find in the original in the envelope that was read. `Stood` says
-- when what was kept was read: then that is the original that was taken.
pub record IsReady (Stood : Type 0) (trade : Trade) (me moment : ℕ) (screens : List Patterns) (journal : List Entry)
    (next : Option Received) : Type 0 where
  pub found : Bool
  pub finds : Stood → IsFound trade me screens journal found
  pub given : FindsFirst Stood trade me journal screens (undecided trade me journal) found
  pub shows : ShowsNext trade me moment found journal (undecided trade me journal) next

-- the first of these pairs has an account as recipient
abbrev pub IsOfAccount : Trade → ℕ → List Pair → Type 0
IsOfAccount trade me [] = ⊥
IsOfAccount trade me (pair ∷ pairs) = IsTrue (trade.is_account me pair.recipient)

-- Memory ran out; or there is a pair, its recipient is an account, and its envelope couldn't be read, or isn't what was
-- needed.
abbrev pub IsUnready : Trade → ℕ → List Pair → ProviderFault → Type 0
IsUnready trade me pairs faults.NoMemory = Unit {0}
IsUnready trade me pairs faults.DiskFault = IsOfAccount trade me pairs
IsUnready trade me pairs (faults.Changed number) = IsOfAccount trade me pairs
IsUnready trade me pairs _ = ⊥
