-- What a provider's calls in a turn answer, and what they leave: each is one step of pec_plays, or one of the faults
-- that it may meet, in their order: `Arrives`, `Decides`, `DecidesBy`. This project's profile.
use Rattle.std.specs.Prelude.{◌≡◌, ◌⊎◌, ℕ, ◌<◌, ◌≤◌, Bool, true, false, IsTrue, List, [], ◌∷◌, ◌++◌, Option, Some, None, Result, Ok, Err}
use Rattle.pec_types.specs.Bytes.{Bytes}
use Rattle.pec_types.specs.declared.turns.Event.{Event}
use Rattle.pec_types.specs.declared.turns.ProviderFault.{ProviderFault}
use Rattle.pec_types.specs.declared.turns.ProviderFault.TheVariants as faults
use Rattle.pec_records.specs.declared.entries.Entry.{Entry}
use Rattle.pec_screen.specs.Verdicts.{Patterns}
use Rattle.pec_ledger.specs.Pairs.{Pair}
use Rattle.pec_ledger.specs.Trade.{Trade}
use Rattle.pec_plays.specs.Decisions.{found_in_taken, undecided}
use Rattle.pec_plays.specs.Reception.{arrive}
use Rattle.pec_plays.specs.Steps.{Step, journal_after}
use Rattle.pec_plays.specs.Turns.{last_of}
pub use Rattle.pec_reception.specs.Shows.{decide_as}
use Rattle.pec_provider.specs.Looking.{HaveLooked}
use Rattle.pec_provider.specs.Provider.{Desk}
use Rattle.pec_provider.specs.Reading.{FindsFirst, HasStopped}

-- ---- desks

-- behind a step that was done
abbrev pub behind : Desk → Step → Desk
behind desk step = record {
  journal = journal_after desk.journal step;
  owed = desk.owed ++ step.owed;
  up = desk.up;
  interrupted = desk.interrupted;
}

-- the append of this entry failed: whether it is on the disk isn't known
abbrev pub broken : Desk → Entry → Desk
broken desk entry = record { journal = desk.journal; owed = desk.owed; up = false; interrupted = Some entry }

-- ---- steps

-- A step is done, and its event told; or the append of its entry failed, the journal has no room for the entry, or
-- memory ran out.
abbrev pub Does : Step → Desk → Desk → Result Event ProviderFault → Type 0
Does step old new (Ok event) = (event ≡ step.event) × (step.full ≡ false) × (new ≡ behind old step)
Does step old new (Err faults.DiskFault) =
    (entry : Entry) × (step.entry ≡ Some entry) × (step.full ≡ false) × (new ≡ broken old entry)
Does step old new (Err faults.JournalFull) = (step.full ≡ true) × (new ≡ old)
Does step old new (Err faults.NoMemory) = new ≡ old
Does step old new (Err _) = ⊥

-- The read of the envelope by which a pair is decided failed, or gave what was never kept so: its recipient is an
-- account, and the provider is down, with no entry interrupted.
pub record FailsToRead (trade : Trade) (me : ℕ) (pair : Pair) (old new : Desk) : Type 0 where
  pub account : IsTrue (trade.is_account me pair.recipient)
  pub stops : HasStopped old new

-- Why a pair isn't decided, by this step: its envelope couldn't be read, or its entry isn't appended.
abbrev pub IsUndecided : Trade → ℕ → Pair → Step → Desk → Desk → ProviderFault → Type 0
IsUndecided trade me pair step old new faults.DiskFault =
    FailsToRead trade me pair old new ⊎ Does step old new (Err faults.DiskFault)
IsUndecided trade me pair step old new (faults.Changed number) = FailsToRead trade me pair old new
IsUndecided trade me pair step old new fault = Does step old new (Err fault)

-- The first of the undecided pairs is decided, where there is one, as screens found a rule for it or none.
abbrev pub DecidesFirst : Trade → ℕ → ℕ → Bool → List Pair → Desk → Desk → Result (Option Event) ProviderFault → Type 0
DecidesFirst trade me now found [] old new (Ok None) = new ≡ old
DecidesFirst trade me now found [] old new (Ok (Some event)) = ⊥
DecidesFirst trade me now found [] old new (Err faults.NoMemory) = new ≡ old
DecidesFirst trade me now found [] old new (Err _) = ⊥
DecidesFirst trade me now found (pair ∷ pairs) old new (Ok None) = ⊥
DecidesFirst trade me now found (pair ∷ pairs) old new (Ok (Some event)) =
    Does (decide_as trade me now found old.journal pair) old new (Ok event)
DecidesFirst trade me now found (pair ∷ pairs) old new (Err fault) =
    IsUndecided trade me pair (decide_as trade me now found old.journal pair) old new fault

-- Whether screens of these patterns find a rule in the original of the first undecided pair, where there is one.
abbrev pub IsFound : Trade → ℕ → List Patterns → List Entry → Bool → Type 0
IsFound trade me screens journal found =
    (pair : Pair) (pairs : List Pair) → undecided trade me journal ≡ pair ∷ pairs
    → found ≡ found_in_taken trade me screens journal pair.id

-- ---- calls

module _ (trade : Trade) (me now : ℕ) where
  -- It is up, and the moment isn't before the greatest of its journal.
  pub record IsAtWork (desk : Desk) : Type 0 where
    pub up : desk.up ≡ true
    pub in_time : last_of trade me desk.journal ≤ now

  -- Before anything is looked at a call is refused where the provider is down, and where the moment is before the
  -- greatest of its journal, which is told; else it is done so.
  abbrev pub Works : {X : Type 0} → (Result X ProviderFault → Type 0) → Desk → Desk → Result X ProviderFault → Type 0
  Works Done old new (Err faults.Down) = (old.up ≡ false) × (new ≡ old)
  Works Done old new (Err (faults.ClockBack moment)) =
      (old.up ≡ true) × (now < last_of trade me old.journal) × (moment ≡ last_of trade me old.journal) × (new ≡ old)
  Works Done old new answer = IsAtWork old × Done answer

  -- What is done with a frame.
  abbrev pub Arrives : Bytes → Desk → Desk → Result Event ProviderFault → Type 0
  Arrives frame old new answer = Works (Does (arrive trade me now old.journal frame) old new) old new answer

  -- What is done with the next taken pair that isn't decided, as screens found a rule for it or none.
  abbrev pub Decides : Bool → Desk → Desk → Result (Option Event) ProviderFault → Type 0
  Decides found old new answer =
      Works (DecidesFirst trade me now found (undecided trade me old.journal) old new) old new answer

  -- So it is with what screens of these patterns find in the original in the envelope that was read, where the pair came to
  -- them. `Stood` says when the provider's disk gave back what it took: then that is the original that was taken.
  pub record DecidesBy (Stood : Type 0) (screens : List Patterns) (old new : Desk)
      (answer : Result (Option Event) ProviderFault) : Type 0 where
    pub found : Bool
    pub finds : Stood → IsFound trade me screens old.journal found
    pub given : HaveLooked new.interrupted answer
        → FindsFirst Stood trade me old.journal screens (undecided trade me old.journal) found
    pub decides : Decides found old new answer
