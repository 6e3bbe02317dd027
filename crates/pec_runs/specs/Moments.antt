-- A run that is killed: at a moment of some step of it. `IsKilledIn` says what its disks hold then, and `HasTold`
-- what it had told by then. This project's profile.
use Rattle.std.specs.Prelude.{◌≡◌, ℕ, zero, suc, List, [], ◌∷◌, ◌++◌, take, Option, Some}
use Rattle.pec_types.specs.Bytes.{Bytes}
use Rattle.pec_outside.specs.DiskModel.{Sight}
use Rattle.pec_outside.specs.Flow.{WrotePart, followed_by}
use Rattle.pec_directory.specs.Directory.{Provider}
use Rattle.pec_records.specs.declared.entries.Entry.{Entry}
use Rattle.pec_ledger.specs.Network.{Site, journal_at}
use Rattle.pec_ledger.specs.Trade.{Trade}
use Rattle.pec_chronicle.specs.Chronicle.{ChronicleState, IsJournalOf, Stands}
use Rattle.pec_plays.specs.Commands.{Luck}
use Rattle.pec_plays.specs.Scripts.{IsUnforged}
use Rattle.pec_runs.specs.Steps.{Act, Hands, Plays, State, Step, Writes, text_by, text_of}

-- ---- premises

-- The act's command may come in this state, and no forged frame is injected, or put in place of a due one.
abbrev pub IsHonestAct : Trade → Luck → List Site → Act → Type 0
IsHonestAct trade luck sites (Plays command) = IsUnforged trade luck sites command
IsHonestAct trade luck sites (Hands command) = IsUnforged trade luck sites command
IsHonestAct trade luck sites (Writes text) = Unit {0}

module _ {D : Type 0} where
  -- So it is along steps.
  abbrev pub AreHonest : Trade → State D → List (Step D) → Type 0
  AreHonest trade here [] = Unit {0}
  AreHonest trade here (step ∷ steps) =
      IsHonestAct trade step.luck here.sites step.act × AreHonest trade step.behind steps

  -- What is kept of each provider stands on its disk.
  abbrev pub AllStandIn : (D → Sight) → State D → Type 0
  AllStandIn sight here =
      (provider : ℕ) (one : ChronicleState D) → here.chronicles provider ≡ Some one → Stands sight one

  -- ---- moments

  -- Where a run from here to there stands before the step of a number, from 0. Behind all steps there is one more, from
  -- the last of them to where the run stopped.
  abbrev pub state_at : ℕ → State D → State D → List (Step D) → State D
  state_at zero here there steps = here
  state_at (suc number) here there [] = there
  state_at (suc number) here there (step ∷ steps) = state_at number step.behind there steps

  -- The run was killed within the step of this number: the bytes are what a crash may have left of the provider's disk at a
  -- moment from the state before that step to the one behind it.
  pub record IsKilledIn (sight : D → Sight) (number : ℕ) (here there : State D) (steps : List (Step D)) (provider : ℕ)
      (bytes : Bytes) : Type 0 where
    pub was : ChronicleState D
    pub before : (state_at number here there steps).chronicles provider ≡ Some was
    pub now : ChronicleState D
    pub behind : (state_at (suc number) here there steps).chronicles provider ≡ Some now
    pub left : (sight now.disk).left_since (sight was.disk).moment bytes

-- ---- what was told

-- At a moment of a step its command is being played, or behind that its lines are being written.
pub data Phase : Type 0 where
  Playing : Phase
  Writing : Phase

-- the number of the step before which the state stands that has all of which a line was told
abbrev pub number_told : Phase → ℕ → ℕ
number_told Playing number = number
number_told Writing number = suc number

-- A run from here to there was killed at such a moment of the step of a number, with these bytes on a provider's disk. While
-- lines are being written nothing is done on disks.
abbrev pub IsKilledAt : {D : Type 0} → (D → Sight) → Phase → ℕ → State D → State D → List (Step D) → ℕ → Bytes → Type 0
IsKilledAt sight Playing number here there steps provider bytes =
    IsKilledIn sight number here there steps provider bytes
IsKilledAt {D} sight Writing number here there steps provider bytes =
    (now : ChronicleState D) × ((state_at (suc number) here there steps).chronicles provider ≡ Some now)
    × (sight now.disk).may_leave bytes

-- The bytes are the journal of a list that has all entries of a provider in this state, and maybe more behind them.
pub record HoldsAll (sites : List Site) (provider : ℕ) (bytes : Bytes) : Type 0 where
  pub more : List Entry
  pub journal : IsJournalOf (journal_at sites provider ++ more) bytes

module _ (trade : Trade) (providers : List Provider) {D : Type 0} where
  -- the lines of the steps before the one of a number, from 0
  abbrev pub told_before : ℕ → State D → List (Step D) → Bytes
  told_before number here steps = text_of trade providers here (take number steps)

  -- the lines of that step; what a run was stopped within has none
  abbrev pub lines_at : ℕ → State D → List (Step D) → Bytes
  lines_at number here [] = []
  lines_at zero here (step ∷ steps) = text_by trade providers here.sites step.act step.luck
  lines_at (suc number) here (step ∷ steps) = lines_at number step.behind steps

  -- What the output holds at a moment of the step of a number, where it held this before the run: while its command is being
  -- played the lines of the steps before it, and behind that a front of its own lines, too.
  abbrev pub HasTold : Phase → ℕ → State D → List (Step D) → (before held : Option Bytes) → Type 0
  HasTold Playing number here steps before held = held ≡ followed_by before (told_before number here steps)
  HasTold Writing number here steps before held =
      WrotePart (followed_by before (told_before number here steps)) held (lines_at number here steps)
