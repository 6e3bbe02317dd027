-- A run moment by moment, `RanThrough`: `Ran` over a depot, and what each disk that was at home went through until it was at
-- home again. While journals are had nothing is written, or a journal that is made grows no longer than it will be; with
-- all of them had there are the steps by which the run went on, each with the network behind it; then the disks are put
-- back as they are. So it is said of every moment of a run what a crash may leave. This project's profile.
use Rattle.std.specs.Prelude.{◌≡◌, ◌≢◌, ℕ, ◌<◌, ◌≤◌, List, [], ◌++◌, Option, None, Some, option_map}
use Rattle.pec_types.specs.Bytes.{Bytes}
use Rattle.pec_outside.specs.DiskModel.{GrowsTo, Sight, Stays}
use Rattle.pec_outside.specs.Flow.{WrotePart}
use Rattle.pec_records.specs.declared.entries.Entry.{Entry}
use Rattle.pec_records.specs.declared.entries.Entry.TheVariants as entries
use Rattle.pec_ledger.specs.Trade.{Trade}
use Rattle.pec_chronicle.specs.Chronicle.{ChronicleState, made_size}
use Rattle.pec_screen.specs.Verdicts.{Patterns}
use Rattle.pec_runs.specs.Happened.{Asked, Begun, Happened, providers_in, stage_of}
use Rattle.pec_runs.specs.Moments.{AllStandIn}
use Rattle.pec_runs.specs.Moves.{Moves}
use Rattle.pec_runs.specs.Openings.{Form, NoMore, Resume, Run, opened_all}
use Rattle.pec_runs.specs.Ran.{Counts, RanOver, world}
use Rattle.pec_runs.specs.ScriptLines.{Script}
use Rattle.pec_runs.specs.Statuses.{Status}
use Rattle.pec_runs.specs.Steps.{Act, AllCounted, AllMoments, AreCounted, AreSeen, AreSteps, State, Step, acts_of, acts_of_script, lucks_in}
use Rattle.pec_runs.specs.Steps.{state_behind, text_of}

-- ---- while journals are had

-- how many bytes a provider's journal has as it is made, with its StartTwo alone
abbrev pub size_begun : Trade → ℕ → ℕ
size_begun trade provider = made_size (entries.StartTwo provider trade.digest)

-- each provider whose disk the network asks for has it at home
abbrev pub AreAtHome : {D : Type 0} → Trade → (ℕ → Option D) → Type 0
AreAtHome trade home = (provider : ℕ) → provider < trade.providers → home provider ≢ None

module _ {D : Type 0} (sight : D → Sight) where
  -- What a provider's disk goes through while its journal is made, of so many bytes, or opened: it isn't asked for, so it is
  -- the same; or nothing is written on it; or it was empty, a journal is made, and no image is longer at any moment than
  -- that journal, or than one was before.
  pub data IsHadFrom (form : Form) (size : ℕ) (was now : D) : Type 0 where
    Same : now ≡ was → IsHadFrom form size was now
    Still : Stays (sight was) (sight now) → IsHadFrom form size was now
    Made : form ≡ Run → (sight was).seen ≡ [] → GrowsTo size (sight was) (sight now) → IsHadFrom form size was now

  -- So does each disk from the one map to the other.
  abbrev pub AreHadFrom : Type 0 → Form → Trade → (old new : ℕ → Option D) → Type 0
  AreHadFrom tells form trade old new =
      tells → (provider : ℕ) (was now : D) → old provider ≡ Some was → new provider ≡ Some now
      → IsHadFrom form (size_begun trade provider) was now

-- ---- with all journals had

-- the disks of what is kept in a state, by provider
abbrev pub disks_in : {D : Type 0} → State D → ℕ → Option D
disks_in {D} state provider = option_map (λ (one : ChronicleState D). one.disk) (state.chronicles provider)

-- `faults` is the count of faults that a disk itself tells. `home` and `left` are the disks at home before the run and
-- behind it; between these their counts of faults rose so.
module _ {D : Type 0} (tells : Type 0) (sight : D → Sight) (faults : D → ℕ) (home left : ℕ → Option D)
    (from upto : ℕ → ℕ) where
  -- All journals were had, these in this form; the run went on from them by these steps, and the last may have been left
  -- within; and the disks were put back as they were then. As it begins and behind each step the counts of faults are those
  -- of the disks. Disks that are no provider's stay.
  pub record GoesThrough (trade : Trade) (form : Form) (screens : List (List Patterns)) (journals : List (List Entry))
      : Type 0 where
    pub first : State D
    pub steps : List (Step D)
    pub last : State D
    pub begins : first.sites ≡ opened_all trade screens journals
    pub seen : AreSeen first
    pub stand : tells → AllStandIn sight first
    pub had : AreHadFrom sight tells form trade home (disks_in first)
    pub sooner : (provider : ℕ) → from provider ≤ first.counts provider
    pub begun : AreCounted faults first
    pub counted : AllCounted faults steps
    pub each : AreSteps trade tells first steps
    pub moments : tells → AllMoments trade sight first last steps
    pub later : (provider : ℕ) → (state_behind first steps).counts provider ≤ upto provider
    pub kept : tells → (provider : ℕ) → provider < trade.providers
        → (one : ChronicleState D) × (last.chronicles provider ≡ Some one) × (left provider ≡ Some one.disk)
    pub elsewhere : tells → (provider : ℕ) → trade.providers ≤ provider → left provider ≡ home provider

  -- All journals were had, these in this form; the network moved on from them, whatever came in and was played; and the disks
  -- were put back as they were then. Disks that are no provider's stay.
  pub record MovesThrough (trade : Trade) (form : Form) (screens : List (List Patterns)) (journals : List (List Entry))
      : Type 0 where
    pub first : State D
    pub last : State D
    pub begins : first.sites ≡ opened_all trade screens journals
    pub seen : AreSeen first
    pub begun : AreCounted faults first
    pub stand : tells → AllStandIn sight first
    pub had : AreHadFrom sight tells form trade home (disks_in first)
    pub moves : Moves trade tells sight faults first last
    pub kept : tells → (provider : ℕ) → provider < trade.providers
        → (one : ChronicleState D) × (last.chronicles provider ≡ Some one) × (left provider ≡ Some one.disk)
    pub elsewhere : tells → (provider : ℕ) → trade.providers ≤ provider → left provider ≡ home provider

  -- These steps are the commands of a script, with the lucks that happened; and what was written, from what the output held
  -- before to what it held after, is a front of their lines.
  pub record PlaysThrough (before after : Option Bytes) (happened : Happened) (form : Form) (script : Script) : Type 0
    where
      pub goes : GoesThrough (world happened) form happened.screens happened.opening.journals
      pub lucks : lucks_in goes.steps ≡ happened.lucks
      pub unplayed : List Act
      pub acts : acts_of goes.steps ++ unplayed ≡ acts_of_script (providers_in happened.setting) script
      pub written : tells
          → WrotePart before after (text_of (world happened) (providers_in happened.setting) goes.first goes.steps)

  -- So the disks went, by how far the run came: without a disk that was asked for nothing is written; where not all journals
  -- were had, each disk is as that left it; and else a script was played.
  pub record DisksWent (before after : Option Bytes) (asked : Asked) (happened : Happened) : Type 0 where
    pub unasked :
        ((form : Form) (script : Script) → stage_of asked happened.hands happened.early happened.parts ≡ Begun form script → ⊥)
        → AreHadFrom sight tells Resume (world happened) home left
    pub stopped : (form : Form) (script : Script)
        → stage_of asked happened.hands happened.early happened.parts ≡ Begun form script → happened.opening.next ≢ NoMore
        → AreHadFrom sight tells form (world happened) home left
    pub played : (form : Form) (script : Script)
        → stage_of asked happened.hands happened.early happened.parts ≡ Begun form script → happened.opening.next ≡ NoMore
        → PlaysThrough before after happened form script

-- The program ran so, and its disks went through this.
pub record RanThrough {D : Type 0} (tells : Type 0) (sight : D → Sight) (faults : D → ℕ) (asked : Asked)
    (status : Status) (unread before after : Option Bytes) (home left : ℕ → Option D) (old new : Counts) : Type 0 where
  pub ran : RanOver tells sight asked status unread before after home left old new
  pub through : DisksWent tells sight faults home left old.disks new.disks before after asked ran.happened
