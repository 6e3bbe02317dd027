-- What one run leaves on the disks and what the next one finds there: `Passes`, at whatever moment the one ended or was
-- killed, and `AreFitting`, which it carries on: whatever is found together and was made in this world fits together. This
-- project's profile.
use Rattle.std.specs.Prelude.{◌≡◌, ◌⊎◌, ℕ, ◌<◌, ◌≤◌, List, [], ◌∷◌, length, slice_index_or, Option, Some}
use Rattle.pec_types.specs.Bytes.{Bytes}
use Rattle.pec_outside.specs.DiskModel.{Sight}
use Rattle.pec_records.specs.declared.entries.Entry.{Entry}
use Rattle.pec_records.specs.declared.entries.Entry.TheVariants as entries
use Rattle.pec_ledger.specs.Ledger.{Fit}
use Rattle.pec_ledger.specs.Network.{Site, Sound, journals_in}
use Rattle.pec_ledger.specs.Trade.{Trade}
use Rattle.pec_chronicle.specs.Carrying.{FollowsSo}
use Rattle.pec_chronicle.specs.Chronicle.{IsJournalOf}
use Rattle.pec_runs.specs.Happened.{Asked, Begun, stage_of}
use Rattle.pec_runs.specs.Headline.{AllHonest}
use Rattle.pec_runs.specs.Moments.{IsKilledIn}
use Rattle.pec_runs.specs.Openings.{Form, NoMore}
use Rattle.pec_runs.specs.Ran.{Counts, beginning, world}
use Rattle.pec_runs.specs.ScriptLines.{Script}
use Rattle.pec_runs.specs.Statuses.{Status}
use Rattle.pec_runs.specs.Steps.{State, Step}
use Rattle.pec_runs.specs.Through.{AreAtHome, RanThrough, size_begun}

-- ---- what disks hold

-- which bytes each provider's disk may hold
abbrev pub Holdings : Type 1
Holdings = ℕ → Bytes → Type 0

-- what a crash may leave of the disks at home, where these tell it; what a disk reads as is one of its images
abbrev pub held : {D : Type 0} → Type 0 → (D → Sight) → (ℕ → Option D) → Holdings
held {D} tells sight home provider bytes =
    tells × ((disk : D) × (home provider ≡ Some disk) × (sight disk).may_leave bytes)

module _ (trade : Trade) where
  -- A journal of a provider as it is made, of either version: its first entry stands alone.
  abbrev pub IsFresh : ℕ → List Entry → Type 0
  IsFresh provider list =
      (list ≡ entries.StartTwo provider trade.digest ∷ []) ⊎ (list ≡ entries.Start provider trade.digest ∷ [])

  -- Entries begin with the provider's Start or StartTwo, under this directory.
  abbrev pub IsOurs : ℕ → List Entry → Type 0
  IsOurs provider list =
      (rest : List Entry) × ((list ≡ entries.StartTwo provider trade.digest ∷ rest)
      ⊎ (list ≡ entries.Start provider trade.digest ∷ rest))

  module _ (holds : Holdings) where
    -- This may be a provider's journal: its disk may hold it, or the disk may be empty and the journal be made.
    abbrev pub MayBe : ℕ → List Entry → Type 0
    MayBe provider list =
        (IsOurs provider list × ((bytes : Bytes) × holds provider bytes × IsJournalOf list bytes))
        ⊎ (IsFresh provider list × holds provider [])

    -- Journals that may be those of all providers fit together; and where a provider's disk may be empty, it holds no more
    -- bytes than a journal as it is made.
    pub record AreFitting : Type 0 where
      pub fits : (lists : List (List Entry)) → length lists ≡ trade.providers
          → ((provider : ℕ) → provider < trade.providers → MayBe provider (slice_index_or lists provider []))
          → Fit trade (journals_in lists)
      pub small : (provider : ℕ) → provider < trade.providers → holds provider [] → (bytes : Bytes)
          → holds provider bytes → length bytes ≤ size_begun trade provider

  -- ---- from one run to the next

  -- What is found was there before; or a journal was being made: the disk may have been empty, and what is found is no
  -- longer than that journal, where nothing longer was there.
  abbrev pub IsFoundOrMade : (old new : Holdings) → ℕ → Type 0
  IsFoundOrMade old new provider =
      (bytes : Bytes) → new provider bytes
      → old provider bytes
      ⊎ (old provider [] × (((was : Bytes) → old provider was → length was ≤ size_begun trade provider)
      → length bytes ≤ size_begun trade provider))

  -- From what a run found to what the next one finds: the run was stopped before all journals were had, or just behind that;
  -- or it played, and then all that is found follows one of its states, which is Sound where what it found was fitting.
  pub data Passes (old new : Holdings) : Type 0 where
    HadOnly : ((provider : ℕ) → provider < trade.providers → IsFoundOrMade old new provider) → Passes old new
    Followed : (sites : List Site)
        → (AreFitting old → Sound trade sites
        × ((provider : ℕ) (bytes : Bytes) → provider < trade.providers → new provider bytes
        → FollowsSo trade sites provider bytes))
        → Passes old new

  -- No disk of a provider holds anything.
  abbrev pub AreEmpty : Holdings → Type 0
  AreEmpty holds = (provider : ℕ) (bytes : Bytes) → provider < trade.providers → holds provider bytes → bytes ≡ []

-- ---- how disks are found

module _ {D : Type 0} (tells : Type 0) (sight : D → Sight) (trade : Trade) where
  -- Disks are found as these were left, or as a crash may have left them.
  abbrev pub AreFoundAs : (left found : ℕ → Option D) → Type 0
  AreFoundAs left found =
      (provider : ℕ) (bytes : Bytes) → provider < trade.providers → held tells sight found provider bytes
      → held tells sight left provider bytes

  -- A crash at a moment between two values of a provider's disk left these bytes.
  pub record IsLeftBetween (old new : ℕ → Option D) (provider : ℕ) (bytes : Bytes) : Type 0 where
    pub was : D
    pub before : old provider ≡ Some was
    pub now : D
    pub behind : new provider ≡ Some now
    pub left : (sight now).left_since (sight was).moment bytes

  -- Disks are found as a kill left them between the one value of each and the other.
  abbrev pub AreFoundBetween : (old new found : ℕ → Option D) → Type 0
  AreFoundBetween old new found =
      (provider : ℕ) (bytes : Bytes) → provider < trade.providers → held tells sight found provider bytes
      → IsLeftBetween old new provider bytes

  -- Disks are found as a kill left them within the step of this number, of a run that went from here to there.
  abbrev pub AreFoundWithin : ℕ → State D → State D → List (Step D) → (ℕ → Option D) → Type 0
  AreFoundWithin number here there steps found =
      (provider : ℕ) (bytes : Bytes) → provider < trade.providers → held tells sight found provider bytes
      → IsKilledIn sight number here there steps provider bytes

  -- ---- runs one after another

  -- Each run passes on what it found to the next one, which finds these disks.
  abbrev pub AreRuns : (ℕ → Option D) → List (ℕ → Option D) → Type 0
  AreRuns first [] = Unit {0}
  AreRuns first (next ∷ more) =
      Passes trade (held tells sight first) (held tells sight next) × AreRuns next more

-- the disks that were found last
abbrev pub last_found : {D : Type 0} → (ℕ → Option D) → List (ℕ → Option D) → ℕ → Option D
last_found first [] = first
last_found first (next ∷ more) = last_found next more

-- ---- runs of the program

-- A run of the program that plays a script, as its contract has it: what it was asked, its status, input and output, the
-- disks at home before it and behind it, and counts of faults.
pub record OneRun (D : Type 0) : Type 0 where
  pub asked : Asked
  pub status : Status
  pub unread : Option Bytes
  pub before : Option Bytes
  pub after : Option Bytes
  pub home : ℕ → Option D
  pub left : ℕ → Option D
  pub old : Counts
  pub new : Counts

module _ {D : Type 0} (tells : Type 0) (sight : D → Sight) (faults : D → ℕ) (trade : Trade) where
  -- It ran in this world, on the disks of its providers, and injected no forged frame.
  pub record RanHonestly (run : OneRun D) : Type 0 where
    pub ran : RanThrough tells sight faults run.asked run.status run.unread run.before run.after run.home run.left run.old
        run.new
    pub world_is : (form : Form) (script : Script)
        → stage_of run.asked ran.ran.happened.hands ran.ran.happened.early ran.ran.happened.parts ≡ Begun form script
        → world ran.ran.happened ≡ trade
    pub at_home : AreAtHome trade run.home
    pub honest : (form : Form) (script : Script)
        → stage_of run.asked ran.ran.happened.hands ran.ran.happened.early ran.ran.happened.parts ≡ Begun form script
        → ran.ran.happened.opening.next ≡ NoMore
        → AllHonest trade ran.ran.happened.lucks (beginning ran.ran.happened) script.commands

  -- So did these, one after another, each on the disks that the one before left, or that a crash left of them.
  abbrev pub AreRunsOn : OneRun D → List (OneRun D) → Type 0
  AreRunsOn run [] = RanHonestly run
  AreRunsOn run (next ∷ more) = RanHonestly run × AreFoundAs tells sight trade run.left next.home × AreRunsOn next more

-- the run that came last
abbrev pub last_run : {D : Type 0} → OneRun D → List (OneRun D) → OneRun D
last_run run [] = run
last_run run (next ∷ more) = last_run next more
