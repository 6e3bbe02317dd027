-- Runs of the program one after another, some of which play a script and some of which serve: `AreCallsOn`. This project's
-- profile.
use Rattle.std.specs.Prelude.{◌≡◌, ℕ, List, [], ◌∷◌, Option}
use Rattle.pec_types.specs.Bytes.{Bytes}
use Rattle.pec_outside.specs.DiskModel.{Sight}
use Rattle.pec_ledger.specs.Trade.{Trade}
use Rattle.pec_runs.specs.Passing.{AreFoundAs, OneRun, RanHonestly}
use Rattle.pec_runs.specs.Statuses.{Status}
use Rattle.pec_runs.specs.Through.{AreAtHome}
use Rattle.pec_service.specs.Runs.{AllCounts, Asked, Begins, Outside, stage_of, world}
use Rattle.pec_service.specs.Through.{ServiceRanThrough}

-- A run of the program that serves, as its contract has it: what it was asked, its status, input and output, the disks at
-- home before it and behind it, clock and door, and counts of faults.
pub record OneService (D : Type 0) : Type 0 where
  pub asked : Asked
  pub status : Status
  pub unread : Option Bytes
  pub before : Option Bytes
  pub after : Option Bytes
  pub home : ℕ → Option D
  pub left : ℕ → Option D
  pub here : Outside
  pub there : Outside
  pub old : AllCounts
  pub new : AllCounts

-- A run that plays a script, or one that serves.
pub data OneCall (D : Type 0) : Type 0 where
  Plays : (run : OneRun D) → OneCall D
  Serves : (service : OneService D) → OneCall D

-- the disks at home before it
abbrev pub home_of : {D : Type 0} → OneCall D → ℕ → Option D
home_of (Plays run) = run.home
home_of (Serves service) = service.home

-- and behind it
abbrev pub left_of : {D : Type 0} → OneCall D → ℕ → Option D
left_of (Plays run) = run.left
left_of (Serves service) = service.left

module _ {D : Type 0} (tells : Type 0) (sight : D → Sight) (faults : D → ℕ) (trade : Trade) where
  -- It served in this world, on the disks of its providers.
  pub record ServedHonestly (service : OneService D) : Type 0 where
    pub ran : ServiceRanThrough tells sight faults service.asked service.status service.unread service.before service.after
        service.home service.left service.here service.there service.old service.new
    pub world_is : stage_of ran.ran.served.happened.early ran.ran.served.happened.directory ≡ Begins
        → world ran.ran.served.happened ≡ trade
    pub at_home : AreAtHome trade service.home

  -- It ran in this world, and no forged frame was injected.
  abbrev pub CalledHonestly : OneCall D → Type 0
  CalledHonestly (Plays run) = RanHonestly tells sight faults trade run
  CalledHonestly (Serves service) = ServedHonestly service

  -- So did these, one after another, each on the disks that the one before left, or that a crash left of them.
  abbrev pub AreCallsOn : OneCall D → List (OneCall D) → Type 0
  AreCallsOn call [] = CalledHonestly call
  AreCallsOn call (next ∷ more) =
      CalledHonestly call × AreFoundAs tells sight trade (left_of call) (home_of next) × AreCallsOn next more

-- the one that came last
abbrev pub last_call : {D : Type 0} → OneCall D → List (OneCall D) → OneCall D
last_call call [] = call
last_call call (next ∷ more) = last_call next more
