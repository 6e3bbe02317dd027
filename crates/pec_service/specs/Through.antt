-- A run that serves, moment by moment, `ServiceRanThrough`: `ServiceRan` over a depot, and what each disk that was at home
-- went through until it was at home again, in the words of pec_runs. This project's profile.
use Rattle.std.specs.Prelude.{◌≡◌, ◌≢◌, ℕ, List, [], ◌∷◌, Option, None, Some}
use Rattle.pec_types.specs.Bytes.{Bytes}
use Rattle.pec_outside.specs.DiskModel.{Sight}
use Rattle.pec_ledger.specs.Trade.{Trade}
use Rattle.pec_screen.specs.Verdicts.{Patterns}
use Rattle.pec_runs.specs.Moves.{Moves, MovesOn}
use Rattle.pec_runs.specs.Openings.{Form, NoMore, Resume}
use Rattle.pec_runs.specs.Statuses.{Status}
use Rattle.pec_runs.specs.Through.{AreHadFrom, MovesThrough}
use Rattle.pec_runs.specs.Steps.{State}
use Rattle.pec_service.specs.Calls.{seen}
use Rattle.pec_service.specs.Connections.{Connection}
use Rattle.pec_service.specs.Runs.{AllCounts, Asked, Begins, Course, Happened, Outside, ServiceRanOver, stage_of, world}
use Rattle.pec_service.specs.Services.{Service}

-- ---- connection by connection

module _ (trade : Trade) (tells : Type 0) {D : Type 0} (sight : D → Sight) (faults : D → ℕ) where
  -- The network moved on from here to there while these connections were served: behind each it stands as the connection
  -- has it, and what is counted there are the faults of its disks.
  abbrev pub AreMoved : State D → List Connection → State D → Type 0
  AreMoved here [] there = there ≡ here
  AreMoved here (connection ∷ more) there =
      (behind : State D) × (connection.behind.network ≡ seen behind) × MovesOn trade tells sight faults here behind
      × AreMoved behind more there

  -- So it moved on in a service: connection by connection, and then within the one within which it halted, if it did.
  pub record ServiceMoved (here there : State D) (service : Service) : Type 0 where
    pub mid : State D
    pub whole : AreMoved here service.whole mid
    pub part : Moves trade tells sight faults mid there

-- All journals were had, and the network moved on from them, connection by connection.
pub record ServesThrough {D : Type 0} (tells : Type 0) (sight : D → Sight) (faults : D → ℕ) (home left : ℕ → Option D)
    (from upto : ℕ → ℕ) (trade : Trade) (form : Form) (screens : List (List Patterns)) (course : Course) : Type 0 where
  pub through : MovesThrough tells sight faults home left from upto trade form screens course.opening.journals
  pub moved : ServiceMoved trade tells sight faults through.first through.last course.service

-- So the disks went, by how far the run came: none was asked for, or they were looked at alone; not all journals were had; or
-- connections were served.
pub record DisksWent {D : Type 0} (tells : Type 0) (sight : D → Sight) (faults : D → ℕ) (home left : ℕ → Option D) (from upto : ℕ → ℕ)
    (asked : Asked) (happened : Happened) : Type 0 where
  pub unasked : (stage_of happened.early happened.directory ≡ Begins → ⊥)
      → AreHadFrom sight tells Resume (world happened) home left
  pub unlooked : stage_of happened.early happened.directory ≡ Begins → happened.form ≡ None
      → AreHadFrom sight tells Resume (world happened) home left
  pub stopped : stage_of happened.early happened.directory ≡ Begins → (form : Form) → happened.form ≡ Some form
      → happened.course.opening.next ≢ NoMore → AreHadFrom sight tells form (world happened) home left
  pub served : stage_of happened.early happened.directory ≡ Begins → (form : Form) → happened.form ≡ Some form
      → happened.course.opening.next ≡ NoMore
      → ServesThrough tells sight faults home left from upto (world happened) form asked.screens happened.course

-- The program served so, and its disks went through this.
pub record ServiceRanThrough {D : Type 0} (tells : Type 0) (sight : D → Sight) (faults : D → ℕ) (asked : Asked) (status : Status)
    (unread before after : Option Bytes) (home left : ℕ → Option D) (here there : Outside) (old new : AllCounts)
    : Type 0 where
  pub ran : ServiceRanOver tells sight asked status unread before after home left here there old new
  pub through : DisksWent tells sight faults home left old.devices.disks new.devices.disks asked ran.served.happened
