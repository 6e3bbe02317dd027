-- Disks with which a service can begin, `CanServe`, and what it comes to without a fault, `ServesWhole`. This project's
-- profile.
use Rattle.std.specs.Prelude.{◌≡◌, ◌⊎◌, ℕ, Option, Some}
use Rattle.pec_types.specs.Bytes.{Bytes}
use Rattle.pec_outside.specs.DiskModel.{Sight}
use Rattle.pec_ledger.specs.Trade.{Trade}
use Rattle.pec_runs.specs.Complete.{CanBegin}
use Rattle.pec_runs.specs.Openings.{Form, NoMore, Resume, Run}
use Rattle.pec_runs.specs.Statuses.{Status}
use Rattle.pec_service.specs.Runs.{Asked, Happened, Outside, ServesAll}

-- All of its disks are empty, or all hold journals of their providers' own.
abbrev pub CanServe : {D : Type 0} → (D → Sight) → Trade → (ℕ → Option D) → Type 0
CanServe sight trade home = CanBegin sight trade home Run ⊎ CanBegin sight trade home Resume

-- All journals were had, in a form, and all was served and written.
pub record ServesWhole (asked : Asked) (status : Status) (before after : Option Bytes) (here : Outside) (happened : Happened)
    : Type 0 where
  pub form : Form
  pub is_form : happened.form ≡ Some form
  pub had : happened.course.opening.next ≡ NoMore
  pub serves : ServesAll asked status before after here happened
