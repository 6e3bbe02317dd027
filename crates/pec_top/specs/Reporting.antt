-- What is told of a network before it is closed, where that is asked: `Reports`; and a run with what was told of the state
-- in which it ended, `RanReporting`. This project's profile.
use Rattle.std.specs.Prelude.{◌≡◌, ◌≢◌, ℕ, List, length, Option}
use Rattle.pec_types.specs.Bytes.{Bytes}
use Rattle.pec_outside.specs.DiskModel.{Sight}
use Rattle.pec_ledger.specs.Network.{Site, journal_at}
use Rattle.pec_ledger.specs.Trade.{Trade}
use Rattle.pec_runs.specs.Happened.{Asked, outcome_of}
use Rattle.pec_runs.specs.Plays.{Strays}
use Rattle.pec_runs.specs.Ran.{world}
use Rattle.pec_runs.specs.Statuses.{Status}
use Rattle.pec_runs.specs.Statuses as statuses
use Rattle.pec_serving.specs.OfNetworks.{total_of}
use Rattle.pec_top.specs.Running.{RanSoOver}
use Rattle.pec_top.specs.declared.reporting.Report.{Report}
use Rattle.pec_top.specs.declared.reporting.Report.TheVariants as reports

-- The numbers that are told are those of this state; where nothing could be told, nothing is said.
abbrev pub IsTold : Report → Trade → List Site → Type 0
IsTold (reports.Told summary alfa beta) trade sites =
    (summary ≡ total_of trade sites) × (alfa ≡ length (journal_at sites 0)) × (beta ≡ length (journal_at sites 1))
IsTold _ trade sites = Unit {0}

-- What was asked was told of this state.
abbrev pub Reports : Report → Report → Trade → List Site → Type 0
Reports reports.Asked told trade sites = IsTold told trade sites
Reports _ told trade sites = Unit {0}

-- The program ran so, and where it was done what was asked was told of the state in which it ended, unless it strayed.
pub record RanReporting {D : Type 0} (tells : Type 0) (sight : D → Sight) (faults : D → ℕ) (asked : Asked) (status : Status)
    (unread before after : Option Bytes) (home left : ℕ → Option D) (from upto : ℕ → ℕ) (report told : Report) : Type 0 where
  pub ran : RanSoOver tells sight faults asked status unread before after home left from upto
  pub reported : status ≡ statuses.Done → (outcome_of asked ran.so.happened).finish ≢ Strays
      → Reports report told (world ran.so.happened) (outcome_of asked ran.so.happened).after
