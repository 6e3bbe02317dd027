-- Runs without faults: no count of faults rose (`NoFaults`); the one transcript of such a run (`transcript`), a
-- function of its words, its input, its world, its screens and spares and the journals that it had; and two runs that
-- wrote it (`WroteAlike`). This project's profile.
use Rattle.std.specs.Prelude.{◌≡◌, ℕ, ◌-◌, ◌^◌, ◌<◌, false, List, [], Option, Some}
use Rattle.pec_types.specs.Bytes.{Bytes}
use Rattle.pec_outside.specs.Flow.{followed_by}
use Rattle.pec_records.specs.declared.entries.Entry.{Entry}
use Rattle.pec_plays.specs.Commands.{Luck}
use Rattle.pec_plays.specs.Possible.{quiet_lucks}
use Rattle.pec_screen.specs.Verdicts.{Patterns}
use Rattle.pec_runs.specs.Happened.{Asked, Begun, Happened, Setting, Stage, outcome_at, providers_in, stage_of, trade_in}
use Rattle.pec_runs.specs.Openings.{opened_all}
use Rattle.pec_runs.specs.Plays.{Outcome, ToTheEnd, outcome_from, outcome_text}
use Rattle.pec_runs.specs.Ran.{Counts, beginning, status_at, world}
use Rattle.pec_runs.specs.ScriptLines.{Script}
use Rattle.pec_runs.specs.Statuses.{Status}

-- A count stood still, below its greatest value.
abbrev pub StoodStill : ℕ → ℕ → Type 0
StoodStill before now = (now ≡ before) × (now < 2 ^ 64 - 1)

-- No count rose.
pub record NoFaults (old new : Counts) : Type 0 where
  pub source : StoodStill old.source new.source
  pub sink : StoodStill old.sink new.sink
  pub depot : StoodStill old.depot new.depot
  pub disks : (provider : ℕ) → StoodStill (old.disks provider) (new.disks provider)

-- the lucks without faults of the commands of a run at its stage
abbrev pub quiet_at : Happened → Stage → List Luck
quiet_at happened (Begun form script) = quiet_lucks (world happened) (beginning happened) script.commands
quiet_at happened _ = []

-- what a script comes to without a fault, from screens and journals that are at hand
abbrev pub quiet_outcome : Setting → List (List Patterns) → List (List Entry) → Script → Outcome
quiet_outcome setting screens journals written =
    outcome_from (trade_in setting)
    (quiet_lucks (trade_in setting) (opened_all (trade_in setting) screens journals) written.commands) ToTheEnd
    (opened_all (trade_in setting) screens journals) written

-- what a run comes to at its stage, where its commands meet no fault
abbrev pub transcript_at : Happened → Stage → Outcome
transcript_at happened stage = outcome_at (record happened { lucks = quiet_at happened stage; rest = ToTheEnd }) stage

-- What a run comes to where nothing fails, and memory is there.
unfoldable pub transcript : Asked → Happened → Outcome
transcript asked happened = transcript_at happened (stage_of asked happened.hands false happened.parts)

-- All of the transcript was written, and the status is that of its end.
pub record TellsTranscript (asked : Asked) (happened : Happened) (status : Status) (before after : Option Bytes)
    : Type 0 where
  pub status_is : status_at (transcript asked happened).finish ≡ Some status
  pub written : after ≡ followed_by before (outcome_text (providers_in happened.setting) (transcript asked happened))

-- Two runs wrote alike: they have one status, and wrote the same bytes behind what their outputs held.
pub record WroteAlike (status other : Status) (before after other_before other_after : Option Bytes) : Type 0 where
  pub status_is : other ≡ status
  pub text : Bytes
  pub written : after ≡ followed_by before text
  pub again : other_after ≡ followed_by other_before text
