-- What a status says of a run, row by row: `HasEnded`, `IsDone`. This project's profile.
use Rattle.std.specs.Prelude.{◌≡◌, ◌++◌, length, Option}
use Rattle.pec_types.specs.Bytes.{Bytes}
use Rattle.pec_outside.specs.Flow.{followed_by}
use Rattle.pec_runs.specs.AnswerLines.{answers_text}
use Rattle.pec_runs.specs.Endings.{Done, End, end_text}
use Rattle.pec_runs.specs.Happened.{Asked, Begun, Happened, outcome_of, providers_in, stage_of}
use Rattle.pec_runs.specs.Openings.{Form, NoMore}
use Rattle.pec_runs.specs.Plays.{Ends}
use Rattle.pec_runs.specs.ScriptLines.{Script}
use Rattle.pec_runs.specs.Statuses.{Status, status_of}
use Rattle.pec_runs.specs.Statuses as statuses

-- The status isn't one of a run that was stopped.
abbrev pub IsOfEnd : Status → Type 0
IsOfEnd statuses.ReadFault = ⊥
IsOfEnd statuses.WriteFault = ⊥
IsOfEnd statuses.NoMemory = ⊥
IsOfEnd statuses.StartFault = ⊥
IsOfEnd _ = Unit {0}

-- The lines of the answers were written and nothing else.
abbrev pub WroteAnswers : Asked → Happened → Option Bytes → Option Bytes → Type 0
WroteAnswers asked happened before after =
    after ≡ followed_by before (answers_text (providers_in happened.setting) (outcome_of asked happened).answers)

-- The run came to an end that has this status; the lines of its answers were written, and the end's last line.
pub record HasEnded (asked : Asked) (happened : Happened) (status : Status)
    (before after : Option Bytes) : Type 0 where
  pub end : End
  pub finish : (outcome_of asked happened).finish ≡ Ends end
  pub status_is : status_of end ≡ status
  pub written : after ≡ followed_by before
      (answers_text (providers_in happened.setting) (outcome_of asked happened).answers
      ++ end_text (providers_in happened.setting) end)

-- All journals were made or opened, all commands of the script were played, and no line of it was refused.
pub record IsDone (asked : Asked) (happened : Happened) : Type 0 where
  pub form : Form
  pub script : Script
  pub begun : stage_of asked happened.hands happened.early happened.parts ≡ Begun form script
  pub at_hand : happened.opening.next ≡ NoMore
  pub all : length happened.lucks ≡ length script.commands
  pub done : script.end ≡ Done
