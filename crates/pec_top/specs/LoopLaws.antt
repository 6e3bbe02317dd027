-- What the laws of pec_runs and pec_input say of a loop over the lines of a script, in one world and one directory:
-- `LoopLaws`. This project's profile.
use Rattle.std.specs.Prelude.{◌≡◌, ◌≢◌, ◌+◌, ◌≤◌, ℕ, List, [], ◌∷◌, length, map, Option, None, Some}
use Rattle.pec_types.specs.Bytes.{Bytes}
use Rattle.pec_outside.specs.DiskModel.{Sight}
use Rattle.pec_directory.specs.Directory.{Provider}
use Rattle.pec_input.specs.Lines.{content_of}
use Rattle.pec_ledger.specs.Trade.{Trade}
use Rattle.pec_runs.specs.Endings.{End, end_text}
use Rattle.pec_runs.specs.Reading.{AreLinesLeft, GoesOn, IsLineRead, IsRead, LinePoint, Reads, TellsOn, behind_line, commands_by}
use Rattle.pec_runs.specs.ScriptLines.{Hands, Line, nothing_but, said_by, script_of}
use Rattle.pec_runs.specs.Steps.{Goes, IsWritten, NoneFell, Plays, Point, Stop, WriteFault, Writes, status_by, stopped_status}
use Rattle.pec_screen.specs.Verdicts.{Patterns}

pub record LoopLaws (D : Type 0) (tells : Type 0) (sight : D → Sight) (faults : D → ℕ) (trade : Trade)
    (providers : List Provider) : Type 0 where
  -- acts: none, and a text that is written
  pub nowhere : (here : Point D) → Goes trade providers tells sight faults [] here here None
  pub written : (text : Bytes) (here there : Point D) (stop : Option Stop) → there.state ≡ here.state
      → NoneFell here there → IsWritten text here there stop
      → Goes trade providers tells sight faults (Writes text ∷ []) here there stop
  -- lines
  pub starts : (first : LinePoint D) → Reads trade providers tells sight faults first first
  pub on : (first here : LinePoint D) (there : Point D) (spare : Option Patterns) (line : Bytes) (what : Line) (behind : Option Bytes)
      → said_by spare providers here.number line ≡ what → GoesOn what → IsLineRead here.unread line behind
      → TellsOn here.unread behind → Goes trade providers tells sight faults (map Plays (commands_by what)) here.point there
      None
      → Reads trade providers tells sight faults first here
      → Reads trade providers tells sight faults first (behind_line here there behind)
  pub ended : (first here : LinePoint D) (there : Point D) (lines : List Bytes) (end : End) (stop : Option Stop)
      → ((hands : Hands) → script_of hands providers here.number lines ≡ nothing_but end)
      → AreLinesLeft here.unread lines
      → Goes trade providers tells sight faults (Writes (end_text providers end) ∷ []) here.point there stop
      → Reads trade providers tells sight faults first here
      → IsRead trade providers tells sight faults first there (status_by end stop)
  pub stopped : (first here : LinePoint D) (there : Point D) (spare : Option Patterns) (line : Bytes) (what : Line) (behind : Option Bytes)
      (stop : Stop) → said_by spare providers here.number line ≡ what → GoesOn what
      → IsLineRead here.unread line behind → TellsOn here.unread behind
      → Goes trade providers tells sight faults (map Plays (commands_by what)) here.point there (Some stop)
      → Reads trade providers tells sight faults first here
      → IsRead trade providers tells sight faults first there (stopped_status stop)
  pub halted : (first here : LinePoint D) (stop : Stop) → stop ≢ WriteFault
      → Reads trade providers tells sight faults first here
      → IsRead trade providers tells sight faults first here.point (stopped_status stop)
  -- bytes
  pub content : (line : Bytes) → (length (content_of line) ≤ length line)
      × (length line ≤ length (content_of line) + 2)
