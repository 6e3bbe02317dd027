-- How a loop over the lines of a script goes: it reads a line, plays what it says, and writes the last line behind the
-- commands (`Reads`, `IsRead`). This project's profile.
use Rattle.std.specs.Prelude.{◌≡◌, ℕ, ◌+◌, ◌<◌, List, [], ◌∷◌, ◌++◌, map, Option, Some, None, IfSome}
use Rattle.pec_types.specs.Bytes.{Bytes}
use Rattle.pec_outside.specs.DiskModel.{Sight}
use Rattle.pec_directory.specs.Directory.{Provider}
use Rattle.pec_ledger.specs.Trade.{Trade}
use Rattle.pec_plays.specs.Commands.{Command}
use Rattle.pec_input.specs.Lines.{raw_lines}
use Rattle.pec_runs.specs.ScriptLines.{Hands, Line, PassedOver, Says, Script, script_of}
use Rattle.pec_runs.specs.Statuses.{Status}
use Rattle.pec_runs.specs.Steps.{Goes, IsScriptPlayed, Plays, Point}

-- the lines that are left to read, where that is told
abbrev pub AreLinesLeft : Option Bytes → List Bytes → Type 0
AreLinesLeft unread lines = IfSome unread (λ text. lines ≡ raw_lines text)

-- The line was read off the input. The loop knows it of an input that tells its bytes.
abbrev pub IsLineRead : Option Bytes → Bytes → Option Bytes → Type 0
IsLineRead before line behind =
    (rest : Bytes) → behind ≡ Some rest → IfSome before (λ text. raw_lines text ≡ line ∷ raw_lines rest)

-- An input that tells its bytes goes on telling them.
abbrev pub TellsOn : Option Bytes → Option Bytes → Type 0
TellsOn before behind = (text : Bytes) → before ≡ Some text → (rest : Bytes) × (behind ≡ Some rest)

-- Where a loop over lines stands: where the run does, the number of the next line, and what is left to read.
pub record LinePoint (D : Type 0) : Type 0 where
  pub point : Point D
  pub number : ℕ
  pub unread : Option Bytes

-- the place behind a line
abbrev pub behind_line : {D : Type 0} → LinePoint D → Point D → Option Bytes → LinePoint D
behind_line here point unread = record { point = point; number = here.number + 1; unread = unread }

-- the commands that a line says; a line behind which there are others says one or none
abbrev pub commands_by : Line → List Command
commands_by (Says command) = command ∷ []
commands_by _ = []

-- The script goes on behind a line.
abbrev pub GoesOn : Line → Type 0
GoesOn PassedOver = Unit {0}
GoesOn (Says command) = Unit {0}
GoesOn _ = ⊥

-- commands before those of a script
abbrev pub behind_commands : List Command → Script → Script
behind_commands commands script = record { commands = commands ++ script.commands; end = script.end }

-- These spares were at hand before the line of a number as those were.
abbrev pub AgreeBefore : ℕ → Hands → Hands → Type 0
AgreeBefore number hands others = (before : ℕ) → before < number → others before ≡ hands before

module _ (trade : Trade) (providers : List Provider) (tells : Type 0) {D : Type 0} (sight : D → Sight)
    (faults : D → ℕ) where
  -- The loop came from the first place to this one: it played these commands, and they are what the lines between say with
  -- the spares that were at hand, whatever lines are left, and whatever will be at hand for them.
  pub record Reads (first here : LinePoint D) : Type 0 where
    pub done : List Command
    pub goes : Goes trade providers tells sight faults (map Plays done) first.point here.point None
    pub hands : Hands
    pub script : (later : Hands) → AgreeBefore here.number hands later → (lines : List Bytes)
        → AreLinesLeft here.unread lines
        → (all : List Bytes) × AreLinesLeft first.unread all
        × (script_of later providers first.number all
        ≡ behind_commands done (script_of later providers here.number lines))

  -- The script of the lines that were left was played so, to there.
  pub record IsRead (first : LinePoint D) (there : Point D) (status : Status) : Type 0 where
    pub hands : Hands
    pub lines : List Bytes
    pub left : AreLinesLeft first.unread lines
    pub played : IsScriptPlayed trade providers tells sight faults (script_of hands providers first.number lines) status
        first.point there
