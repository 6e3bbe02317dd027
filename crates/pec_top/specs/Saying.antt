-- What a line of a script says, as the program takes it: `IsSaid`, of what was found at the line. This project's profile.
use Rattle.std.specs.Prelude.{◌≡◌, ℕ, ◌<◌, nat_lt, List, [], ◌∷◌, length, Option, None, Some, if◌then◌else◌}
use Rattle.pec_types.specs.Bytes.{Bytes}
use Rattle.pec_directory.specs.Directory.{Provider}
use Rattle.pec_input.specs.Lines.{content_of}
use Rattle.pec_input.specs.declared.buffers.Found.{Found}
use Rattle.pec_input.specs.declared.buffers.Found.TheVariants as found
use Rattle.pec_runs.specs.Endings.{end_text}
use Rattle.pec_runs.specs.Endings as runs
use Rattle.pec_runs.specs.ScriptLines.{Hands, PassedOver, Says, command_in, longest_line, most_lines, nothing_but, said_by, script_of}
use Rattle.pec_runs.specs.Statuses.{status_of}
use Rattle.pec_screen.specs.Verdicts.{Patterns}
use Rattle.pec_serving.specs.OfNetworks.{CanPlay}
use Rattle.pec_top.specs.Shown.{end_shown}
use Rattle.pec_top.specs.declared.ending.End.{End}
use Rattle.pec_top.specs.declared.said.Said.{Said}
use Rattle.pec_top.specs.declared.said.Said.TheVariants as said

-- how the run ends, where the script ends there
abbrev pub last_of : Said → Option End
last_of (said.Last text last) = Some last
last_of _ = None

-- A command may be played in a directory of so many providers.
abbrev pub CanBePlayed : ℕ → Said → Type 0
CanBePlayed count (said.Command command) = CanPlay count command
CanBePlayed count _ = Unit {0}

-- how a script ends at a line of this number that is past a limit
abbrev pub end_past : ℕ → runs.End
end_past number = if nat_lt most_lines number then runs.LongScript else runs.LongLine number

module _ (providers : List Provider) (number : ℕ) where
  -- A script ends at the first of these lines, with this last line, whatever spares were at hand.
  pub record EndsAt (lines : List Bytes) (text : Bytes) (last : End) : Type 0 where
    pub end : runs.End
    pub script : (hands : Hands) → script_of hands providers number lines ≡ nothing_but end
    pub text_is : text ≡ end_text providers end
    pub shown : end_shown last ≡ status_of end

  abbrev pub EndsSaid : List Bytes → Said → Type 0
  EndsSaid lines (said.Last text last) = EndsAt lines text.items last
  EndsSaid lines _ = ⊥

  -- The line is passed over, or with this spare at hand it says a command; or the script ends there, whatever is behind
  -- it.
  abbrev pub IsLineSaid : Option Patterns → Bytes → Said → Type 0
  IsLineSaid spare line said.Nothing = said_by spare providers number line ≡ PassedOver
  IsLineSaid spare line (said.Command command) = said_by spare providers number line ≡ Says (command_in spare command)
  IsLineSaid spare line (said.Last text last) = (lines : List Bytes) → EndsAt (line ∷ lines) text.items last

  -- What was found: no line, so that the script ends; a line; or one that is too long.
  abbrev pub IsSaid : Option Patterns → Found → Bytes → Said → Type 0
  IsSaid spare found.End line what = EndsSaid [] what
  IsSaid spare found.Line line what = IsLineSaid spare line what
  IsSaid spare found.Long line what =
      (long : Bytes) (lines : List Bytes) → longest_line < length (content_of long) → EndsSaid (long ∷ lines) what
