-- The lines of a script, in a directory: what each says (`said_by`), and the commands that they come to, with the end
-- to which the last of them leads (`script_of`). This project's profile.
use Rattle.std.specs.Prelude.{ℕ, ◌+◌, ◌==◌, nat_lt, Bool, true, List, [], ◌∷◌, length, Option, Result, Ok, Err, if◌then◌else◌}
use Rattle.pec_types.specs.Bytes.{Bytes}
use Rattle.pec_directory.specs.Directory.{Provider}
use Rattle.pec_plays.specs.Commands.{Command, Submit, Tick, Round, Lose, Repeat, Swap, Inject, Crash, Restart, Book, Mailbox, Show, Archive, Upgrade, Vault, VaultShow, Screen}
use Rattle.pec_screen.specs.Verdicts.{Patterns}
use Rattle.pec_script.specs.LinesReading.{command_of}
use Rattle.pec_script.specs.declared.commands.Command.{Command as Written}
use Rattle.pec_script.specs.declared.commands.Command.TheVariants as written
use Rattle.pec_script.specs.declared.faults.LineFault.{LineFault}
use Rattle.pec_runs.specs.Endings.{End}
use Rattle.pec_runs.specs.Endings as ends
use Rattle.pec_input.specs.Lines.{content_of}

-- how many lines a script may have
abbrev pub most_lines : ℕ
most_lines = 1000000

-- how many bytes a line may have, its end not counted
abbrev pub longest_line : ℕ
longest_line = 67108864

-- Which spare was at hand as each line was played, by the line's number, from 1: its patterns, or none.
abbrev pub Hands : Type 0
Hands = ℕ → Option Patterns

-- a command as the network plays it, where this spare is at hand
abbrev pub command_in : Option Patterns → Written → Command
command_in spare (written.Submit provider moment sender path message) =
    Submit provider moment sender path message
command_in spare (written.Tick provider moment) = Tick provider moment
command_in spare (written.Round moment) = Round moment
command_in spare (written.Lose from to place) = Lose from to place
command_in spare (written.Repeat from to place) = Repeat from to place
command_in spare (written.Swap from to place) = Swap from to place
command_in spare (written.Inject from to frame) = Inject from to frame
command_in spare (written.Crash provider) = Crash provider
command_in spare (written.Restart provider) = Restart provider
command_in spare (written.Book address) = Book address
command_in spare (written.Mailbox address) = Mailbox address
command_in spare (written.Show address place) = Show address place
command_in spare (written.Archive address moment place) = Archive address moment place
command_in spare (written.Upgrade provider moment) = Upgrade provider moment
command_in spare (written.Vault address) = Vault address
command_in spare (written.VaultShow address place) = VaultShow address place
command_in spare (written.Screen provider place) = Screen provider place spare

-- What a line of a script is: one that is passed over, a command, a line that says none, or one past a limit.
pub data Line : Type 0 where
  PassedOver : Line
  Says : (command : Command) → Line
  SaysNone : (fault : LineFault) → Line
  TooLong : Line
  TooMany : Line

-- an empty line, or one that begins with `#`
abbrev pub is_passed_over : Bytes → Bool
is_passed_over [] = true
is_passed_over (b ∷ bs) = b == 35

-- a line that is read as a command, or has a fault
abbrev pub line_by : Option Patterns → Result Written LineFault → Line
line_by spare (Ok command) = Says (command_in spare command)
line_by spare (Err fault) = SaysNone fault

-- What the line of a number, from 1, is, where this spare is at hand.
unfoldable pub said_by : Option Patterns → List Provider → ℕ → Bytes → Line
said_by spare providers number line =
    if nat_lt most_lines number then TooMany
    else (if nat_lt longest_line (length (content_of line)) then TooLong
    else (if is_passed_over (content_of line) then PassedOver else line_by spare (command_of providers (content_of line))))

-- The commands of a script in order, and the end to which it comes behind them.
pub record Script : Type 0 where
  pub commands : List Command
  pub end : End

-- no command, and this end
abbrev pub nothing_but : End → Script
nothing_but end = record { commands = []; end = end }

-- a command before those of a script
abbrev pub onto_script : Command → Script → Script
onto_script command script = record { commands = command ∷ script.commands; end = script.end }

-- a line of a number, before what the lines behind it come to
abbrev pub behind_line : ℕ → Line → Script → Script
behind_line number PassedOver script = script
behind_line number (Says command) script = onto_script command script
behind_line number (SaysNone fault) script = nothing_but (ends.LineRefused number fault)
behind_line number TooLong script = nothing_but (ends.LongLine number)
behind_line number TooMany script = nothing_but ends.LongScript

-- The script of these lines, the first of which has this number.
abbrev pub script_of : Hands → List Provider → ℕ → List Bytes → Script
script_of hands providers number [] = nothing_but ends.Done
script_of hands providers number (line ∷ lines) =
    behind_line number (said_by (hands number) providers number line) (script_of hands providers (number + 1) lines)
