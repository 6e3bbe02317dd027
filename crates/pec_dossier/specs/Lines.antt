-- The lines of a dossier: what each says (`said_by`), and the messages that they save, with the end to which the last of
-- them leads (`saved_in`). A line is the base64 of one message (RFC 4648, section 4); the limits on lines and which of
-- them are passed over are those of a script. This project's profile.
use Rattle.std.specs.Prelude.{ℕ, ◌+◌, nat_lt, List, [], ◌∷◌, ◌++◌, length, Option, None, Some, if◌then◌else◌}
use Rattle.pec_types.specs.Bytes.{Bytes}
use Rattle.pec_input.specs.Lines.{content_of}
use Rattle.pec_script.specs.LinesReading.{message_of}
use Rattle.pec_script.specs.declared.faults.LineFault.TheVariants.{BadBase64}
use Rattle.pec_runs.specs.Endings.{End}
use Rattle.pec_runs.specs.Endings as ends
use Rattle.pec_runs.specs.ScriptLines.{is_passed_over, longest_line, most_lines}

-- What a line of a dossier is: one that is passed over, a message, one that isn't base64, or one past a limit.
pub data Line : Type 0 where
  PassedOver : Line
  Saves : (message : Bytes) → Line
  SavesNone : Line
  TooLong : Line
  TooMany : Line

-- a line that is read as a message, or isn't
abbrev pub line_by : Option Bytes → Line
line_by (Some message) = Saves message
line_by None = SavesNone

-- What the line of a number, from 1, is.
unfoldable pub said_by : ℕ → Bytes → Line
said_by number line =
    if nat_lt most_lines number then TooMany
    else (if nat_lt longest_line (length (content_of line)) then TooLong
    else (if is_passed_over (content_of line) then PassedOver else line_by (message_of (content_of line))))

-- The messages of a dossier in order, and the end to which its lines come behind them.
pub record Saved : Type 0 where
  pub messages : List Bytes
  pub end : End

-- no message, and this end
abbrev pub nothing_but : End → Saved
nothing_but end = record { messages = []; end = end }

-- messages before those of other lines
abbrev pub behind_messages : List Bytes → Saved → Saved
behind_messages messages saved = record { messages = messages ++ saved.messages; end = saved.end }

-- a line of a number, before what the lines behind it save
abbrev pub behind_line : ℕ → Line → Saved → Saved
behind_line number PassedOver saved = saved
behind_line number (Saves message) saved = record { messages = message ∷ saved.messages; end = saved.end }
behind_line number SavesNone saved = nothing_but (ends.LineRefused number (BadBase64 1))
behind_line number TooLong saved = nothing_but (ends.LongLine number)
behind_line number TooMany saved = nothing_but ends.LongScript

-- What these lines save, the first of which has this number.
abbrev pub saved_in : ℕ → List Bytes → Saved
saved_in number [] = nothing_but ends.Done
saved_in number (line ∷ lines) = behind_line number (said_by number line) (saved_in (number + 1) lines)
