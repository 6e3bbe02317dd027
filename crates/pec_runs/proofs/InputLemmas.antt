-- What a line of a script is.
use Rattle.std.proofs.Common.{◌≡◌, ℕ, ◌<◌, ◌≤◌, List, Bool, true, false, ap, ◌∙◌, nat_lt, Option, Result}
use Rattle.std.specs.Prelude.{length, if◌then◌else◌}
use Rattle.std.proofs.lemmas.Bool.{le-ltb, lt-ltb}
use Rattle.pec_types.specs.Bytes.{Bytes}
use Rattle.pec_directory.specs.Directory.{Provider}
use Rattle.pec_script.specs.Lines.{IsCommand, IsLineFault}
use Rattle.pec_script.specs.LinesReading.{command_of}
use Rattle.pec_script.specs.declared.commands.Command.{Command as Written}
use Rattle.pec_script.specs.declared.faults.LineFault.{LineFault}
use Rattle.pec_input.specs.Lines.{content_of}
use Rattle.pec_runs.specs.ScriptLines.{Line, PassedOver, Says, SaysNone, TooLong, TooMany, command_in, is_passed_over, line_by, longest_line, most_lines, said_by}
use Rattle.pec_screen.specs.Verdicts.{Patterns}
use Rattle.pec_runs.proofs.LineLemmas.{ReadsSo}

module _ (reads : ReadsSo) (spare : Option Patterns) (providers : List Provider) (number : ℕ) (line : Bytes) where
  abbrev content : Bytes
  content = content_of line

  abbrev said_so : Bool → Bool → Bool → Result Written LineFault → Line
  said_so many long over told =
      if many then TooMany else (if long then TooLong else (if over then PassedOver else line_by spare told))

  pub too_many : most_lines < number → said_by spare providers number line ≡ TooMany
  unfolding said_by
  too_many many =
      ap (λ (b : Bool). said_so b (nat_lt longest_line (length content)) (is_passed_over content)
      (command_of providers content))
      (lt-ltb most_lines number many)

  pub too_long : number ≤ most_lines → longest_line < length content → said_by spare providers number line ≡ TooLong
  unfolding said_by
  too_long few long =
      ap (λ (b : Bool). said_so b (nat_lt longest_line (length content)) (is_passed_over content)
      (command_of providers content))
      (le-ltb most_lines number few)
      ∙ ap (λ (b : Bool). said_so false b (is_passed_over content) (command_of providers content))
      (lt-ltb longest_line (length content) long)

  within : number ≤ most_lines → length content ≤ longest_line
      → said_by spare providers number line ≡ said_so false false (is_passed_over content) (command_of providers content)
  unfolding said_by
  within few short =
      ap (λ (b : Bool). said_so b (nat_lt longest_line (length content)) (is_passed_over content)
      (command_of providers content))
      (le-ltb most_lines number few)
      ∙ ap (λ (b : Bool). said_so false b (is_passed_over content) (command_of providers content))
      (le-ltb longest_line (length content) short)

  pub passed_over : number ≤ most_lines → length content ≤ longest_line → is_passed_over content ≡ true
      → said_by spare providers number line ≡ PassedOver
  passed_over few short over =
      within few short ∙ ap (λ (b : Bool). said_so false false b (command_of providers content)) over

  pub says : (written : Written) → number ≤ most_lines → length content ≤ longest_line → is_passed_over content ≡ false
      → IsCommand providers content written → said_by spare providers number line ≡ Says (command_in spare written)
  says written few short over is =
      within few short
      ∙ (ap (λ (b : Bool). said_so false false b (command_of providers content)) over
      ∙ ap (λ (told : Result Written LineFault). said_so false false false told)
      (((reads providers content).value written).1 is))

  pub says_none : (fault : LineFault) → number ≤ most_lines → length content ≤ longest_line
      → is_passed_over content ≡ false
      → IsLineFault providers content fault → said_by spare providers number line ≡ SaysNone fault
  says_none fault few short over is =
      within few short
      ∙ (ap (λ (b : Bool). said_so false false b (command_of providers content)) over
      ∙ ap (λ (told : Result Written LineFault). said_so false false false told)
      (((reads providers content).fault fault).1 is))
