-- What a line is, by its number and what it says, and how a script ends at one.
use Rattle.std.proofs.Common.{◌≡◌, ℕ, ◌+◌, ◌<◌, ◌≤◌, Bool, true, false, List, [], ◌∷◌, inl, inr, refl, ap, ◌∙◌, arith, length, Option}
use Rattle.std.proofs.Common.{nat_lt, codes}
use Rattle.std.specs.Prelude.{if◌then◌else◌}
use Rattle.std.specs.Fmt.{decimal}
use Rattle.std.proofs.lemmas.Bool.{cases_lt, le-ltb, lt-ltb}
use Rattle.pec_types.specs.Bytes.{Bytes}
use Rattle.pec_directory.specs.Directory.{Provider}
use Rattle.pec_input.specs.Directory.{Refusal}
use Rattle.pec_input.specs.Faults.{refused_directory_text}
use Rattle.pec_input.specs.Lines.{content_of}
use Rattle.pec_script.specs.LinesReading.{command_of}
use Rattle.pec_script.specs.Texts.{line_of, name_of, refused_text, text_of, unfit_words}
use Rattle.pec_script.specs.declared.answers.Unfit.{Unfit}
use Rattle.pec_script.specs.declared.faults.LineFault.{LineFault}
use Rattle.pec_runs.specs.Endings.{End, end_text}
use Rattle.pec_runs.specs.Endings as ends
use Rattle.pec_runs.specs.ScriptLines.{Line, PassedOver, TooLong, TooMany, Script, behind_line, is_passed_over}
use Rattle.pec_screen.specs.Verdicts.{Patterns}
use Rattle.pec_runs.specs.ScriptLines.{line_by, longest_line, most_lines, nothing_but, said_by, script_of}
use Rattle.pec_runs.specs.Statuses.{status_of}
use Rattle.pec_top.specs.Shown.{end_shown}
use Rattle.pec_top.specs.Saying.{EndsAt, end_past}
use Rattle.pec_top.specs.declared.ending.End.{End as Last}
use Rattle.pec_top.specs.declared.ending.End.TheVariants as lasts

-- ---- lines

module _ (spare : Option Patterns) (providers : List Provider) (number : ℕ) (line : Bytes) where
  abbrev short_line : Line
  short_line =
      if is_passed_over (content_of line) then PassedOver else line_by spare (command_of providers (content_of line))

  abbrev numbered_line : Line
  numbered_line = if nat_lt longest_line (length (content_of line)) then TooLong else short_line

  pub said_many : most_lines < number → said_by spare providers number line ≡ TooMany
  unfolding said_by
  said_many many = ap (λ (t : Bool). if t then TooMany else numbered_line) (lt-ltb most_lines number many)

  said_few : number ≤ most_lines → said_by spare providers number line ≡ numbered_line
  unfolding said_by
  said_few few = ap (λ (t : Bool). if t then TooMany else numbered_line) (le-ltb most_lines number few)

  pub said_long : number ≤ most_lines → longest_line < length (content_of line)
      → said_by spare providers number line ≡ TooLong
  said_long few long =
      said_few few ∙ ap (λ (t : Bool). if t then TooLong else short_line)
      (lt-ltb longest_line (length (content_of line)) long)

  said_short : number ≤ most_lines → length (content_of line) ≤ longest_line
      → said_by spare providers number line ≡ short_line
  said_short few short =
      said_few few ∙ ap (λ (t : Bool). if t then TooLong else short_line)
      (le-ltb longest_line (length (content_of line)) short)

  pub said_over : number ≤ most_lines → length (content_of line) ≤ longest_line
      → is_passed_over (content_of line) ≡ true → said_by spare providers number line ≡ PassedOver
  said_over few short over =
      said_short few short
      ∙ ap (λ (t : Bool). if t then PassedOver else line_by spare (command_of providers (content_of line))) over

  pub said_command : (said : Bytes) → content_of line ≡ said → number ≤ most_lines → length said ≤ longest_line
      → is_passed_over said ≡ false → said_by spare providers number line ≡ line_by spare (command_of providers said)
  said_command said is few short some =
      said_short few (let size = ap (λ (b : Bytes). length b) is in omega (arith, size, short))
      ∙ (ap (λ (t : Bool). if t then PassedOver else line_by spare (command_of providers (content_of line)))
      (ap is_passed_over is ∙ some) ∙ ap (λ (b : Bytes). line_by spare (command_of providers b)) is)

-- a script that ends at a line
pub ends_so : (providers : List Provider) (number : ℕ) (line : Bytes) (lines : List Bytes) (text : Bytes)
    (last : Last) (end : End) (what : Line)
    → ((spare : Option Patterns) → said_by spare providers number line ≡ what)
    → ((script : Script) → behind_line number what script ≡ nothing_but end)
    → text ≡ end_text providers end → end_shown last ≡ status_of end
    → EndsAt providers number (line ∷ lines) text last
ends_so providers number line lines text last end what said ends text_is shown = record {
  end = end;
  script = λ hands.
      ap (λ (w : Line). behind_line number w (script_of hands providers (number + 1) lines)) (said (hands number))
      ∙ ends (script_of hands providers (number + 1) lines);
  text_is = text_is;
  shown = shown;
}

-- it ends at a line past a limit
pub past_ends : (providers : List Provider) (number : ℕ) (line : Bytes) (lines : List Bytes) (text : Bytes)
    → (number ≤ most_lines → longest_line < length (content_of line)) → text ≡ end_text providers (end_past number)
    → EndsAt providers number (line ∷ lines) text lasts.TooLong
past_ends providers number line lines text long is = elim (cases_lt most_lines number) [
  | inl many ↦
      ends_so providers number line lines text lasts.TooLong ends.LongScript TooMany
      (λ spare. said_many spare providers number line many) (λ script. refl)
      (is ∙ ap (λ (past : Bool). end_text providers (if past then ends.LongScript else ends.LongLine number))
      (lt-ltb most_lines number many)) refl
  | inr few ↦
      ends_so providers number line lines text lasts.TooLong (ends.LongLine number) TooLong
      (λ spare. said_long spare providers number line few (long few)) (λ script. refl)
      (is ∙ ap (λ (past : Bool). end_text providers (if past then ends.LongScript else ends.LongLine number))
      (le-ltb most_lines number few)) refl
]

-- ---- last lines

-- a run that is done writes none
pub done_text : (providers : List Provider) → end_text providers ends.Done ≡ []
unfolding end_text
done_text providers = refl

pub usage_text : (providers : List Provider) → end_text providers ends.Usage ≡ codes "usage\n"
unfolding end_text line_of
usage_text providers = refl

pub long_directory_text : (providers : List Provider)
    → end_text providers ends.LongDirectory ≡ codes "too-long directory\n"
unfolding end_text line_of
long_directory_text providers = refl

pub no_script_text : (providers : List Provider) → end_text providers ends.NoScript ≡ codes "refused no-script\n"
unfolding end_text line_of
no_script_text providers = refl

pub long_script_text : (providers : List Provider) → end_text providers ends.LongScript ≡ codes "too-long script\n"
unfolding end_text line_of
long_script_text providers = refl

pub refused_line_text : (providers : List Provider) (number : ℕ) (fault : LineFault)
    → end_text providers (ends.LineRefused number fault) ≡ refused_text number fault
unfolding end_text refused_text
refused_line_text providers number fault = refl

pub refused_directory : (providers : List Provider) (fault : Refusal)
    → end_text providers (ends.DirectoryRefused fault) ≡ refused_directory_text fault
unfolding end_text refused_directory_text
refused_directory providers fault = refl

pub long_line_so : (providers : List Provider) (number : ℕ)
    → end_text providers (ends.LongLine number)
    ≡ text_of ((codes "too-long" ∷ codes "line" ∷ decimal number ∷ []) ∷ [])
unfolding end_text
long_line_so providers number = refl

pub not_empty_so : (providers : List Provider) (provider : ℕ)
    → end_text providers (ends.NotEmpty provider)
    ≡ text_of ((codes "not-empty" ∷ name_of providers provider ∷ []) ∷ [])
unfolding end_text
not_empty_so providers provider = refl

pub not_fit_so : (providers : List Provider) (provider : ℕ) (unfit : Unfit)
    → end_text providers (ends.NotFit provider unfit)
    ≡ text_of ((codes "not-fit" ∷ name_of providers provider ∷ unfit_words unfit) ∷ [])
unfolding end_text
not_fit_so providers provider unfit = refl
