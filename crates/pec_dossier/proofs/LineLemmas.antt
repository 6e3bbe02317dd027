-- What a line is, by its number and what it says, and how a dossier ends at one.
use Rattle.std.proofs.Common.{◌≡◌, ◌≢◌, ℕ, ◌+◌, ◌<◌, ◌≤◌, Bool, true, false, List, [], ◌∷◌, inl, inr, refl, ap, sym, ◌∙◌, arith, length}
use Rattle.std.proofs.Common.{nat_lt, codes, Option}
use Rattle.std.specs.Prelude.{if◌then◌else◌}
use Rattle.std.specs.Fmt.{decimal}
use Rattle.std.proofs.lemmas.Bool.{cases_lt, le-ltb, lt-ltb}
use Rattle.pec_types.specs.Bytes.{Bytes}
use Rattle.pec_directory.specs.Directory.{Provider}
use Rattle.pec_input.specs.Lines.{content_of}
use Rattle.pec_script.specs.LinesReading.{message_of}
use Rattle.pec_script.specs.Texts.{line_of, refused_text, text_of}
use Rattle.pec_script.specs.declared.faults.LineFault.{LineFault}
use Rattle.pec_script.specs.declared.faults.LineFault.TheVariants.{BadBase64}
use Rattle.pec_runs.specs.Endings.{End, end_text}
use Rattle.pec_runs.specs.Endings as ends
use Rattle.pec_runs.specs.ScriptLines.{is_passed_over, longest_line, most_lines}
use Rattle.pec_runs.specs.Statuses.{status_of}
use Rattle.pec_dossier.specs.Checks.{last_text}
use Rattle.pec_dossier.specs.Lines.{Line, PassedOver, Saved, SavesNone, TooLong, TooMany, behind_line, line_by, nothing_but, said_by, saved_in}
use Rattle.pec_dossier.specs.Reading.{EndsAt, end_past, last_shown}
use Rattle.pec_dossier.specs.declared.ending.Last.{Last}
use Rattle.pec_dossier.specs.declared.ending.Last.TheVariants as lasts

-- ---- lines

module _ (number : ℕ) (line : Bytes) where
  abbrev short_line : Line
  short_line = if is_passed_over (content_of line) then PassedOver else line_by (message_of (content_of line))

  abbrev numbered_line : Line
  numbered_line = if nat_lt longest_line (length (content_of line)) then TooLong else short_line

  pub said_many : most_lines < number → said_by number line ≡ TooMany
  unfolding said_by
  said_many many = ap (λ (t : Bool). if t then TooMany else numbered_line) (lt-ltb most_lines number many)

  said_few : number ≤ most_lines → said_by number line ≡ numbered_line
  unfolding said_by
  said_few few = ap (λ (t : Bool). if t then TooMany else numbered_line) (le-ltb most_lines number few)

  pub said_long : number ≤ most_lines → longest_line < length (content_of line) → said_by number line ≡ TooLong
  said_long few long =
      said_few few ∙ ap (λ (t : Bool). if t then TooLong else short_line)
      (lt-ltb longest_line (length (content_of line)) long)

  said_short : number ≤ most_lines → length (content_of line) ≤ longest_line → said_by number line ≡ short_line
  said_short few short =
      said_few few ∙ ap (λ (t : Bool). if t then TooLong else short_line)
      (le-ltb longest_line (length (content_of line)) short)

  module _ (said : Bytes) (is : content_of line ≡ said) (few : number ≤ most_lines)
      (short : length said ≤ longest_line) where
    short_here : length (content_of line) ≤ longest_line
    short_here = let size = ap (λ (b : Bytes). length b) is in omega (arith, size, short)

    pub said_over : is_passed_over said ≡ true → said_by number line ≡ PassedOver
    said_over over =
        said_short few short_here
        ∙ ap (λ (t : Bool). if t then PassedOver else line_by (message_of (content_of line)))
        (ap is_passed_over is ∙ over)

    pub said_some : (found : Option Bytes) → is_passed_over said ≡ false → found ≡ message_of said
        → said_by number line ≡ line_by found
    said_some found some e =
        said_short few short_here
        ∙ (ap (λ (t : Bool). if t then PassedOver else line_by (message_of (content_of line)))
        (ap is_passed_over is ∙ some) ∙ ap line_by (ap message_of is ∙ sym e))

-- lines that end at the first of them
pub ends_so : (number : ℕ) (line : Bytes) (lines : List Bytes) (text : Bytes) (last : Last) (end : End) (what : Line)
    → end ≢ ends.Done → said_by number line ≡ what
    → ((saved : Saved) → behind_line number what saved ≡ nothing_but end)
    → ((providers : List Provider) → text ≡ end_text providers end) → last_shown last ≡ status_of end
    → EndsAt number (line ∷ lines) text last
ends_so number line lines text last end what early said ends text_is shown = record {
  end = end;
  early = early;
  saved = ap (λ (w : Line). behind_line number w (saved_in (number + 1) lines)) said ∙ ends (saved_in (number + 1) lines);
  text_is = text_is;
  shown = shown;
}

-- the last lines are the same in every directory
many_text : (providers : List Provider) → end_text [] ends.LongScript ≡ end_text providers ends.LongScript
unfolding end_text
many_text providers = refl

long_text : (number : ℕ) (providers : List Provider)
    → end_text [] (ends.LongLine number) ≡ end_text providers (ends.LongLine number)
unfolding end_text
long_text number providers = refl

-- they end at a line past a limit
pub past_ends : (number : ℕ) (line : Bytes) (lines : List Bytes) (text : Bytes)
    → (number ≤ most_lines → longest_line < length (content_of line)) → text ≡ end_text [] (end_past number)
    → EndsAt number (line ∷ lines) text lasts.TooLong
past_ends number line lines text long is = elim (cases_lt most_lines number) [
  | inl many ↦
      ends_so number line lines text lasts.TooLong ends.LongScript TooMany (λ e. absurd cc)
      (said_many number line many) (λ saved. refl)
      (λ providers. is ∙ (ap (λ (past : Bool). end_text [] (if past then ends.LongScript else ends.LongLine number))
      (lt-ltb most_lines number many) ∙ many_text providers)) refl
  | inr few ↦
      ends_so number line lines text lasts.TooLong (ends.LongLine number) TooLong (λ e. absurd cc)
      (said_long number line few (long few)) (λ saved. refl)
      (λ providers. is ∙ (ap (λ (past : Bool). end_text [] (if past then ends.LongScript else ends.LongLine number))
      (le-ltb most_lines number few) ∙ long_text number providers)) refl
]

-- and at one that isn't base64
refused_line : (number : ℕ) (fault : LineFault) (providers : List Provider)
    → refused_text number fault ≡ end_text providers (ends.LineRefused number fault)
unfolding end_text refused_text
refused_line number fault providers = refl

pub refused_ends : (number : ℕ) (line : Bytes) (lines : List Bytes) (text : Bytes) → said_by number line ≡ SavesNone
    → text ≡ refused_text number (BadBase64 1) → EndsAt number (line ∷ lines) text lasts.Refused
refused_ends number line lines text said is =
    ends_so number line lines text lasts.Refused (ends.LineRefused number (BadBase64 1)) SavesNone (λ e. absurd cc) said
    (λ saved. refl) (λ providers. is ∙ refused_line number (BadBase64 1) providers) refl

-- ---- last lines

pub long_script_text : end_text [] ends.LongScript ≡ codes "too-long script\n"
unfolding end_text line_of
long_script_text = refl

pub long_line_so : (number : ℕ)
    → end_text [] (ends.LongLine number) ≡ text_of ((codes "too-long" ∷ codes "line" ∷ decimal number ∷ []) ∷ [])
unfolding end_text
long_line_so number = refl

-- behind lines that aren't read to their end nothing but the last line is written
pub last_early : (providers : List Provider) (messages : List Bytes) (end : End) → end ≢ ends.Done
    → last_text providers messages end ≡ end_text providers end
last_early providers messages ends.Done early = absurd (early refl)
last_early providers messages ends.Usage early = refl
last_early providers messages ends.LongDirectory early = refl
last_early providers messages ends.NoScript early = refl
last_early providers messages (ends.DirectoryRefused why) early = refl
last_early providers messages (ends.NotEmpty provider) early = refl
last_early providers messages (ends.NotFit provider unfit) early = refl
last_early providers messages (ends.LongLine number) early = refl
last_early providers messages ends.LongScript early = refl
last_early providers messages (ends.LineRefused number fault) early = refl
