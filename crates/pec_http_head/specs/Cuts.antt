-- Where the head of a request ends: `cut_of`, at the end. A line ends with LF or CRLF, and is empty where nothing else
-- stands in it. The head ends with the first empty line behind one that isn't empty (RFC 9112, section 2.1 and 2.2). It
-- may have 65,536 bytes, and 64 lines between its first line that isn't empty and its end. This project's profile.
use Rattle.std.specs.Prelude.{◌≡◌, ◌≤◌, ⊤, ℕ, ◌+◌, ◌==◌, nat_lt, [], ◌∷◌, Option, Some, None, if◌then◌else◌}
use Rattle.pec_types.specs.Bytes.{Bytes, carriage_return, line_feed}
use Rattle.pec_http_head.specs.declared.stands.Stand.{Stand}
use Rattle.pec_http_head.specs.declared.stands.Stand.TheVariants.{Blank, BlankReturn, InLine, Begins, BeginsReturn}
use Rattle.pec_http_head.specs.declared.stands.TheConstants.{HEAD_BYTES, HEAD_LINES}
use Rattle.pec_http_head.specs.declared.cuts.Cut.{Cut}
use Rattle.pec_http_head.specs.declared.cuts.Cut.TheVariants as found

-- What the bytes that came say of the head: its end, in bytes from the first; that it is too large, whatever comes; or
-- that they end before the head does.
pub data WholeCut : Type 0 where
  Ends : ℕ → WholeCut
  TooLarge : WholeCut
  Short : WholeCut

-- Where a reader stands behind a byte. None: the byte ends the head.
abbrev pub step_of : Stand → ℕ → Option Stand
step_of Blank b = if b == line_feed then Some Blank else (if b == carriage_return then Some BlankReturn else Some InLine)
step_of BlankReturn b = if b == line_feed then Some Blank else Some InLine
step_of InLine b = if b == line_feed then Some Begins else Some InLine
step_of Begins b = if b == line_feed then None else (if b == carriage_return then Some BeginsReturn else Some InLine)
step_of BeginsReturn b = if b == line_feed then None else Some InLine

-- The lines that aren't empty and ended, with those that this byte ends.
abbrev pub lines_with : Stand → ℕ → ℕ → ℕ
lines_with InLine lines b = if b == line_feed then lines + 1 else lines
lines_with _ lines b = lines

-- With so many lines in so many bytes the head ends, is too large, or goes on.
abbrev pub cut_behind : Option Stand → ℕ → ℕ → (Stand → WholeCut) → WholeCut
cut_behind None lines at goes_on = if nat_lt (HEAD_LINES + 1) lines then TooLarge else Ends at
cut_behind (Some stand) lines at goes_on = if nat_lt at HEAD_BYTES then goes_on stand else TooLarge

-- The cut of what follows, for a reader who stands so, behind so many lines that aren't empty and so many bytes.
abbrev pub cut_from : Stand → ℕ → ℕ → Bytes → WholeCut
cut_from stand lines at [] = Short
cut_from stand lines at (b ∷ bs) =
    cut_behind (step_of stand b) (lines_with stand lines b) (at + 1) (λ next. cut_from next (lines_with stand lines b) (at + 1) bs)

-- The cut of all that came.
abbrev pub cut_of : Bytes → WholeCut
cut_of text = cut_from Blank 0 0 text

-- The cut of what was found so far, with more behind it.
abbrev pub cut_after : Cut → Bytes → WholeCut
cut_after (found.Ends at) more = Ends at
cut_after found.TooLarge more = TooLarge
cut_after (found.GoesOn scan) more = cut_from scan.stand scan.lines scan.at more

-- What was found, where so many bytes were looked at: the head ends within them, or goes on behind them.
abbrev pub Reaches : Cut → ℕ → Type 0
Reaches (found.Ends at) bytes = at ≤ bytes
Reaches found.TooLarge bytes = ⊤
Reaches (found.GoesOn scan) bytes = scan.at ≡ bytes
