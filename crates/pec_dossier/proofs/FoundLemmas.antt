-- The line that was found is the first of those that were left.
use Rattle.std.proofs.Common.{◌≡◌, ℕ, ◌+◌, ◌<◌, ◌≤◌, List, [], ◌∷◌, length, Option, Some, None, refl, ap, sym}
use Rattle.std.proofs.Common.{◌∙◌, arith, replicate}
use Rattle.std.specs.Prelude.{IfSome, option_map}
use Rattle.std.proofs.lemmas.List.{length-replicate}
use Rattle.pec_types.specs.Bytes.{Bytes}
use Rattle.pec_input.specs.Finding.{IsAtEnd, IsLong, lines_left}
use Rattle.pec_input.specs.Lines.{content_of, raw_lines}
use Rattle.pec_dossier.specs.Checks.{AreLeft}

-- some lines are left
pub some_left : (unread : Option Bytes) → (lines : List Bytes) × AreLeft unread lines
some_left None = ([], tt)
some_left (Some text) = (raw_lines text, refl)

-- at the end of the input no line is
pub none_left : (unread : Option Bytes) → IsAtEnd unread → AreLeft unread []
none_left None over = tt
none_left (Some text) over = sym (ap raw_lines over)

-- what is left behind the first line
abbrev pub IsFirst : Option Bytes → Bytes → Option Bytes → Type 0
IsFirst before line behind = lines_left before ≡ option_map (λ (rest : Bytes). line ∷ raw_lines rest) behind

-- the lines that were left are the one that was read and those that are left
pub lines_on : (before : Option Bytes) (line : Bytes) (behind : Option Bytes) (lines : List Bytes)
    → IsFirst before line behind → AreLeft behind lines → AreLeft before (line ∷ lines)
lines_on None line behind lines first left = tt
lines_on (Some text) line None lines first left = cc
lines_on (Some text) line (Some rest) lines first left =
    let here : raw_lines text ≡ line ∷ raw_lines rest = cc
    in ap (λ (l : List Bytes). line ∷ l) left ∙ sym here

-- Where a line is too long it is the first of those that are left.
pub record LongThere (most : ℕ) (unread : Option Bytes) : Type 0 where
  pub line : Bytes
  pub lines : List Bytes
  pub long : most < length (content_of line)
  pub left : AreLeft unread (line ∷ lines)

pub long_there : ((line : Bytes) → (length (content_of line) ≤ length line)
    × (length line ≤ length (content_of line) + 2)) → (most : ℕ) (unread : Option Bytes)
    → IfSome (lines_left unread) (λ lines. IsLong most lines) → LongThere most unread
long_there sizes most None found =
    let zero : ℕ = 0
    in let line : Bytes = replicate (most + 3) zero
    in let size : length line ≡ most + 3 = length-replicate (most + 3) zero
    in let bounds = sizes line
    in record { line = line; lines = []; long = omega (arith, size, bounds.1); left = tt }
long_there sizes most (Some text) found = record {
  line = found.first;
  lines = found.more;
  long = found.long;
  left = sym found.are;
}
