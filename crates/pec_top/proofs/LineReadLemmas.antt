-- The line that was found is the first of those that were left.
use Rattle.std.proofs.Common.{◌≡◌, ℕ, ◌+◌, ◌<◌, ◌≤◌, List, [], ◌∷◌, length, Option, Some, None, refl, ap, sym}
use Rattle.std.proofs.Common.{◌∙◌, arith, replicate}
use Rattle.std.specs.Prelude.{IfSome, option_map}
use Rattle.std.proofs.lemmas.List.{length-replicate}
use Rattle.pec_types.specs.Bytes.{Bytes}
use Rattle.pec_input.specs.Finding.{IsLong, lines_left}
use Rattle.pec_input.specs.Lines.{content_of, raw_lines}
use Rattle.pec_runs.specs.Reading.{AreLinesLeft, IsLineRead, TellsOn}

-- some lines are left
pub lines_there : (unread : Option Bytes) → (lines : List Bytes) × AreLinesLeft unread lines
lines_there None = ([], tt)
lines_there (Some text) = (raw_lines text, refl)

module _ (before : Option Bytes) (line : Bytes) (behind : Option Bytes) where
  abbrev IsFirst : Option Bytes → Option Bytes → Type 0
  IsFirst before behind = lines_left before ≡ option_map (λ (rest : Bytes). line ∷ raw_lines rest) behind

  pub line_read : IsFirst before behind → IsLineRead before line behind
  line_read first = λ rest is. so before behind first rest is
    where
      so : (b c : Option Bytes) → IsFirst b c → (rest : Bytes) → c ≡ Some rest
          → IfSome b (λ text. raw_lines text ≡ line ∷ raw_lines rest)
      so None c first rest is = tt
      so (Some text) None first rest is = cc
      so (Some text) (Some other) first rest is =
          let same : other ≡ rest = cc
          in let here : raw_lines text ≡ line ∷ raw_lines other = cc
          in here ∙ ap (λ (r : Bytes). line ∷ raw_lines r) same

  pub tells_on : IsFirst before behind → TellsOn before behind
  tells_on first = λ text is. so before behind first text is
    where
      so : (b c : Option Bytes) → IsFirst b c → (text : Bytes) → b ≡ Some text → (rest : Bytes) × (c ≡ Some rest)
      so b (Some rest) first text is = (rest, refl)
      so None None first text is = cc
      so (Some other) None first text is = cc

  -- it stands before some lines
  pub line_there : IsFirst before behind → (lines : List Bytes) × AreLinesLeft before (line ∷ lines)
  line_there first = so before behind first
    where
      so : (b c : Option Bytes) → IsFirst b c → (lines : List Bytes) × AreLinesLeft b (line ∷ lines)
      so None c first = ([], tt)
      so (Some text) None first = cc
      so (Some text) (Some rest) first =
          let here : raw_lines text ≡ line ∷ raw_lines rest = cc
          in (raw_lines rest, sym here)

-- Where a line is too long it is the first of those that are left.
pub record LongThere (most : ℕ) (unread : Option Bytes) : Type 0 where
  pub line : Bytes
  pub lines : List Bytes
  pub long : most < length (content_of line)
  pub left : AreLinesLeft unread (line ∷ lines)

pub long_there : ((line : Bytes) → (length (content_of line) ≤ length line)
    × (length line ≤ length (content_of line) + 2)) → (most : ℕ) (unread : Option Bytes)
    → IfSome (lines_left unread) (λ lines. IsLong most lines) → LongThere most unread
long_there sizes most None found =
    let zero : ℕ = 0
    in let line : Bytes = replicate (most + 3) zero
    in let size : length line ≡ most + 3 = length-replicate (most + 3) zero
    in let bounds = sizes line
    in record { line = line; lines = []; long = omega (arith, size, bounds.1); left = tt }
long_there sizes most (Some text) found = record {
  line = found.first;
  lines = found.more;
  long = found.long;
  left = sym found.are;
}
