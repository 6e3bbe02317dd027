-- The next line of an input, which is read piece by piece: `IsFound` says what is found, from what was left to read
-- before and after. None stands for an input that doesn't tell what is left. This project's profile.
use Rattle.std.specs.Prelude.{◌≡◌, ℕ, ◌<◌, ◌≤◌, ◌⊎◌, ◌==◌, nat_lt, List, [], ◌∷◌, ◌++◌, length, Option, IfSome, option_map, if◌then◌else◌}
use Rattle.pec_types.specs.Bytes.{Bytes, line_feed}
use Rattle.pec_input.specs.Lines.{HasNoEnd, content_of, raw_lines}
use Rattle.pec_input.specs.declared.buffers.Found.{Found}
use Rattle.pec_input.specs.declared.buffers.Found.TheVariants.{End, Line, Long}

-- nothing is left to read
abbrev pub IsAtEnd : Option Bytes → Type 0
IsAtEnd left = IfSome left (λ bytes. bytes ≡ [])

-- the lines that are left to read
abbrev pub lines_left : Option Bytes → Option (List Bytes)
lines_left left = option_map raw_lines left

-- bytes with one line feed, at their end
pub record IsEnded (line : Bytes) : Type 0 where
  pub said : Bytes
  pub none : HasNoEnd said
  pub parts : line ≡ said ++ line_feed ∷ []

-- a line, where this is left behind it: it has its end, or it is the last
abbrev pub IsLine : Bytes → Option Bytes → Type 0
IsLine line after = (0 < length line) × (IsEnded line ⊎ (HasNoEnd line × IsAtEnd after))

-- the first of the lines says more than so many bytes
pub record IsLong (most : ℕ) (lines : List Bytes) : Type 0 where
  pub first : Bytes
  pub more : List Bytes
  pub are : lines ≡ first ∷ more
  pub long : most < length (content_of first)

-- What is found: that nothing is left; the next line, which says no more than so many bytes; or that it says more.
abbrev pub IsFound : ℕ → Found → Bytes → Option Bytes → Option Bytes → Type 0
IsFound most End line before after = (line ≡ []) × IsAtEnd before × IsAtEnd after
IsFound most Line line before after = (length (content_of line) ≤ most) × IsLine line after
    × (lines_left before ≡ option_map (λ rest. line ∷ raw_lines rest) after)
IsFound most Long line before after = IfSome (lines_left before) (λ lines. IsLong most lines)

-- what these bytes are, taken up to an end
unfoldable pub found_in : ℕ → Bytes → Found
found_in most line = if length line == 0 then End else (if nat_lt most (length (content_of line)) then Long else Line)
