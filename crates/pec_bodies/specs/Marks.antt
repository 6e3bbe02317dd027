-- Delimiters and closing delimiters (RFC 2046, section 5.1.1): `IsDelimiter` and `IsClosing`, and `mark_of`, which
-- tells them.
use Rattle.std.specs.Prelude.{◌≡◌, ◌∷◌, ◌++◌, if◌then◌else◌, Option, Some, None, codes}
use Rattle.std.specs.List.{list_all}
use Rattle.pec_types.specs.Bytes.{Bytes, after_front, hyphen}
use Rattle.pec_heads.specs.Bytes.{is_blank, AreBlanks}
use Rattle.pec_types.specs.Options.{◌>>=◌}
use Rattle.pec_bodies.specs.declared.marks.Mark.{Mark}
use Rattle.pec_bodies.specs.declared.marks.Mark.TheVariants.{Delimiter, Closing, Text}

-- two dashes and the boundary
abbrev pub dashed : Bytes → Bytes
dashed boundary = hyphen ∷ hyphen ∷ boundary

-- A delimiter: two dashes, the boundary, and blanks only.
pub record IsDelimiter (boundary line : Bytes) : Type 0 where
  pub blanks : Bytes
  pub parts : line ≡ dashed boundary ++ blanks
  pub are_blanks : AreBlanks blanks

-- A closing delimiter: two dashes, the boundary, two dashes, and blanks only.
pub record IsClosing (boundary line : Bytes) : Type 0 where
  pub blanks : Bytes
  pub parts : line ≡ dashed boundary ++ hyphen ∷ hyphen ∷ blanks
  pub are_blanks : AreBlanks blanks

-- what stands behind two dashes and the boundary
unfoldable pub behind_dashed : Bytes → Bytes → Option (Bytes)
behind_dashed boundary line = after_front (codes "--") line >>= after_front boundary

-- what a line is by what stands behind its second two dashes
abbrev pub closing_mark : Option (Bytes) → Mark
closing_mark None = Text
closing_mark (Some rest) = if list_all is_blank rest then Closing else Text

-- what a line is by what stands behind the boundary
unfoldable pub mark_behind : Bytes → Mark
mark_behind rest = if list_all is_blank rest then Delimiter else closing_mark (after_front (codes "--") rest)

-- the same where the line may not begin so
abbrev pub mark_at : Option (Bytes) → Mark
mark_at None = Text
mark_at (Some rest) = mark_behind rest

-- what a line, given without its line end, is to a boundary
unfoldable pub mark_of : Bytes → Bytes → Mark
mark_of boundary line = mark_at (behind_dashed boundary line)
