-- Which texts of directories are LDIF: those whose first line that isn't empty and is no comment is exactly `version: 1`.
-- Lines are looked at as they stand, before any goes on with another. This project's profile.
use Rattle.std.specs.Prelude.{Bool, false, ◌||◌, List, [], ◌∷◌, codes, Option, Some, None, if◌then◌else◌}
use Rattle.std.specs.Str.{bytes_eq}
use Rattle.pec_types.specs.Bytes.{Bytes}
use Rattle.pec_ldif.specs.Lines.{begins_with, content_of, hash, is_empty, raw_lines}

-- the line is empty, or a comment
abbrev pub is_passed : Bytes → Bool
is_passed said = is_empty said || begins_with hash said

-- what the first other line says
abbrev pub first_said : List Bytes → Option Bytes
first_said [] = None
first_said (line ∷ lines) = if is_passed (content_of line) then first_said lines else Some (content_of line)

-- there is such a line, and it is the version
abbrev pub says_version : Option Bytes → Bool
says_version None = false
says_version (Some said) = bytes_eq said (codes "version: 1")

-- The text is LDIF by its first line.
unfoldable pub is_ldif : Bytes → Bool
is_ldif text = says_version (first_said (raw_lines text))
