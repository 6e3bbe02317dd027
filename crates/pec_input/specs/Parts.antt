-- What stands before and behind the first line of an input that says `%%`: the directory and the script. `parts_of`
-- makes the parts of lines, and `AreParts` says the same of a text in its own words. This project's profile.
use Rattle.std.specs.Prelude.{◌≡◌, Bool, false, List, [], ◌∷◌, ◌++◌, codes, Option, Some, None, if◌then◌else◌}
use Rattle.std.specs.List.{concat, AllByRecursion}
use Rattle.std.specs.Str.{bytes_eq}
use Rattle.pec_types.specs.Bytes.{Bytes}
use Rattle.pec_input.specs.Lines.{content_of, raw_lines}

-- The directory, as it stands, and the lines of the script; no script where no line is the mark.
pub record Parts : Type 0 where
  pub directory : Bytes
  pub script : Option (List Bytes)

-- the line says exactly `%%`
abbrev pub is_mark : Bytes → Bool
is_mark line = bytes_eq (content_of line) (codes "%%")

abbrev pub onto_directory : Bytes → Parts → Parts
onto_directory front parts = record { directory = front ++ parts.directory; script = parts.script }

-- What stands before the first mark, and the lines behind it.
abbrev pub parts_of : List Bytes → Parts
parts_of [] = record { directory = []; script = None }
parts_of (line ∷ lines) =
    if is_mark line then record { directory = []; script = Some lines } else onto_directory line (parts_of lines)

-- no line is the mark
abbrev pub HasNoMark : List Bytes → Type 0
HasNoMark lines = AllByRecursion (λ line. is_mark line ≡ false) lines

-- Between the directory and the script stands the first line that says `%%`; where there is none, all is directory.
pub data AreParts (text : Bytes) (parts : Parts) : Type 0 where
  Unmarked : HasNoMark (raw_lines text) → parts.directory ≡ text → parts.script ≡ None → AreParts text parts
  Marked : (front : List Bytes) (mark : Bytes) (behind : List Bytes) → raw_lines text ≡ front ++ mark ∷ behind
      → HasNoMark front → content_of mark ≡ codes "%%" → parts.directory ≡ concat front → parts.script ≡ Some behind
      → AreParts text parts
