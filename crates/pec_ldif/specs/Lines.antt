-- The lines of a text of LDIF (RFC 2849): `lines_of`, at the end. A line ends with a line feed, before which a carriage
-- return may stand, and the last piece is a line where it isn't empty. A line that begins with a space goes on with the
-- line before it, where that isn't empty; comments are passed over. This project's profile.
use Rattle.std.specs.Prelude.{ℕ, ◌+◌, ◌-◌, Bool, true, false, not, ◌&&◌, ◌==◌, List, [], ◌∷◌, ◌++◌, length, take, drop, slice_index, if◌then◌else◌}
use Rattle.std.specs.List.{filter, onto_first}
use Rattle.pec_types.specs.Bytes.{Bytes, carriage_return, line_feed, space}

-- A line: the place where it begins in the text, in bytes from 0, and what it says, with the lines that go on with it.
pub record Line : Type 0 where
  pub place : ℕ
  pub bytes : Bytes

-- the byte of comments
abbrev pub hash : ℕ
hash = 35

-- ---- a text is cut behind each line feed

-- the lines of a text, each with its end
abbrev pub raw_lines : Bytes → List Bytes
raw_lines [] = []
raw_lines (b ∷ bs) = if b == line_feed then (b ∷ []) ∷ raw_lines bs else onto_first b (raw_lines bs)

abbrev pub without_last : Bytes → Bytes
without_last bytes = take (length bytes - 1) bytes

-- the last byte is this one
abbrev pub ends_with : ℕ → Bytes → Bool
ends_with b [] = false
ends_with b (c ∷ cs) = slice_index (c ∷ cs) (length cs) == b

abbrev pub without_return : Bytes → Bytes
without_return bytes = if ends_with carriage_return bytes then without_last bytes else bytes

-- what a line says: its bytes without the line feed, and without a carriage return before that
unfoldable pub content_of : Bytes → Bytes
content_of line = if ends_with line_feed line then without_return (without_last line) else line

-- the lines by their places, of which this is the first
abbrev pub placed : ℕ → List Bytes → List Line
placed at [] = []
placed at (line ∷ lines) = record { place = at; bytes = content_of line } ∷ placed (at + length line) lines

-- ---- lines that go on

-- the first byte is this one
abbrev pub begins_with : ℕ → Bytes → Bool
begins_with b [] = false
begins_with b (c ∷ cs) = c == b

abbrev pub is_empty : Bytes → Bool
is_empty [] = true
is_empty (b ∷ bs) = false

-- the line goes on with the one before it
abbrev pub goes_on : Line → Bool
goes_on line = begins_with space line.bytes

-- a line, and the one that goes on with it, without that one's space
abbrev pub joined : Line → Line → Line
joined line more = record { place = line.place; bytes = line.bytes ++ drop 1 more.bytes }

-- a line before others: it takes in the next one where that goes on with it
abbrev pub in_front : Line → List Line → List Line
in_front line [] = line ∷ []
in_front line (next ∷ lines) =
    if not (is_empty line.bytes) && goes_on next then joined line next ∷ lines else line ∷ next ∷ lines

-- the lines, each with those that go on with it
abbrev pub unfolded : List Line → List Line
unfolded [] = []
unfolded (line ∷ lines) = in_front line (unfolded lines)

-- ---- all lines of a text

-- the line is no comment
abbrev pub is_said : Line → Bool
is_said line = not (begins_with hash line.bytes)

-- The lines of a text, but for comments.
unfoldable pub lines_of : Bytes → List Line
lines_of text = filter is_said (unfolded (placed 0 (raw_lines text)))
