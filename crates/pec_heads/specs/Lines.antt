-- The lines of a text, as mail has them (RFC 5322, section 2.1; that LF alone ends a line too is this project's
-- profile). The headline is `IsLines`; `whole_lines` gives them, `content_of` what a line holds.
use Rattle.std.specs.Prelude.{◌≡◌, ℕ, ◌+◌, ◌-◌, ◌==◌, List, [], ◌∷◌, ◌++◌, Bool, if◌then◌else◌, length, take, drop, slice_index}
use Rattle.std.specs.List.{flat_map}
use Rattle.pec_types.specs.Bytes.{Bytes, line_feed, carriage_return}
use Rattle.pec_heads.specs.Bytes.{NonePass}

abbrev pub is_feed : ℕ → Bool
is_feed b = b == line_feed

-- no line feed stands in the bytes
abbrev pub HasNoFeed : Bytes → Type 0
HasNoFeed bytes = NonePass is_feed bytes

-- nor in any of the lines
abbrev pub AllHaveNoFeed : List Bytes → Type 0
AllHaveNoFeed [] = Unit {0}
AllHaveNoFeed (line ∷ lines) = HasNoFeed line × AllHaveNoFeed lines

-- a line with LF behind it
abbrev pub ended : Bytes → Bytes
ended line = line ++ line_feed ∷ []

-- a line with CRLF behind it, as lines are written
abbrev pub ended_line : Bytes → Bytes
ended_line line = line ++ carriage_return ∷ line_feed ∷ []

-- The text is these lines, each ended by a line feed, and then a last piece without one, which is no line.
pub record IsLines (text : Bytes) (lines : List Bytes) : Type 0 where
  pub last : Bytes
  pub text_is : text ≡ flat_map ended lines ++ last
  pub lines_have_none : AllHaveNoFeed lines
  pub last_has_none : HasNoFeed last

-- b before the first line; where no line is left it stands in the last piece
abbrev pub onto_line : ℕ → List Bytes → List Bytes
onto_line b [] = []
onto_line b (line ∷ lines) = (b ∷ line) ∷ lines

-- The lines of a text, each without its line feed. `IsLines` is what they are.
abbrev pub whole_lines : Bytes → List Bytes
whole_lines [] = []
whole_lines (b ∷ bs) = if is_feed b then [] ∷ whole_lines bs else onto_line b (whole_lines bs)

-- a line without a carriage return at its end
unfoldable pub content_of : Bytes → Bytes
content_of line = if slice_index line (length line - 1) == carriage_return then take (length line - 1) line else line

-- how many bytes the lines take, each with its line feed
abbrev pub size : List Bytes → ℕ
size [] = 0
size (line ∷ lines) = length line + 1 + size lines

-- what stands behind the last line feed
unfoldable pub last_piece : Bytes → Bytes
last_piece text = drop (size (whole_lines text)) text
