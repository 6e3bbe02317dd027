-- The lines of an input, each with its end, so that nothing is lost: a line ends with a line feed, and the last piece
-- is a line where it isn't empty. What a line says is without its end. This project's profile.
use Rattle.std.specs.Prelude.{◌≢◌, ℕ, ◌-◌, Bool, false, ◌==◌, List, [], ◌∷◌, length, take, slice_index, if◌then◌else◌}
use Rattle.std.specs.List.{onto_first, AllByRecursion}
use Rattle.pec_types.specs.Bytes.{Bytes, carriage_return, line_feed}

-- The lines of a text.
abbrev pub raw_lines : Bytes → List Bytes
raw_lines [] = []
raw_lines (b ∷ bs) = if b == line_feed then (b ∷ []) ∷ raw_lines bs else onto_first b (raw_lines bs)

-- no byte ends a line
abbrev pub HasNoEnd : Bytes → Type 0
HasNoEnd bytes = AllByRecursion (λ b. b ≢ line_feed) bytes

abbrev pub without_last : Bytes → Bytes
without_last bytes = take (length bytes - 1) bytes

-- the last byte is this one
abbrev pub ends_with : ℕ → Bytes → Bool
ends_with b [] = false
ends_with b (c ∷ cs) = slice_index (c ∷ cs) (length cs) == b

abbrev pub without_return : Bytes → Bytes
without_return bytes = if ends_with carriage_return bytes then without_last bytes else bytes

-- What a line says: its bytes without the line feed, and without a carriage return before that.
unfoldable pub content_of : Bytes → Bytes
content_of line = if ends_with line_feed line then without_return (without_last line) else line
