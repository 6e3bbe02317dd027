-- The search for the number of a boundary: which numbers the lines of parts take, each a place in a list of marks, and
-- how many places are enough. `MarksMore` says what is marked, `room_for` how many numbers the parts can take.
use Rattle.std.specs.Prelude.{◌≡◌, ℕ, ◌<◌, List, Bool, false, ◌||◌, if◌then◌else◌, length, drop, codes, slice_index_or}
use Rattle.std.specs.Char.{is_ascii_digit}
use Rattle.std.specs.List.{prefix_len, sum_by}
use Rattle.pec_types.specs.Bytes.{Bytes}
use Rattle.pec_bodies.specs.Composing.{all_lines, begins}
use Rattle.pec_bodies.specs.Marks.{dashed}

-- what stands before the number in a line that takes one
abbrev pub number_front : Bytes
number_front = dashed (codes "=_pec_")

-- how many digits a line has where its number stands: it takes one number with each of them at most
abbrev pub digits_of : Bytes → ℕ
digits_of line = if begins number_front line then prefix_len is_ascii_digit (drop (length number_front) line) else 0

-- how many numbers the lines of a part can take
abbrev pub room_in : Bytes → ℕ
room_in part = sum_by digits_of (all_lines part)

-- How many numbers the lines of the parts can take.
abbrev pub room_for : List Bytes → ℕ
room_for parts = sum_by room_in parts

-- whether a number is marked
abbrev pub is_marked : List Bool → ℕ → Bool
is_marked marks k = slice_index_or marks k false

-- Marked at the end is what was marked before, and each number that passes the test.
abbrev pub MarksMore : (ℕ → Bool) → List Bool → List Bool → Type 0
MarksMore test before end = (k : ℕ) → k < length before → is_marked end k ≡ (is_marked before k || test k)
