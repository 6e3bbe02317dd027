-- The lines of a text as the code reads them, from the front. `Lines` says what they are.
use Rattle.std.specs.Prelude.{ℕ, ◌+◌, Bool, false, not, ◌&&◌, ◌==◌, List, [], ◌∷◌, option_map, Option, Some, None, if◌then◌else◌}
use Rattle.std.specs.List.{filter}
use Rattle.pec_types.specs.Bytes.{Bytes, line_feed, space}
use Rattle.pec_ldif.specs.Lines.{Line, begins_with, content_of, is_empty, is_said, placed, raw_lines, unfolded}

-- the place of the first line feed
abbrev pub feed_at : Bytes → Option ℕ
feed_at [] = None
feed_at (b ∷ bs) = if b == line_feed then Some 0 else option_map (λ at. at + 1) (feed_at bs)

-- the first of these lines begins with a space
abbrev pub first_goes_on : List Bytes → Bool
first_goes_on [] = false
first_goes_on (line ∷ lines) = begins_with space (content_of line)

-- bytes of a line go on with the first line of a text
unfoldable pub takes_in : Bytes → Bytes → Bool
takes_in bytes text = not (is_empty bytes) && first_goes_on (raw_lines text)

-- the lines of a text that begins at this place
abbrev pub left_from : ℕ → Bytes → List Line
left_from at text = unfolded (placed at (raw_lines text))

-- without comments
abbrev pub kept : List Line → List Line
kept lines = filter is_said lines
