-- Frames as the code reads them, from the front. `Frames` says what that means.
use Rattle.std.specs.Prelude.{ℕ, ◌+◌, ◌-◌, ◌==◌, ◌&&◌, nat_lt, List, [], ◌∷◌, ◌++◌, Bool, false, length, take, Option, None, Some, Result, Ok, Err, if◌then◌else◌}
use Rattle.std.specs.List.{slice_split}
use Rattle.std.specs.Option.{option_map}
use Rattle.pec_types.specs.AddressReading.{address_of}
use Rattle.pec_types.specs.Bytes.{Bytes, Path, after_front, carriage_return, comma, line_feed}
use Rattle.pec_types.specs.Results.{◌>>=◌}
use Rattle.pec_types.specs.declared.addresses.AddressFault.{AddressFault}
use Rattle.pec_frames.specs.Frames.{path_front}
use Rattle.pec_frames.specs.declared.TheConstants.{FRAME_LIMIT, MOST_ADDRESSES}
use Rattle.pec_frames.specs.declared.faults.FrameFault.{FrameFault}
use Rattle.pec_frames.specs.declared.faults.FrameFault.TheVariants.{TooLong, NoPath, BadPath}

abbrev pub is_comma : ℕ → Bool
is_comma b = b == comma

-- ---- the entries

-- the place of the first comma
abbrev pub comma_at : Bytes → Option ℕ
comma_at [] = None
comma_at (b ∷ bs) = if is_comma b then Some 0 else option_map (λ at. at + 1) (comma_at bs)

abbrev pub read_entry : ℕ → Result Bytes AddressFault → Result Bytes FrameFault
read_entry place (Ok address) = Ok address
read_entry place (Err fault) = Err (BadPath place)

-- the addresses of entries of which the first stands at a place, behind these
abbrev pub entries_from : ℕ → Path → List Bytes → Result Path FrameFault
entries_from place found [] = Ok found
entries_from place found (entry ∷ entries) =
    if length found == MOST_ADDRESSES then Err (BadPath place)
    else (read_entry place (address_of entry) >>= λ address. entries_from (place + (length entry + 1)) (found ++ address ∷ []) entries)

-- the addresses of a path that stands at a place
unfoldable pub path_of : ℕ → Bytes → Result Path FrameFault
path_of place line = entries_from place [] (slice_split is_comma line)

-- ---- the line

-- the place of the first line feed behind a carriage return, where the byte before these is one or isn't
abbrev pub feed_from : Bool → Bytes → Option ℕ
feed_from returned [] = None
feed_from returned (b ∷ bs) = if returned && b == line_feed then Some 0 else option_map (λ at. at + 1) (feed_from (b == carriage_return) bs)

abbrev pub path_at : Bytes → Option ℕ → Result (Path × ℕ) FrameFault
path_at rest None = Err NoPath
path_at rest (Some feed) = path_of (length path_front) (take (feed - 1) rest) >>= λ path. Ok (path, length path_front + feed + 1)

abbrev pub path_behind : Option Bytes → Result (Path × ℕ) FrameFault
path_behind None = Err NoPath
path_behind (Some rest) = path_at rest (feed_from false rest)

-- The path of a frame and the place of its message, or why the text is no frame.
unfoldable pub framed_of : Bytes → Result (Path × ℕ) FrameFault
framed_of text = if nat_lt FRAME_LIMIT (length text) then Err TooLong else path_behind (after_front path_front text)
