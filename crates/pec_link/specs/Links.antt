-- What may happen to the frames on a link, as lists, oldest first: one is lost, two that follow each other change places, one comes
-- once more (this project's profile; it stands for what may befall the messages between two mail servers).
use Rattle.std.specs.Prelude.{ℕ, ◌+◌, List, ◌++◌, slice_get}
use Rattle.std.specs.List.{remove, swap}
use Rattle.std.specs.Option.{option_to_list}
use Rattle.pec_types.specs.Bytes.{Bytes}

-- the frames without the one at a place
abbrev pub without : ℕ → List Bytes → List Bytes
without place frames = remove frames place

-- the frames, that at a place exchanged with the next
abbrev pub swapped : ℕ → List Bytes → List Bytes
swapped place frames = swap frames place (place + 1)

-- the frames, and behind them the one at a place once more
abbrev pub repeated : ℕ → List Bytes → List Bytes
repeated place frames = frames ++ option_to_list (slice_get frames place)
