-- What is left of a path behind its first entry.
use Rattle.std.specs.Prelude.{ℕ, ◌+◌, List, [], ◌∷◌, Bool, true, false, Option, None, Some, length}
use Rattle.std.specs.List.{slice_split}
use Rattle.pec_types.specs.Bytes.{Bytes, comma}
use Rattle.pec_frames.specs.FramesReading.{is_comma}

-- the entries that are left
abbrev pub entries_behind : Option Bytes → List Bytes
entries_behind None = []
entries_behind (Some rest) = slice_split is_comma rest

-- how many bytes an entry and what is behind it take
abbrev pub size_behind : ℕ → Option Bytes → ℕ
size_behind entry None = entry
size_behind entry (Some rest) = entry + 1 + length rest

-- what stands behind an address of a path: a comma, where another follows
abbrev pub behind_address : Bool → Bytes
behind_address true = []
behind_address false = comma ∷ []

-- how many bytes are left, one more for the comma or the end behind them
abbrev pub size_left : Option Bytes → ℕ
size_left None = 0
size_left (Some rest) = length rest + 1
