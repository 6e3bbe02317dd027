-- The journal file, of this project's profile: the header, then for each entry an open gate, its length and its bytes, then
-- a closed gate. What follows is free. The headlines are `IsFile`, and `IsBroken` for bytes that are no such file.
use Rattle.std.specs.Prelude.{◌≡◌, ◌≢◌, ◌⊎◌, ℕ, ◌+◌, ◌<◌, ◌^◌, codes, List, [], ◌∷◌, ◌++◌, length, take}
use Rattle.std.specs.List.{All, flat_map}
use Rattle.std.specs.Int.{w32, to_be_bytes, from_be_bytes}
use Rattle.pec_outside.specs.DiskModel.{written}
use Rattle.pec_types.specs.declared.places.Place.{Place}

abbrev pub line_feed : ℕ
line_feed = 10

abbrev pub header : List ℕ
header = codes "PECJRN1" ++ line_feed ∷ []

-- the gate before an entry, and the one that is written behind the last
abbrev pub open_gate : ℕ
open_gate = 1

abbrev pub closed_gate : ℕ
closed_gate = 0

-- an entry behind its gate: its length in four bytes, the greatest first, and its bytes
abbrev pub framed : List ℕ → List ℕ
framed entry = to_be_bytes w32 (length entry) ++ entry

-- the length of an entry fits its four bytes
abbrev pub IsShort : List ℕ → Type 0
IsShort entry = length entry < 2 ^ 32

-- the header and the entries, each behind an open gate
abbrev pub front : List (List ℕ) → List ℕ
front entries = header ++ flat_map (λ entry. open_gate ∷ framed entry) entries

-- The bytes are the file of these entries: behind them stands a gate that isn't open.
pub record IsFile (entries : List (List ℕ)) (bytes : List ℕ) : Type 0 where
  pub gate : ℕ
  pub rest : List ℕ
  pub is : bytes ≡ front entries ++ gate ∷ rest
  pub closed : gate ≢ open_gate
  pub short : All IsShort entries

-- The bytes are the file of these entries, or of these and one more.
abbrev pub IsBeforeOrAfter : List (List ℕ) → List ℕ → List ℕ → Type 0
IsBeforeOrAfter entries entry bytes = IsFile entries bytes ⊎ IsFile (entries ++ entry ∷ []) bytes

-- What an append writes: the framed entry and a closed gate behind the closed gate at this place, then the open gate in it.
abbrev pub appended : List ℕ → ℕ → List ℕ → List ℕ
appended bytes end entry = written (written bytes (end + 1) (framed entry ++ closed_gate ∷ [])) end (open_gate ∷ [])

-- ---- bytes that are no journal file

-- behind an open gate: the four bytes of a length aren't there, or the entry runs past the end
abbrev pub HasNoEntry : List ℕ → Type 0
HasNoEntry rest = (length rest < 4) ⊎ (length rest < 4 + from_be_bytes w32 (take 4 rest))

-- Behind whole entries there is no gate, or an open one with no whole entry behind it.
pub record StopsAt (place : ℕ) (entries : List (List ℕ)) (bytes : List ℕ) : Type 0 where
  pub short : All IsShort entries
  pub stops : ((bytes ≡ front entries) × (place ≡ length bytes))
      ⊎ ((rest : List ℕ) × (bytes ≡ front entries ++ open_gate ∷ rest) × HasNoEntry rest × (place ≡ length (front entries) + 1))

-- The place at which bytes are no journal file: that of the header, of a gate or of a length that isn't there, or of the
-- length of an entry that runs past the end.
abbrev pub IsBroken : List ℕ → ℕ → Type 0
IsBroken bytes place = ((place ≡ 0) × (take (length header) bytes ≢ header)) ⊎ ((entries : List (List ℕ)) × StopsAt place entries bytes)

-- ---- places of entries

-- how many bytes an entry takes beside its own: its gate and its length
abbrev pub framing : ℕ
framing = 5

abbrev pub places_from : ℕ → List (List ℕ) → List Place
places_from at [] = []
places_from at (entry ∷ entries) = record { at = at + framing; length = length entry } ∷ places_from (at + framing + length entry) entries

-- where the bytes of each entry stand in the file, in order
abbrev pub places_of : List (List ℕ) → List Place
places_of entries = places_from (length header) entries

-- this entry is one of these, and this its place
pub record StandsAt (place : Place) (entry : List ℕ) (entries : List (List ℕ)) : Type 0 where
  pub earlier : List (List ℕ)
  pub later : List (List ℕ)
  pub is : entries ≡ earlier ++ entry ∷ later
  pub at : place.at ≡ length (front earlier) + framing
  pub size : place.length ≡ length entry
