-- The frames that wait for providers, link by link, and what is put on the links when a round ends. This project's profile.
use Rattle.std.specs.Prelude.{ℕ, ◌+◌, ◌-◌, List, [], ◌∷◌, ◌++◌, length, slice_index_or, slice_set, take, drop}
use Rattle.pec_types.specs.Bytes.{Bytes}
use Rattle.pec_plays.specs.Rounds.{link_size, delivered_to}

-- The frames that wait for one provider, a list for each sender, oldest first.
abbrev pub Waiting : Type 0
Waiting = List (List Bytes)

-- those of one sender
abbrev pub waiting_from : Waiting → ℕ → List Bytes
waiting_from links from = slice_index_or links from []

-- others in their place
abbrev pub with_link : Waiting → ℕ → List Bytes → Waiting
with_link links from frames = slice_set links from frames

-- the frames without the one at a place
abbrev pub without : ℕ → List Bytes → List Bytes
without place frames = take place frames ++ drop (place + 1) frames

-- how many more frames the link from a provider holds
abbrev pub room_on : ℕ → Waiting → ℕ
room_on from links = link_size - length (waiting_from links from)

-- those that wait for a provider
abbrev pub waiting_for : List Waiting → ℕ → Waiting
waiting_for arrivals to = slice_index_or arrivals to []

-- ---- delivery

-- what was put for each provider, from one on, behind what waits for it
abbrev pub deliveries : List (List (List Bytes)) → ℕ → List Waiting → List Waiting
deliveries outs to [] = []
deliveries outs to (links ∷ arrivals) = delivered_to to outs links ∷ deliveries outs (to + 1) arrivals
