-- How a journal file is read: gate by gate. The headline is `Holds`, what stands from a gate on.
use Rattle.std.specs.Prelude.{◌≡◌, ◌≢◌, ◌⊎◌, ℕ, ◌+◌, ◌<◌, ◌^◌, List, [], ◌∷◌, ◌++◌, length, take, Option, None, Some}
use Rattle.std.specs.List.{All}
use Rattle.pec_types.specs.declared.places.Place.{Place}
use Rattle.pec_journal.specs.declared.reopening.Stand.{Stand}
use Rattle.pec_journal.specs.declared.reopening.Stand.TheVariants.{Nothing, Closed, Entry, NoEntry}
use Rattle.pec_journal.specs.JournalFile.{IsShort, HasNoEntry, front, framed, open_gate, places_of}

-- what stands in the bytes from a gate on
abbrev pub Holds : List ℕ → Stand → Type 0
Holds tail Nothing = tail ≡ []
Holds tail Closed = (gate : ℕ) × (rest : List ℕ) × (tail ≡ gate ∷ rest) × (gate ≢ open_gate)
Holds tail (Entry size) = (entry : List ℕ) × (more : List ℕ) × (tail ≡ open_gate ∷ (framed entry ++ more)) × (length entry ≡ size) × (size < 2 ^ 32)
Holds tail NoEntry = (rest : List ℕ) × (tail ≡ open_gate ∷ rest) × HasNoEntry rest

-- an entry of this length stands there, or a closed gate
abbrev pub HoldsEntry : List ℕ → Option ℕ → Type 0
HoldsEntry tail None = Holds tail Closed
HoldsEntry tail (Some size) = Holds tail (Entry size)

-- No gate stands there, or no whole entry behind it, and this is the place of what is missing.
abbrev pub HoldsNone : ℕ → List ℕ → ℕ → Type 0
HoldsNone at tail place = ((place ≡ at) × Holds tail Nothing) ⊎ ((place ≡ at + 1) × Holds tail NoEntry)

-- Entries were read, and what stands at the place behind them comes next.
pub record Stood (seen : List ℕ) (at : ℕ) (places : List Place) : Type 0 where
  pub entries : List (List ℕ)
  pub front_is : take at seen ≡ front entries
  pub ends : at ≡ length (front entries)
  pub places_are : places ≡ places_of entries
  pub short : All IsShort entries
