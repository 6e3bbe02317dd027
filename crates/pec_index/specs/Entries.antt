-- A map from texts to values, as the list of its keys with their values. `Finds` is what an index finds, `IsAdded` what
-- adding to one answers.
use Rattle.std.specs.Prelude.{◌≡◌, ℕ, Bool, true, false, List, [], ◌∷◌, ◌++◌, Option, Some, None, IsSome, Vec, if◌then◌else◌}
use Rattle.std.specs.Str.{bytes_eq}
use Rattle.std.specs.declared.alloc.Global.{Global}

-- a key: a text, byte by byte
abbrev pub Key : Type 0
Key = List ℕ

-- keys, each with its value
abbrev pub Entries : Type 0 → Type 0
Entries V = List (Key × V)

-- the value at a key: that of its first entry
abbrev pub value_at : {V : Type 0} → Key → Entries V → Option V
value_at key [] = None
value_at key (entry ∷ entries) = if bytes_eq key entry.0 then Some entry.1 else value_at key entries

-- what is seen of the entries of the map that is kept
abbrev pub shown : {V : Type 0} → List (Vec ℕ Global × V) → Entries V
shown [] = []
shown (entry ∷ entries) = (entry.0.items, entry.1) ∷ shown entries

-- whatever the key is, the index has there what stands there first in the entries
abbrev pub Finds : {V : Type 0} → Entries V → Entries V → Type 0
Finds index entries = (key : Key) → value_at key index ≡ value_at key entries

-- The answer to whether an entry was added behind these: it was, and its key is a new one; or it wasn't, and its key is
-- there.
abbrev pub IsAdded : {V : Type 0} → Bool → Entries V → Entries V → Key → V → Type 0
IsAdded true index entries key value = (value_at key entries ≡ None) × Finds index (entries ++ (key, value) ∷ [])
IsAdded false index entries key value = IsSome (value_at key entries)
