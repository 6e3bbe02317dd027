-- A list of numbers, and the places at which a number stands in it.
use Rattle.std.specs.Prelude.{◌≡◌, ℕ, zero, suc, ◌==◌, nat_eq, List, [], ◌∷◌, ◌++◌, Option, Some, None, if◌then◌else◌}
use Rattle.std.specs.Option.{option_map, option_or}
use Rattle.std.specs.HashMap.{HashMap, get}

-- The last place at which a number stands.
abbrev pub last_place : ℕ → List ℕ → Option ℕ
last_place n [] = None
last_place n (m ∷ ms) = option_or (option_map suc (last_place n ms)) (if n == m then Some 0 else None)

-- the place that a link says, by what it keeps
abbrev pub place_before : ℕ → Option ℕ
place_before zero = None
place_before (suc place) = Some place

-- the map has the last place of each number
abbrev pub AreLast : {S : Type 0} → HashMap ℕ ℕ S → List ℕ → Type 0
AreLast last numbers = (n : ℕ) → get nat_eq last n ≡ last_place n numbers

-- For each number behind those in front, the place before it at which it stands.
abbrev pub links_behind : List ℕ → List ℕ → List (Option ℕ)
links_behind front [] = []
links_behind front (n ∷ ns) = last_place n front ∷ links_behind (front ++ n ∷ []) ns

-- For each number, the place before it at which it stands.
abbrev pub links_of : List ℕ → List (Option ℕ)
links_of numbers = links_behind [] numbers
