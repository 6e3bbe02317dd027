-- Which taken pair a provider has to decide next: `next_undecided`. RFC 6109, section 3.3, within this project's profile.
use Rattle.std.specs.Prelude.{◌≡◌, ℕ, Bool, List, [], map, find, slice_get, Option, Some, None, is_none}
use Rattle.std.specs.List.{flat_map}
use Rattle.pec_ledger.specs.Half.{Fate, Half, Taken}
use Rattle.pec_ledger.specs.Lookups.{decided_of}
use Rattle.pec_ledger.specs.Pairs.{Pair, pair_of, same_pair}

abbrev pub pairs_of_row : Option Taken → List Pair
pairs_of_row None = []
pairs_of_row (Some row) = map (pair_of row.id) row.recipients

-- the pairs of what was taken, in order of taking and of recipients
abbrev pub pairs_taken : List Taken → List Pair
pairs_taken rows = flat_map (λ (row : Taken). map (pair_of row.id) row.recipients) rows

-- the pairs of what was taken at a place
abbrev pub pairs_at : List Taken → ℕ → List Pair
pairs_at rows place = pairs_of_row (slice_get rows place)

-- a pair isn't decided, in these decisions
abbrev pub is_open : List Fate → Pair → Bool
is_open decided pair = is_none (find (λ (fate : Fate). same_pair pair fate.pair) decided)

-- each pair of what was taken is decided, in these decisions
abbrev pub IsDecided : List Fate → ℕ → Taken → Type 0
IsDecided decided place row = find (is_open decided) (map (pair_of row.id) row.recipients) ≡ None

-- The first of the taken pairs that isn't decided.
abbrev pub next_undecided : Half → Option Pair
next_undecided half = find (λ (pair : Pair). is_none (decided_of half pair)) (pairs_taken half.taken)
