-- Which pairs answers name: those that were told decided (`decided_told`) and learned (`learned_told`), in order. This
-- project's profile.
use Rattle.std.specs.Prelude.{List, [], ◌∷◌}
use Rattle.std.specs.List.{flat_map}
use Rattle.pec_types.specs.declared.turns.Event.{Event}
use Rattle.pec_types.specs.declared.turns.Event.TheVariants as events
use Rattle.pec_kinds.specs.declared.turns.Turn.{Turn}
use Rattle.pec_ledger.specs.Pairs.{Pair, pair_of}
use Rattle.pec_plays.specs.Commands.{Answer, Turns}

-- the pair of which an event tells that it was decided
abbrev pub decides : Event → List Pair
decides (events.Decided id recipient decision) = pair_of id recipient ∷ []
decides _ = []

-- the pair of which an event tells that its outcome was learned
abbrev pub learns : Event → List Pair
learns (events.Learned id recipient decision) = pair_of id recipient ∷ []
learns _ = []

-- the pairs that the events of turns name
abbrev pub named_in : (Event → List Pair) → List Turn → List Pair
named_in names turns = flat_map (λ (turn : Turn). flat_map names turn.events) turns

-- those that an answer names: only turns do
abbrev pub named_by : (Event → List Pair) → Answer → List Pair
named_by names (Turns turns) = named_in names turns
named_by names _ = []

-- The pairs that are told decided, in order.
abbrev pub decided_told : List Answer → List Pair
decided_told answers = flat_map (named_by decides) answers

-- The pairs that are told learned, in order.
abbrev pub learned_told : List Answer → List Pair
learned_told answers = flat_map (named_by learns) answers
