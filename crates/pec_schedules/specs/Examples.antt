-- Worked schedules of two links: from provider 0 to provider 1, and back.
use Rattle.std.specs.Prelude.{List, [], ◌∷◌, replicate, Option, if◌then◌else◌}
use Rattle.std.specs.Option.{option_map}
use Rattle.pec_schedules.specs.Schedules.{Line, Lines, Link, Plan, Planned, Put, Step, Take, begun, ran, same_link}

-- the link from provider 0 to provider 1
abbrev pub there : Link
there = (0, 1)

-- the link back
abbrev pub back : Link
back = (1, 0)

-- nothing waits, and nothing is to be done
abbrev pub idle : Planned
idle = record { waiting = []; takes = 0; puts = [] }

-- what is to be done on these two links, and on no other
abbrev pub on_two : Planned → Planned → Plan
on_two first second link = if same_link there link then first else (if same_link back link then second else idle)

-- Two frames wait for provider 1, which takes both and puts one; provider 0 takes the one that waits and puts two.
abbrev pub both_ways : Plan
both_ways =
    on_two (record { waiting = (1 ∷ []) ∷ (2 ∷ []) ∷ []; takes = 2; puts = (3 ∷ []) ∷ (4 ∷ []) ∷ [] })
    (record { waiting = (5 ∷ []) ∷ []; takes = 1; puts = (6 ∷ []) ∷ [] })

-- first all of provider 0, then all of provider 1
abbrev pub in_turn : List Step
in_turn = Take back ∷ Put there ∷ Put there ∷ Take there ∷ Take there ∷ Put back ∷ []

-- step by step in turn
abbrev pub mixed : List Step
mixed = Take there ∷ Put there ∷ Take there ∷ Put back ∷ Put there ∷ Take back ∷ []

-- what steps leave on the two links, where none finds its link full or empty
abbrev pub left_by : Plan → List Step → Option (Line × Line)
left_by plan steps = option_map (λ (lines : Lines). (lines there, lines back)) (ran steps (begun plan))

-- what the schedules of `both_ways` leave
abbrev pub both_ended : Line × Line
both_ended = (
  record { frames = (3 ∷ []) ∷ (4 ∷ []) ∷ []; left = []; taken = (1 ∷ []) ∷ (2 ∷ []) ∷ [] },
  record { frames = (6 ∷ []) ∷ []; left = []; taken = (5 ∷ []) ∷ [] },
)

-- As many frames wait as a link holds. One is taken and one put, so that there is room for it only behind the take.
abbrev pub past_its_room : Plan
past_its_room = on_two (record { waiting = replicate 64 (7 ∷ []); takes = 1; puts = (8 ∷ []) ∷ [] }) idle
