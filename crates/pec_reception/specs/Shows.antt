-- What is to be done, beside the steps of pec_plays: `Shows` for one step, `decide_as` for a pair that has to be decided,
-- `IsFirstOf` for the next one, `Answers` for what may be a letter. RFC 6109, sections 3.1 to 3.3, within this project's
-- profile.
use Rattle.std.specs.Prelude.{◌≡◌, ℕ, Bool, List, [], ◌∷◌, Option, Some, None, IfSome}
use Rattle.std.specs.Option.{option_to_list}
use Rattle.pec_records.specs.Entry.{IsWithinLimits}
use Rattle.pec_records.specs.declared.entries.Entry.{Entry}
use Rattle.pec_ledger.specs.Pairs.{Pair}
use Rattle.pec_ledger.specs.Trade.{Framed, Trade}
use Rattle.pec_plays.specs.Decisions.{decide}
use Rattle.pec_plays.specs.Reception.{otherwise}
use Rattle.pec_plays.specs.Steps.{Step}
use Rattle.pec_reception.specs.declared.received.Received.{Received}

-- What is to be done is what the step does: its entry, what is told, and what is owed. Whether the journal has room is
-- its own affair.
abbrev pub Shows : Received → Step → Type 0
Shows received step =
    (received.entry ≡ step.entry) × (received.event ≡ step.event) × (option_to_list received.owed ≡ step.owed)

-- What a provider does with a pair, as some screen found a rule in its message or none did: it decides it.
abbrev pub decide_as : Trade → ℕ → ℕ → Bool → List Entry → Pair → Step
decide_as trade me moment found journal pair = decide trade me moment (λ entries one. found) journal pair

-- Of these pairs there is none; or this is the first.
abbrev pub IsFirstOf : List Pair → Option Pair → Type 0
IsFirstOf pairs None = pairs ≡ []
IsFirstOf pairs (Some pair) = (rest : List Pair) × (pairs ≡ pair ∷ rest)

-- What is to be done is what the step does; where nothing is answered, the step is that of anything else.
abbrev pub Answers : Trade → ℕ → ℕ → List Entry → Framed → Step → Option Received → Type 0
Answers trade me moment journal framed step None = step ≡ otherwise trade me moment journal framed
Answers trade me moment journal framed step (Some received) = Shows received step

-- the entry, if there is one, is within the program's limits
abbrev pub IsLimited : Received → Type 0
IsLimited received = IfSome received.entry IsWithinLimits

abbrev pub AreLimited : Option Received → Type 0
AreLimited found = IfSome found IsLimited
