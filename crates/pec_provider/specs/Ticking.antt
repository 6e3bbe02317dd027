-- How often a clock call of a provider looks an acceptance up: `Ticks`, at most two more times than limits of its pairs pass
-- in the call, and as often as that where it is answered Ok. This project's profile.
use Rattle.std.specs.Prelude.{ℕ, Result, IsOk}
use Rattle.pec_types.specs.Passed.{passing}
use Rattle.pec_ledger.specs.Deadlines.{acceptances, last_tick}
use Rattle.pec_ledger.specs.Steps.{half}
use Rattle.pec_ledger.specs.Trade.{Trade}
use Rattle.pec_shelf.specs.Looked.{Counts}
use Rattle.pec_provider.specs.Provider.{ProviderState}

-- The look-ups of a provider's shelf, and the steps of the call, rise alike, by the number of limits that pass in it, and
-- by no more than two more.
abbrev pub Ticks : {D X Y : Type 0} → Trade → ℕ → ℕ → ProviderState D → ProviderState D → ℕ → ℕ → Result X Y → Type 0
Ticks trade me moment old new steps later result =
    Counts (passing (last_tick old.chronicle.entries) moment (acceptances trade (half trade me old.chronicle.entries)))
    old.shelf.looks new.shelf.looks steps later (IsOk result)
