-- How often a shelf looks an acceptance up while an entry is prepared: `Looked`, for a clock call at most two more times
-- than limits pass in it, and as often as that where it is prepared; for every other entry never. This project's profile.
use Rattle.std.specs.Prelude.{◌≡◌, ℕ, ◌≤◌, List, Option, None, Some, Result, IsOk}
use Rattle.pec_types.specs.Looks.{AtLeast, AtMost, RoseAlike}
use Rattle.pec_types.specs.Passed.{passing}
use Rattle.pec_records.specs.declared.entries.Entry.{Entry}
use Rattle.pec_records.specs.declared.entries.Entry.TheVariants as entries
use Rattle.pec_ledger.specs.Deadlines.{acceptances}
use Rattle.pec_ledger.specs.Trade.{Trade}
use Rattle.pec_shelf.specs.Deadlines.{accepted_in, clock_at}
use Rattle.pec_shelf.specs.Seen.{Seen}
use Rattle.pec_shelf.specs.declared.deadlines.Clock.{Clock}

-- Two counts rose alike, by at most two more than these limits, and in a call that came through by at least as many.
pub record Counts (limits looks looks_later steps steps_later : ℕ) (Through : Type 0) : Type 0 where
  pub alike : RoseAlike looks looks_later steps steps_later
  pub most : AtMost limits steps steps_later
  pub least : Through → AtLeast limits steps steps_later

-- How the look-ups of a shelf, and those of a call that prepares an entry, rise.
abbrev pub Looked : {X Y : Type 0} → Trade → Seen → Entry → ℕ → ℕ → ℕ → Result X Y → Type 0
Looked trade shelf (entries.Ticked now) looks steps steps_later result =
    Counts (passing shelf.ticked now (acceptances trade shelf.half)) shelf.looks looks steps steps_later (IsOk result)
Looked trade shelf _ looks steps steps_later result = (looks ≡ shelf.looks) × (steps_later ≡ steps)

-- ---- over what a shelf keeps: what the code follows

abbrev pub acceptances_seen : Seen → List ℕ
acceptances_seen shelf = accepted_in shelf.half.messages shelf.certified

-- where the cursors over these acceptances stand behind an entry, if it is a clock call
abbrev pub clock_seen : List ℕ → Entry → Option Clock
clock_seen acceptances (entries.Ticked now) = Some (clock_at now acceptances)
clock_seen acceptances _ = None

-- The same as `Looked`: a clock call whose moment isn't before the greatest comes through.
abbrev pub LookedSo : Seen → Entry → ℕ → ℕ → ℕ → Type 0
LookedSo shelf (entries.Ticked now) looks steps steps_later =
    Counts (passing shelf.ticked now (acceptances_seen shelf)) shelf.looks looks steps steps_later (shelf.half.last ≤ now)
LookedSo shelf _ looks steps steps_later = (looks ≡ shelf.looks) × (steps_later ≡ steps)
