-- What the worker of a provider does in a round: `Worked`; and when it can begin, `IsReady`. This project's profile.
use Rattle.std.specs.Prelude.{◌≡◌, ◌≢◌, ℕ, ◌<◌, ◌≤◌, List, [], length, map, slice_index_or, Option, None, Some}
use Rattle.std.specs.List.{flat_map}
use Rattle.std.specs.Option.{option_to_list}
use Rattle.pec_types.specs.Bytes.{Bytes}
use Rattle.pec_types.specs.declared.turns.ProviderFault.TheVariants as faults
use Rattle.pec_types.specs.declared.turns.Turn.{Turn}
use Rattle.pec_outside.specs.DiskModel.{Sight}
use Rattle.pec_outside.specs.Flow.{HasRisen}
use Rattle.pec_directory.specs.Directory.{Kept}
use Rattle.pec_link.specs.Ends.{Putting, Taking}
use Rattle.pec_ledger.specs.Network.{Site}
use Rattle.pec_plays.specs.Rounds.{link_size}
use Rattle.pec_rows.specs.Rows.{ArePut, knowns, waits}
use Rattle.pec_screen.specs.Verdicts.{Patterns}
use Rattle.pec_seal.specs.Seals.{Seals}
use Rattle.pec_provider.specs.OfTrades.{trade_of}
use Rattle.pec_chronicle.specs.Chronicle.{Stands}
use Rattle.pec_provider.specs.Provider.{ProviderState, Runs, desk_of, site_of}
use Rattle.pec_network.specs.Looking.{LookAlike}
use Rattle.pec_network.specs.Turning.{CarriesFrames, StopsShort, Took, room_in, told_of, turn_of}
use Rattle.pec_network.specs.declared.working.Slot.{Slot}

-- ---- what slots hold, by provider

abbrev pub providers_in : {D J : Type 0} → List (Slot D J) → List (ProviderState D)
providers_in {D} {J} slots = map (λ (slot : Slot D J). slot.provider) slots

abbrev pub judges_in : {D J : Type 0} → List (Slot D J) → List J
judges_in {D} {J} slots = map (λ (slot : Slot D J). slot.judge) slots

abbrev pub putters_in : {D J : Type 0} → List (Slot D J) → List (List Putting)
putters_in {D} {J} slots = map (λ (slot : Slot D J). slot.putters) slots

abbrev pub takers_in : {D J : Type 0} → List (Slot D J) → List (List Taking)
takers_in {D} {J} slots = map (λ (slot : Slot D J). slot.takers) slots

abbrev pub rooms_in : {D J : Type 0} → List (Slot D J) → List (List ℕ)
rooms_in {D} {J} slots = map (λ (slot : Slot D J). slot.rooms) slots

abbrev pub tolds_in : {D J : Type 0} → List (Slot D J) → List (Option Turn)
tolds_in {D} {J} slots = map (λ (slot : Slot D J). slot.told) slots

-- the turns that are told
abbrev pub turns_told : List (Option Turn) → List Turn
turns_told tolds = flat_map (λ (told : Option Turn). option_to_list told) tolds

-- ---- workers

-- The worker of this provider can begin: it owes no answer, there is an end that puts for each provider, and each has
-- as much room as it is told.
pub record IsReady {D J : Type 0} (kept : List Kept) (seals : Seals) (me : ℕ) (slot : Slot D J) : Type 0 where
  pub runs : Runs kept seals me slot.provider
  pub nothing_owed : slot.provider.owed ≡ []
  pub rooms : length slot.rooms ≡ length kept
  pub short : (to : ℕ) → room_in slot.rooms to ≤ link_size
  pub putters : length slot.putters ≡ length kept
  pub free : (to : ℕ) (other : Putting) → to < length slot.putters
      → room_in slot.rooms to ≤ (slice_index_or slot.putters to other).free

-- `patterns` and `seen` are what a judge has: what its screens look for, and how often they have looked.
module _ {D J : Type 0} (Tells : Type 0) (sight : D → Sight) (count : D → ℕ) (patterns : J → List Patterns) (seen : J → List ℕ)
    (kept : List Kept) (seals : Seals) (moment me : ℕ) (old new : Slot D J) where
  -- the provider as it began, and as it stands behind its turn
  abbrev pub began : Site
  began = site_of (desk_of old.provider) (patterns old.judge) (waits old.takers)

  abbrev pub stands_now : Site
  stands_now = site_of (desk_of new.provider) (patterns old.judge) (waits new.takers)

  -- The turn was this one, and was told so.
  pub record TookTurn (turn : Turn) (out : List (List Bytes)) : Type 0 where
    pub took : Took (Tells × Stands sight old.provider.chronicle) (trade_of kept seals) me moment (room_in old.rooms)
        began (turn_of stands_now turn out)
    pub told : turn ≡ told_of me (turn_of stands_now turn out)
    pub memory : turn.ended ≢ Some faults.NoMemory
    pub fit : (to : ℕ) → length (slice_index_or out to []) ≤ room_in old.rooms to
    pub disk_fault : turn.ended ≡ Some faults.DiskFault
        → HasRisen (count old.provider.chronicle.disk) (count new.provider.chronicle.disk)

  -- The worker had its provider's turn, from what waited as it began, and put what the turn puts, `out`; or memory ran
  -- out within the turn, nothing is told of it, and nothing was put.
  pub record Worked : Type 0 where
    pub out : List (List Bytes)
    pub turn : (turn : Turn) → new.told ≡ Some turn → TookTurn turn out
    pub short : new.told ≡ None → StopsShort (Tells × Stands sight old.provider.chronicle)
        (trade_of kept seals) me moment began stands_now
    pub puts : ArePut old.putters out new.putters
    pub frames : knowns new.takers ≡ knowns old.takers
    pub runs : Runs kept seals me new.provider
    pub judged : patterns new.judge ≡ patterns old.judge
    pub looked : LookAlike (seen old.judge) (seen new.judge)
    pub nothing_owed : new.provider.owed ≡ []
    pub links : length (waits new.takers) ≡ length (waits old.takers)
    pub carries : Tells → CarriesFrames (trade_of kept seals) me moment sight old.provider.chronicle (waits old.takers)
        new.provider.chronicle (waits new.takers)
    pub stands : Tells → Stands sight old.provider.chronicle → Stands sight new.provider.chronicle
    pub later : count old.provider.chronicle.disk ≤ count new.provider.chronicle.disk
