-- Where a run stands over a network, `point_of`, and what stops it, `stop_in`, in the words of pec_runs; and a run that
-- goes by one command: `GoesBy`. This project's profile.
use Rattle.std.specs.Prelude.{ℕ, List, [], ◌∷◌, slice_get, Option, None, Some, option_map, Result, Ok, Err}
use Rattle.pec_types.specs.Bytes.{Bytes}
use Rattle.pec_outside.specs.DiskModel.{Sight}
use Rattle.pec_directory.specs.Directory.{providers_of}
use Rattle.pec_plays.specs.Commands.{Command}
use Rattle.pec_screen.specs.Verdicts.{Patterns}
use Rattle.pec_seal.specs.Seals.{Seals}
use Rattle.pec_network.specs.Carrying.{AllStand}
use Rattle.pec_network.specs.OfProviders.{ChronicleState, ProviderState}
use Rattle.pec_network.specs.Network.{NetworkState, sites, world_of}
use Rattle.pec_runs.specs.Steps.{Goes, Plays, Point, State}
use Rattle.pec_runs.specs.Steps as runs
use Rattle.pec_playing.specs.Playing.{counts_in}
use Rattle.pec_playing.specs.declared.stops.Stop.{Stop}
use Rattle.pec_playing.specs.declared.stops.Stop.TheVariants as stops

-- the entries of providers over their disks, by number
abbrev pub chronicles_in : {D : Type 0} → List (ProviderState D) → ℕ → Option (ChronicleState D)
chronicles_in {D} providers number =
    option_map (λ (provider : ProviderState D). provider.chronicle) (slice_get providers number)

-- A network without its output, with these spares. Past the providers, the counts of faults of disks are these others.
abbrev pub state_in : {D S : Type 0} → (D → ℕ) → (ℕ → ℕ) → List Patterns → NetworkState D S → State D
state_in faults elsewhere spares network = record {
  sites = sites network;
  spares = spares;
  counts = counts_in faults network.providers elsewhere;
  chronicles = chronicles_in network.providers;
}

-- A network with these spares, with what its output holds and the output's count of faults. Past the providers, the
-- counts of faults of disks are these others.
abbrev pub point_of : {D S : Type 0} → (D → ℕ) → (ℕ → ℕ) → List Patterns → NetworkState D S → Option Bytes → ℕ → Point D
point_of faults elsewhere spares network held count =
    record { state = state_in faults elsewhere spares network; held = held; faults = count }

-- what stops a run, if something does
abbrev pub stop_in : {T : Type 0} → Result T Stop → Option runs.Stop
stop_in (Ok done) = None
stop_in (Err stops.NoMemory) = Some runs.NoMemory
stop_in (Err stops.WriteFault) = Some runs.WriteFault

-- A run went by this command alone, played over a network and its answer written: from these spares, from what the
-- output held, and its count of faults, to what they are. Past the providers the counts of disks may be any. All that
-- is asked: where disks tell what they hold, each provider stands on its own.
abbrev pub GoesBy : {D S : Type 0} → Type 0 → (D → Sight) → (D → ℕ) → (S → Seals) → Command → (spares left : List Patterns)
    → (old new : NetworkState D S) → (before after : Option Bytes) → (from upto : ℕ) → Option runs.Stop → Type 0
GoesBy tells sight faults seals command spares left old new before after from upto stop =
    (tells → AllStand sight old.providers) → (elsewhere : ℕ → ℕ)
    → Goes (world_of seals old) (providers_of old.kept) tells sight faults (Plays command ∷ [])
    (point_of faults elsewhere spares old before from) (point_of faults elsewhere left new after upto) stop
