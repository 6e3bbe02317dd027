-- A network as a service sees it: `state_of`. This project's profile.
use Rattle.std.specs.Prelude.{ℕ}
use Rattle.pec_playing.specs.OfNetworks.{NetworkState, sites}
use Rattle.pec_playing.specs.Playing.{counts_in}
use Rattle.pec_service.specs.Calls.{State}

-- its state, and the counts of faults of its disks, by provider; past the providers, these others
abbrev pub state_of : {D S : Type 0} → (D → ℕ) → (ℕ → ℕ) → NetworkState D S → State
state_of faults elsewhere network =
    record { sites = sites network; counts = counts_in faults network.providers elsewhere }
