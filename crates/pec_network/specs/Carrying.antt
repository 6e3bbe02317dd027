-- How the disks of a network carry on from call to call: each provider's by itself, with entries that may follow in the
-- ledger as the call began. This project's profile.
use Rattle.std.specs.Prelude.{ℕ, ◌<◌, ◌≤◌, List, length, slice_index_or}
use Rattle.pec_outside.specs.DiskModel.{Sight}
use Rattle.pec_ledger.specs.Ledger.{Journals}
use Rattle.pec_ledger.specs.Trade.{Trade}
use Rattle.pec_chronicle.specs.Carrying.{CarriesOn}
use Rattle.pec_chronicle.specs.Chronicle.{Stands}
use Rattle.pec_provider.specs.Following.{MayFollow}
use Rattle.pec_provider.specs.Provider.{ProviderState}

-- Each provider carries on, with entries that may follow in the ledger of these journals.
abbrev pub AllCarryOn : {D : Type 0} → (D → Sight) → Trade → Journals → List (ProviderState D) → List (ProviderState D) → Type 0
AllCarryOn {D} sight trade journals old new =
    (number : ℕ) (other : ProviderState D) → number < length old
    → CarriesOn sight (MayFollow trade journals number)
    (slice_index_or old number other).chronicle (slice_index_or new number other).chronicle

-- The count of faults of no disk falls.
abbrev pub NoneFalls : {D : Type 0} → (D → ℕ) → List (ProviderState D) → List (ProviderState D) → Type 0
NoneFalls {D} faults old new =
    (number : ℕ) (other : ProviderState D) → number < length old
    → faults (slice_index_or old number other).chronicle.disk ≤ faults (slice_index_or new number other).chronicle.disk

-- What is kept of each provider stands on its disk.
abbrev pub AllStand : {D : Type 0} → (D → Sight) → List (ProviderState D) → Type 0
AllStand {D} sight providers =
    (number : ℕ) (other : ProviderState D) → number < length providers
    → Stands sight (slice_index_or providers number other).chronicle
