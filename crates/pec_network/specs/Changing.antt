-- What is said of one provider of a network, by its number, where a call concerns no other: `ConcernsOne`, at the end.
-- This project's profile.
use Rattle.std.specs.Prelude.{◌≡◌, ℕ, List, slice_index_or, slice_set, Result, IsErrOf}
use Rattle.pec_types.specs.declared.turns.ProviderFault.{ProviderFault}
use Rattle.pec_types.specs.declared.turns.ProviderFault.TheVariants as refusals
use Rattle.pec_outside.specs.DiskModel.{Only, Sight}
use Rattle.pec_outside.specs.Flow.{HasRisen}
use Rattle.pec_chronicle.specs.Chronicle.{Stands}
use Rattle.pec_ledger.specs.Ledger.{Journals}
use Rattle.pec_provider.specs.Provider.{ProviderState}
use Rattle.pec_seal.specs.Seals.{Seals}
use Rattle.pec_network.specs.Carrying.{AllCarryOn, NoneFalls}
use Rattle.pec_network.specs.Network.{NetworkState, world_of}

-- Nothing but the provider of this number is another one; its screens may have looked.
abbrev pub ChangesOnly : {D S : Type 0} → ℕ → NetworkState D S → NetworkState D S → Type 0
ChangesOnly {D} number old new =
    (other : ProviderState D)
    → new ≡ record old {
      providers = slice_set old.providers number (slice_index_or new.providers number other);
      looks = new.looks;
    }

-- The count of faults of the provider's disk has risen.
abbrev pub HasRisenAt : {D : Type 0} → (D → ℕ) → ℕ → List (ProviderState D) → List (ProviderState D) → Type 0
HasRisenAt {D} faults number old new =
    (other : ProviderState D)
    → HasRisen (faults (slice_index_or old number other).chronicle.disk)
    (faults (slice_index_or new number other).chronicle.disk)

-- What is kept of the provider stands on its disk.
abbrev pub StandsAt : {D : Type 0} → (D → Sight) → ℕ → List (ProviderState D) → Type 0
StandsAt {D} sight number providers =
    (other : ProviderState D) → Stands sight (slice_index_or providers number other).chronicle

-- The provider's disk reads as a crash may have left the old one, and holds that durably.
pub record IsCrashedDisk {D : Type 0} (sight : D → Sight) (old new : D) : Type 0 where
  pub left : (sight old).may_leave (sight new).seen
  pub durable : Only (sight new).seen (sight new).may_leave

abbrev pub CrashedAt : {D : Type 0} → (D → Sight) → ℕ → List (ProviderState D) → List (ProviderState D) → Type 0
CrashedAt {D} sight number old new =
    (other : ProviderState D)
    → IsCrashedDisk sight (slice_index_or old number other).chronicle.disk
    (slice_index_or new number other).chronicle.disk

-- The count of faults of no disk changes.
abbrev pub SameCounts : {D : Type 0} → (D → ℕ) → List (ProviderState D) → List (ProviderState D) → Type 0
SameCounts {D} faults old new =
    (number : ℕ) (other : ProviderState D)
    → faults (slice_index_or new number other).chronicle.disk ≡ faults (slice_index_or old number other).chronicle.disk

-- What a command of one provider leaves of the network, whatever it answers. `count` is that of a disk's faults, and
-- `tells` says that disks tell what they hold.
pub record ConcernsOne {D S X : Type 0} (sight : D → Sight) (count : D → ℕ) (tells : Type 0) (seals : S → Seals)
    (provider : ℕ) (old new : NetworkState D S) (result : Result X ProviderFault) : Type 0 where
  -- no other provider is touched, and no frame that waits, and all screens have the patterns that they had
  pub others : ChangesOnly provider old new
  -- At every moment of the call the disks carry on, with entries that may follow in the ledger of any journals.
  pub carries : tells → (journals : Journals)
      → AllCarryOn sight (world_of seals old) journals old.providers new.providers
  -- A fault of the disk is answered only where that disk's count rose in the call.
  pub disk_fault : IsErrOf result refusals.DiskFault → HasRisenAt count provider old.providers new.providers
  -- no count falls
  pub later : NoneFalls count old.providers new.providers
