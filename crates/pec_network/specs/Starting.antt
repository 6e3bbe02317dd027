-- What the calls by which a network begins say to one another. This project's profile.
use Rattle.std.specs.Prelude.{ℕ, ◌<◌, List, length, slice_index_or}
use Rattle.pec_directory.specs.Directory.{Kept}
use Rattle.pec_chronicle.specs.declared.faults.CreateFault.{CreateFault}
use Rattle.pec_chronicle.specs.declared.faults.CreateFault.TheVariants as create
use Rattle.pec_stock.specs.declared.faults.ReopenFault.{ReopenFault}
use Rattle.pec_stock.specs.declared.faults.ReopenFault.TheVariants as reopen
use Rattle.pec_seal.specs.Seals.{Seals}
use Rattle.pec_provider.specs.Provider.{ProviderState, Runs}
use Rattle.pec_network.specs.declared.faults.NotFit.TheVariants as unfits
use Rattle.pec_network.specs.declared.faults.StartFault.{StartFault}
use Rattle.pec_network.specs.declared.faults.StartFault.TheVariants as faults

-- why the provider of this number makes no journal, as the network says it
abbrev pub unmade_as : ℕ → CreateFault → StartFault
unmade_as me create.NotEmpty = faults.NotEmpty me
unmade_as me create.DiskFault = faults.DiskFault me
unmade_as me create.NoMemory = faults.NoMemory

-- why it opens none
abbrev pub unopened_as : ℕ → ReopenFault → StartFault
unopened_as me reopen.DiskFault = faults.DiskFault me
unopened_as me (reopen.NotAJournal place) = faults.NotFit me (unfits.Journal place)
unopened_as me (reopen.OtherDirectory kept given) = faults.NotFit me (unfits.OtherDirectory kept given)
unopened_as me (reopen.BadEntry number) = faults.NotFit me (unfits.BadEntry number)
unopened_as me reopen.NoMemory = faults.NoMemory

-- These are providers of a directory, for which these seals are, from number 0 on.
abbrev pub AllRun : {D : Type 0} → List Kept → Seals → List (ProviderState D) → Type 0
AllRun {D} kept seals providers =
    (number : ℕ) (other : ProviderState D) → number < length providers
    → Runs kept seals number (slice_index_or providers number other)
