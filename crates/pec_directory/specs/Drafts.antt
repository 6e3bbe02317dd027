-- What is kept of a directory while it is read.
use Rattle.std.specs.Prelude.{◌≡◌, ◌≤◌, ◌<◌, List, [], ◌∷◌, ◌++◌, length, Result, Ok, Err}
use Rattle.pec_index.specs.Entries.{Finds}
use Rattle.pec_types.specs.Bytes.{Bytes}
use Rattle.pec_directory.specs.Directory.{Provider, accounts_of, providers_of}
use Rattle.pec_directory.specs.Indexes.{deeds_from, spots_from}
use Rattle.pec_directory.specs.Walk.{most_accounts, most_providers}
use Rattle.pec_directory.specs.Zones.{AreByRule}
use Rattle.pec_directory.specs.declared.drafts.Draft.{Draft}
use Rattle.pec_directory.specs.declared.faults.DirectoryFault.{DirectoryFault}
use Rattle.pec_directory.specs.declared.places.Place.{Place}

-- the providers that were read
abbrev pub read_so_far : Draft → List Provider
read_so_far draft = providers_of draft.providers.items

-- there is room for one more, and the accounts were counted
pub record IsOpen (draft : Draft) : Type 0 where
  pub room : length draft.providers.items < most_providers
  pub count : draft.accounts ≡ length (accounts_of (read_so_far draft))
  pub few : draft.accounts ≤ most_accounts

-- the indexes and the count are those of the providers that were read, and each zone is of its provider's rule
pub record IsRead (draft : Draft) (places : List (Bytes × Place)) : Type 0 where
  pub homes : Finds draft.homes (deeds_from 0 (read_so_far draft))
  pub spots : Finds places (spots_from 0 (read_so_far draft))
  pub count : draft.accounts ≡ length (accounts_of (read_so_far draft))
  pub few : draft.accounts ≤ most_accounts
  pub zones : AreByRule draft.providers.items

-- these providers, and the one that was read behind them
abbrev pub onto : List Provider → Result Provider DirectoryFault → Result (List Provider) DirectoryFault
onto earlier (Ok provider) = Ok (earlier ++ provider ∷ [])
onto earlier (Err fault) = Err fault
