-- What a directory's indexes find: the provider of a domain, and the place of an account.
use Rattle.std.specs.Prelude.{◌≡◌, ℕ, ◌+◌, ◌≤◌, ◌==◌, Bool, false, List, [], ◌∷◌, ◌++◌, length, Option, Some, None, slice_get}
use Rattle.pec_index.specs.Entries.{Finds}
use Rattle.pec_types.specs.Bytes.{Bytes}
use Rattle.pec_directory.specs.Directory.{Account, Kept, Provider, providers_of}
use Rattle.pec_directory.specs.Walk.{domains_of, most_providers, stands_twice}
use Rattle.pec_directory.specs.declared.places.Place.{Place}

-- each domain with the number of its provider
abbrev pub deeds_of : ℕ → List Bytes → List (Bytes × ℕ)
deeds_of number [] = []
deeds_of number (domain ∷ domains) = (domain, number) ∷ deeds_of number domains

-- those of providers that are numbered from here on
abbrev pub deeds_from : ℕ → List Provider → List (Bytes × ℕ)
deeds_from number [] = []
deeds_from number (provider ∷ providers) = deeds_of number provider.domains ++ deeds_from (number + 1) providers

-- each account with its place, the first at this one
abbrev pub spots_of : ℕ → ℕ → List Account → List (Bytes × Place)
spots_of number at [] = []
spots_of number at (account ∷ accounts) =
    (account.address, record { provider = number; account = at }) ∷ spots_of number (at + 1) accounts

-- those of providers that are numbered from here on
abbrev pub spots_from : ℕ → List Provider → List (Bytes × Place)
spots_from number [] = []
spots_from number (provider ∷ providers) = spots_of number 0 provider.accounts ++ spots_from (number + 1) providers

-- the indexes are those of these providers
pub record IsIndexed (kept : List Kept) (homes : List (Bytes × ℕ)) (places : List (Bytes × Place)) : Type 0 where
  pub few : length kept ≤ most_providers
  pub homes_are : Finds homes (deeds_from 0 (providers_of kept))
  pub places_are : Finds places (spots_from 0 (providers_of kept))

-- the account at this place among those of a provider that may not be there
abbrev pub account_at : Option Provider → ℕ → Option Account
account_at None at = None
account_at (Some provider) at = slice_get provider.accounts at

-- the account at a place
abbrev pub reached : List Provider → Option Place → Option Account
reached providers None = None
reached providers (Some place) = account_at (slice_get providers place.provider) place.account

-- the index finds this provider at the domain
abbrev pub is_here : ℕ → Option ℕ → Bool
is_here number None = false
is_here number (Some home) = home == number

-- the index of domains is that of these providers and of the next one
abbrev pub HasDomains : List (Bytes × ℕ) → List Provider → List Bytes → Type 0
HasDomains homes earlier domains =
    Finds homes (deeds_from 0 earlier ++ deeds_of (length earlier) domains)
    × (stands_twice (domains_of earlier) domains ≡ false)

-- the index of accounts is that of these providers and of accounts of the next one
abbrev pub HasAccounts : List (Bytes × Place) → List Provider → List Account → Type 0
HasAccounts places earlier accounts = Finds places (spots_from 0 earlier ++ spots_of (length earlier) 0 accounts)
