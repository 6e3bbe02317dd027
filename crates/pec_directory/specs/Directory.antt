-- The directory of providers (RFC 6109, section 4.5, within this project's profile): a list of providers, each with its
-- domains and its accounts, numbered from 0 in the order of the directory. `Provider` and `Account` say what it has;
-- whatever is looked up is what a search of these lists finds first.
use Rattle.std.specs.Prelude.{ℕ, List, [], ◌∷◌, Bool, false, ◌==◌, Option, None, Some, find, if◌then◌else◌, is_some, map, option_map, slice_get}
use Rattle.std.specs.List.{flat_map, list_any, position_from}
use Rattle.std.specs.Str.{bytes_eq}
use Rattle.jiff_tz.specs.declared.posix.TimeZone.{TimeZone}
use Rattle.pec_types.specs.AddressReading.{domain_of}
use Rattle.pec_types.specs.Bytes.{Bytes}

-- An account: its address, how many messages its mailbox has room for, and the key of its owner.
pub record Account : Type 0 where
  pub address : Bytes
  pub quota : ℕ
  pub key : Bytes

-- What a directory says of a provider: its name, the address that its receipts go to, its domains, the key of its
-- seals, the rule of its zone, the greatest size in bytes of a message times its recipients, and its accounts.
pub record Provider : Type 0 where
  pub name : Bytes
  pub receipts : Bytes
  pub domains : List Bytes
  pub key : Bytes
  pub rule : Bytes
  pub limit : ℕ
  pub accounts : List Account

-- What is kept of a provider: what is said of it, and the zone of its rule, which was read once.
pub record Kept : Type 0 where
  pub provider : Provider
  pub zone : TimeZone

-- what is said of all providers
abbrev pub providers_of : List Kept → List Provider
providers_of kept = map (λ (one : Kept). one.provider) kept

-- ---- providers

-- one of the provider's domains is this one
abbrev pub manages : Bytes → Provider → Bool
manages domain provider = list_any (λ own. bytes_eq domain own) provider.domains

-- the number of the provider that manages a domain
unfoldable pub manager_of : List Provider → Bytes → Option ℕ
manager_of providers domain = position_from (manages domain) 0 providers

-- the number of an address's provider; without one, the address is an external one
unfoldable pub home_of : List Provider → Bytes → Option ℕ
home_of providers address = manager_of providers (domain_of address)

-- the number of the provider of a name
unfoldable pub named : List Provider → Bytes → Option ℕ
named providers name = position_from (λ (provider : Provider). bytes_eq name provider.name) 0 providers

-- the first of some domains; without one, nothing
abbrev pub first_of : List Bytes → Bytes
first_of [] = []
first_of (domain ∷ domains) = domain

-- that of a provider that may not be there
abbrev pub first_domain_in : Option Provider → Bytes
first_domain_in None = []
first_domain_in (Some provider) = first_of provider.domains

-- the rule of the zone of the provider of a number
unfoldable pub rule_of : List Provider → ℕ → Option Bytes
rule_of providers number = option_map (λ (provider : Provider). provider.rule) (slice_get providers number)

-- the first domain of the provider of a number, by which its messages are named
unfoldable pub first_domain : List Provider → ℕ → Bytes
first_domain providers number = first_domain_in (slice_get providers number)

-- some provider manages the address's domain; any other address is an external one
abbrev pub is_certified : List Provider → Bytes → Bool
is_certified providers address = is_some (home_of providers address)

-- ---- accounts

-- all accounts, provider by provider
abbrev pub accounts_of : List Provider → List Account
accounts_of providers = flat_map (λ (provider : Provider). provider.accounts) providers

-- the account of an address
unfoldable pub account_of : List Provider → Bytes → Option Account
account_of providers address = find (λ (account : Account). bytes_eq address account.address) (accounts_of providers)

-- the number of the provider whose account an address is; none where it is no account
unfoldable pub account_home : List Provider → Bytes → Option ℕ
account_home providers address = if is_some (account_of providers address) then home_of providers address else None

-- the number is there, and is this one
abbrev pub is_number : ℕ → Option ℕ → Bool
is_number number None = false
is_number number (Some other) = other == number

-- the address is an account of the provider of this number
unfoldable pub is_account_of : List Provider → ℕ → Bytes → Bool
is_account_of providers number address = is_number number (account_home providers address)
