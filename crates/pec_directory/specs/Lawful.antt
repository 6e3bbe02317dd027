-- What holds of every directory, in the words of the trade (RFC 6109, section 4.5, within this project's profile):
-- `IsLawful`, at the end.
use Rattle.std.specs.Prelude.{◌≡◌, ◌+◌, ◌<◌, ◌≤◌, true, false, List, [], ◌∷◌, ◌++◌, length, IsSome}
use Rattle.std.specs.List.{AllByRecursion}
use Rattle.hex.specs.Hex.{IsBytes}
use Rattle.jiff_tz.specs.PosixReader.{read_whole}
use Rattle.pec_types.specs.Address.{IsLowerAddress}
use Rattle.pec_types.specs.Bytes.{Bytes}
use Rattle.pec_directory.specs.Directory.{Account, Provider, accounts_of}
use Rattle.pec_directory.specs.Fields.{greatest_limit, greatest_quota, is_name, is_some_list, is_visible, longest_key, longest_rule, service_at}
use Rattle.pec_directory.specs.Walk.{domains_of, is_named, is_outside, is_taken, most_accounts, most_providers, stands_twice}

-- `posta-certificata@` and the domain are an address in lower case; so the domain has at most 236 bytes, all printable
abbrev pub IsOwnDomain : Bytes → Type 0
IsOwnDomain domain = IsLowerAddress (service_at domain)

-- the provider, with these accounts in place of its own
abbrev pub provider_with : Provider → List Account → Provider
provider_with provider accounts =
    record {
      name = provider.name;
      receipts = provider.receipts;
      domains = provider.domains;
      key = provider.key;
      rule = provider.rule;
      limit = provider.limit;
      accounts = accounts;
    }

-- An account stands rightly behind those that its provider has so far and those of earlier providers: its address is in
-- its provider's domains, and nobody before it has it, no receipts go to it, and no provider writes from it.
pub record IsNextAccount (earlier : List Provider) (provider : Provider) (account : Account) : Type 0 where
  pub address : IsLowerAddress account.address
  pub inside : is_outside provider.domains account.address ≡ false
  pub free : is_taken earlier provider.receipts provider.accounts account.address ≡ false
  pub room : length (accounts_of earlier) + length provider.accounts < most_accounts
  pub quota : account.quota ≤ greatest_quota
  pub key : is_visible longest_key account.key ≡ true

-- each account stands rightly behind those before it
abbrev pub AreNextAccounts : List Provider → Provider → List Account → Type 0
AreNextAccounts earlier provider [] = Unit {0}
AreNextAccounts earlier provider (account ∷ accounts) =
    IsNextAccount earlier provider account
    × AreNextAccounts earlier (provider_with provider (provider.accounts ++ account ∷ [])) accounts

-- A provider stands rightly behind these: its name and its domains are its own, its receipts go to an address in one of
-- its domains, and each of its accounts stands rightly.
pub record IsNext (earlier : List Provider) (provider : Provider) : Type 0 where
  pub name : is_name provider.name ≡ true
  pub name_once : is_named provider.name earlier ≡ false
  pub receipts : IsLowerAddress provider.receipts
  pub receipts_inside : is_outside provider.domains provider.receipts ≡ false
  pub domains : is_some_list provider.domains ≡ true
  pub domains_are : AllByRecursion IsOwnDomain provider.domains
  pub domains_once : stands_twice (domains_of earlier) provider.domains ≡ false
  pub key : (16 ≤ length provider.key) × (length provider.key ≤ 64) × IsBytes provider.key
  pub rule : is_visible longest_rule provider.rule ≡ true
  pub zone : IsSome (read_whole provider.rule)
  pub limit : (1 ≤ provider.limit) × (provider.limit ≤ greatest_limit)
  pub accounts : AreNextAccounts earlier (provider_with provider []) provider.accounts

-- each provider stands rightly behind those before it
abbrev pub AreNext : List Provider → List Provider → Type 0
AreNext earlier [] = Unit {0}
AreNext earlier (provider ∷ providers) = IsNext earlier provider × AreNext (earlier ++ provider ∷ []) providers

-- One to sixteen providers, each rightly behind those before it.
pub record IsLawful (providers : List Provider) : Type 0 where
  pub some : 0 < length providers
  pub few : length providers ≤ most_providers
  pub each : AreNext [] providers
