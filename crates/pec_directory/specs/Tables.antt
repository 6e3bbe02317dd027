-- A text that is a directory: TOML whose tables say providers and accounts field by field, and these are lawful. The
-- headline is `IsDirectory`, at the end; `IsOfTable` is the same of a table. This project's profile.
use Rattle.std.specs.Prelude.{◌≡◌, List, [], ◌∷◌, Some}
use Rattle.toml.specs.Data.{Data, Items, no_items, item}
use Rattle.pec_types.specs.Bytes.{Bytes}
use Rattle.pec_directory.specs.Directory.{Account, Provider}
use Rattle.pec_directory.specs.Fields.{accounts_at, address_at, domains_at, key_at, limit_at, name_at, quota_at, receipts_at, rule_at, seal_key_at}
use Rattle.pec_directory.specs.Lawful.{IsLawful}
use Rattle.pec_directory.specs.Walk.{Fields, document_of, providers_in}

-- A table says an account: each of its fields is of its type and form, and has this value.
pub record SaysAccount (entry : Data) (account : Account) : Type 0 where
  pub address : address_at entry ≡ Some account.address
  pub quota : quota_at entry ≡ Some account.quota
  pub key : key_at entry ≡ Some account.key

-- as many tables as accounts, each saying its own
abbrev pub SayAccounts : Items → List Account → Type 0
SayAccounts no_items [] = Unit {0}
SayAccounts no_items (account ∷ accounts) = ⊥
SayAccounts (item entry tables) [] = ⊥
SayAccounts (item entry tables) (account ∷ accounts) = SaysAccount entry account × SayAccounts tables accounts

-- A table says a provider's own fields: each is of its type and form, and has this value.
pub record SaysFields (entry : Data) (fields : Fields) : Type 0 where
  pub name : name_at entry ≡ Some fields.name
  pub receipts : receipts_at entry ≡ Some fields.receipts
  pub domains : domains_at entry ≡ Some fields.domains
  pub key : seal_key_at entry ≡ Some fields.key
  pub rule : rule_at entry ≡ Some fields.rule
  pub limit : limit_at entry ≡ Some fields.limit

-- a provider's own fields
abbrev pub fields_in : Provider → Fields
fields_in p =
    record { name = p.name; receipts = p.receipts; domains = p.domains; key = p.key; rule = p.rule; limit = p.limit }

-- A table says a provider: its own fields, and its accounts in the tables of one of them.
pub record SaysProvider (entry : Data) (provider : Provider) : Type 0 where
  pub fields : SaysFields entry (fields_in provider)
  pub tables : Items
  pub are_tables : accounts_at entry ≡ Some tables
  pub accounts : SayAccounts tables provider.accounts

-- as many tables as providers, each saying its own
abbrev pub SayProviders : Items → List Provider → Type 0
SayProviders no_items [] = Unit {0}
SayProviders no_items (provider ∷ providers) = ⊥
SayProviders (item entry tables) [] = ⊥
SayProviders (item entry tables) (provider ∷ providers) = SaysProvider entry provider × SayProviders tables providers

-- A whole table is the directory of these providers: the tables in its `provider` say them, and they are lawful.
pub record IsOfTable (whole : Data) (providers : List Provider) : Type 0 where
  pub tables : Items
  pub are_tables : providers_in whole ≡ Some tables
  pub say : SayProviders tables providers
  pub lawful : IsLawful providers

-- The text is the directory of these providers: it is TOML, the tables in its `provider` say them, and they are lawful.
pub record IsDirectory (text : Bytes) (providers : List Provider) : Type 0 where
  pub whole : Data
  pub is_toml : document_of text ≡ Some whole
  pub tables : Items
  pub are_tables : providers_in whole ≡ Some tables
  pub say : SayProviders tables providers
  pub lawful : IsLawful providers
