-- The walk over a directory's text: the tests that are made on the table of the text, in their order, and the first
-- fault that they find. `directory_of`, at the end, is the whole. Providers count from 0, accounts from 1; the number 0
-- stands for the receipt address. This project's profile.
use Rattle.std.specs.Prelude.{ℕ, ◌+◌, ◌==◌, Bool, false, not, ◌||◌, nat_le, nat_lt, List, [], ◌∷◌, ◌++◌, length, codes, take, Option, Some, None, is_none, if◌then◌else◌, Result, Ok, Err}
use Rattle.std.specs.List.{flat_map, list_any}
use Rattle.std.specs.Str.{bytes_eq}
use Rattle.jiff_tz.specs.PosixReader.{read_whole}
use Rattle.toml.specs.Data.{Data, Items, Members, no_items, item, table, get}
use Rattle.toml.specs.Parse.{parse_document}
use Rattle.pec_types.specs.AddressReading.{domain_of}
use Rattle.pec_types.specs.Bytes.{Bytes}
use Rattle.pec_types.specs.Results.{◌>>=◌}
use Rattle.pec_directory.specs.Directory.{Account, Provider, accounts_of}
use Rattle.pec_directory.specs.Fields.{accounts_at, address_in, domains_at, key_at, key_of, limit_at, name_at, quota_at, rule_at, tables_of, service_at, text_at}
use Rattle.pec_directory.specs.declared.faults.DirectoryFault.{DirectoryFault}
use Rattle.pec_directory.specs.declared.faults.DirectoryFault.TheVariants.{NotToml, BadField, NameTwice, DomainTwice, BadAddress, AccountOutside, AccountTwice, BadKey, BadZone, TooMany, NoProvider}
use Rattle.pec_directory.specs.declared.faults.Field.TheVariants as field

-- what is there, or else this fault
abbrev pub or_fault : {A : Type 0} → DirectoryFault → Option A → Result A DirectoryFault
or_fault fault None = Err fault
or_fault fault (Some x) = Ok x

-- the fault where a test is met
abbrev pub fault_if : {A : Type 0} → Bool → DirectoryFault → Result A DirectoryFault → Result A DirectoryFault
fault_if test fault answer = if test then Err fault else answer

-- ---- a provider's own fields

-- the receipt address
unfoldable pub receipts_in : ℕ → Data → Result Bytes DirectoryFault
receipts_in number provider = do
  text ← or_fault (BadField number field.MailReceipt) (text_at (codes "mailReceipt") provider)
  or_fault (BadAddress number 0) (address_in text)

-- the key of seals
unfoldable pub key_in : ℕ → Data → Result Bytes DirectoryFault
key_in number provider = do
  text ← or_fault (BadField number field.Key) (text_at (codes "key") provider)
  or_fault (BadKey number) (key_of text)

-- the rule of the zone
unfoldable pub rule_in : ℕ → Data → Result Bytes DirectoryFault
rule_in number provider = do
  rule ← or_fault (BadField number field.Zone) (rule_at provider)
  fault_if (is_none (read_whole rule)) (BadZone number) (Ok rule)

-- The fields of a provider, but for its accounts.
pub record Fields : Type 0 where
  pub name : Bytes
  pub receipts : Bytes
  pub domains : List Bytes
  pub key : Bytes
  pub rule : Bytes
  pub limit : ℕ

-- a provider's own fields, each by its type and form
unfoldable pub fields_of : ℕ → Data → Result Fields DirectoryFault
fields_of number provider = do
  name ← or_fault (BadField number field.Name) (name_at provider)
  receipts ← receipts_in number provider
  domains ← or_fault (BadField number field.ManagedDomains) (domains_at provider)
  key ← key_in number provider
  rule ← rule_in number provider
  limit ← or_fault (BadField number field.Limit) (limit_at provider)
  Ok (record { name = name; receipts = receipts; domains = domains; key = key; rule = rule; limit = limit })

-- ---- tests on a provider among those before it

-- an earlier provider has the name
abbrev pub is_named : Bytes → List Provider → Bool
is_named name earlier = list_any (λ (provider : Provider). bytes_eq name provider.name) earlier

-- all domains of these providers
abbrev pub domains_of : List Provider → List Bytes
domains_of providers = flat_map (λ (provider : Provider). provider.domains) providers

-- one of these texts is this one
abbrev pub is_among : Bytes → List Bytes → Bool
is_among text texts = list_any (λ other. bytes_eq text other) texts

-- one of these texts stands among those before it
abbrev pub stands_twice : List Bytes → List Bytes → Bool
stands_twice before [] = false
stands_twice before (text ∷ texts) = is_among text before || stands_twice (before ++ text ∷ []) texts

-- the address is in none of these domains
abbrev pub is_outside : List Bytes → Bytes → Bool
is_outside domains address = not (is_among (domain_of address) domains)

-- ---- accounts

-- one of these accounts has the address
abbrev pub is_address_of : Bytes → List Account → Bool
is_address_of address accounts = list_any (λ (account : Account). bytes_eq address account.address) accounts

-- receipts of this provider or of an earlier one go to the address
abbrev pub takes_receipts : List Provider → Bytes → Bytes → Bool
takes_receipts earlier receipts address =
    bytes_eq address receipts || list_any (λ (provider : Provider). bytes_eq address provider.receipts) earlier

-- the address that providers write from, in whatever domain
abbrev pub is_service : Bytes → Bool
is_service address = bytes_eq (take (length (service_at [])) address) (service_at [])

-- an account may not have the address: one before it has it, receipts go to it, or providers write from it
abbrev pub is_taken : List Provider → Bytes → List Account → Bytes → Bool
is_taken earlier receipts before address =
    is_address_of address (accounts_of earlier ++ before)
    || (takes_receipts earlier receipts address || is_service address)

-- the greatest number of accounts of a directory
abbrev pub most_accounts : ℕ
most_accounts = 10000

-- an account at its place, behind these of its provider and all accounts of earlier providers
unfoldable pub account_in : List Provider → Fields → List Account → Data → Result Account DirectoryFault
account_in earlier fields before account = do
  text ← or_fault (BadField (length earlier) field.Address) (text_at (codes "address") account)
  quota ← or_fault (BadField (length earlier) field.Quota) (quota_at account)
  key ← or_fault (BadField (length earlier) field.Key) (key_at account)
  address ← or_fault (BadAddress (length earlier) (length before + 1)) (address_in text)
  fault_if (is_outside fields.domains address) (AccountOutside (length earlier) (length before + 1)) (
      fault_if (is_taken earlier fields.receipts before address) (AccountTwice (length earlier) (length before + 1)) (
      fault_if (nat_le most_accounts (length (accounts_of earlier) + length before)) TooMany (
      Ok (record { address = address; quota = quota; key = key }))))

-- the accounts that are left, behind these
abbrev pub accounts_from : List Provider → Fields → List Account → Items → Result (List Account) DirectoryFault
accounts_from earlier fields before no_items = Ok before
accounts_from earlier fields before (item account accounts) =
    account_in earlier fields before account >>= λ next. accounts_from earlier fields (before ++ next ∷ []) accounts

-- ---- providers

-- a provider's own fields and its accounts
abbrev pub with_accounts : Fields → List Account → Provider
with_accounts fields accounts =
    record {
      name = fields.name;
      receipts = fields.receipts;
      domains = fields.domains;
      key = fields.key;
      rule = fields.rule;
      limit = fields.limit;
      accounts = accounts;
    }

-- the tests on a provider behind those on its own fields
unfoldable pub settled : List Provider → Fields → Items → Result Provider DirectoryFault
settled earlier fields accounts =
    fault_if (is_named fields.name earlier) (NameTwice (length earlier)) (
    fault_if (stands_twice (domains_of earlier) fields.domains) (DomainTwice (length earlier)) (
    fault_if (is_outside fields.domains fields.receipts) (AccountOutside (length earlier) 0) (
    accounts_from earlier fields [] accounts >>= λ all. Ok (with_accounts fields all))))

-- a provider, behind these
unfoldable pub provider_in : List Provider → Data → Result Provider DirectoryFault
provider_in earlier provider = do
  fields ← fields_of (length earlier) provider
  accounts ← or_fault (BadField (length earlier) field.Account) (accounts_at provider)
  settled earlier fields accounts

-- the providers that are left, behind these
abbrev pub providers_from : List Provider → Items → Result (List Provider) DirectoryFault
providers_from earlier no_items = Ok earlier
providers_from earlier (item provider providers) =
    provider_in earlier provider >>= λ next. providers_from (earlier ++ next ∷ []) providers

-- ---- the whole

-- how many items there are
abbrev pub count_of : Items → ℕ
count_of no_items = 0
count_of (item value values) = count_of values + 1

-- the greatest number of providers
abbrev pub most_providers : ℕ
most_providers = 16

-- the tables of an array that has to be there
abbrev pub tables_in : Option Data → Option Items
tables_in None = None
tables_in (Some value) = tables_of value

-- the tables of the providers
unfoldable pub providers_in : Data → Option Items
providers_in whole = tables_in (get (codes "provider") whole)

-- What the table of a directory says. `provider` is an array of one table or more.
unfoldable pub directory_in : Data → Result (List Provider) DirectoryFault
directory_in whole = do
  providers ← or_fault NoProvider (providers_in whole)
  fault_if (count_of providers == 0) NoProvider (
      fault_if (nat_lt most_providers (count_of providers)) TooMany (
      providers_from [] providers))

-- a document's table
abbrev pub table_of : Option Members → Option Data
table_of None = None
table_of (Some members) = Some (table members)

-- the table that a text of TOML is
unfoldable pub document_of : Bytes → Option Data
document_of text = table_of (parse_document text)

-- what the text of a directory says, or the first fault of the walk
unfoldable pub directory_of : Bytes → Result (List Provider) DirectoryFault
directory_of text = do
  whole ← or_fault NotToml (document_of text)
  directory_in whole
