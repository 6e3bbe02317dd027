-- Which fault a text has that is no directory: of the tests on its table, in their order, the first that is met. The
-- headline is `IsDirectoryFault`, at the end. Providers count from 0, accounts from 1; the number 0 stands for the
-- receipt address. This project's profile.
use Rattle.std.specs.Prelude.{◌≡◌, ◌⊎◌, ◌+◌, ◌==◌, Bool, true, false, nat_le, nat_lt, List, [], ◌∷◌, ◌++◌, length, codes, Option, Some, None, is_none}
use Rattle.jiff_tz.specs.PosixReader.{read_whole}
use Rattle.toml.specs.Data.{Data, Items, no_items, item}
use Rattle.pec_types.specs.Bytes.{Bytes}
use Rattle.pec_types.specs.Tables.{IsFirst, NoneApplies}
use Rattle.pec_directory.specs.Directory.{Account, Provider, accounts_of}
use Rattle.pec_directory.specs.Fields.{accounts_at, address_at, domains_at, key_at, limit_at, name_at, quota_at, receipts_at, rule_at, seal_key_at, text_at}
use Rattle.pec_directory.specs.Lawful.{IsNext, IsNextAccount}
use Rattle.pec_directory.specs.Tables.{SaysAccount, SaysFields, SaysProvider}
use Rattle.pec_directory.specs.Walk.{Fields, count_of, document_of, domains_of, is_named, is_outside, is_taken, most_accounts, most_providers, providers_in, stands_twice, with_accounts}
use Rattle.pec_directory.specs.declared.faults.DirectoryFault.{DirectoryFault}
use Rattle.pec_directory.specs.declared.faults.DirectoryFault.TheVariants.{NotToml, BadField, NameTwice, DomainTwice, BadAddress, AccountOutside, AccountTwice, BadKey, BadZone, TooMany, NoProvider}
use Rattle.pec_directory.specs.declared.faults.Field.TheVariants as field

-- a row of a table of tests: the test, and the fault where it is met
abbrev pub Row : Type 0
Row = Bool × DirectoryFault

-- its test is met
abbrev pub IsMet : Row → Type 0
IsMet row = row.0 ≡ true

-- The fault is that of the first row whose test is met.
abbrev pub IsFirstFault : List Row → DirectoryFault → Type 0
IsFirstFault rows fault = (row : Row) × IsFirst IsMet rows row × (row.1 ≡ fault)

-- no test of these rows is met
abbrev pub NoneMet : List Row → Type 0
NoneMet rows = NoneApplies IsMet rows

-- a test on what is there; nothing doesn't meet it
abbrev pub meets : {A : Type 0} → (A → Bool) → Option A → Bool
meets test None = false
meets test (Some x) = test x

-- ---- accounts

-- the tests on an account behind these of its provider and all accounts of earlier providers
abbrev pub account_rows : List Provider → Fields → List Account → Data → List Row
account_rows earlier fields before entry =
    let number = length earlier in
    let at = length before + 1 in
    (is_none (text_at (codes "address") entry), BadField number field.Address)
    ∷ (is_none (quota_at entry), BadField number field.Quota)
    ∷ (is_none (key_at entry), BadField number field.Key)
    ∷ (is_none (address_at entry), BadAddress number at)
    ∷ (meets (is_outside fields.domains) (address_at entry), AccountOutside number at)
    ∷ (meets (is_taken earlier fields.receipts before) (address_at entry), AccountTwice number at)
    ∷ (nat_le most_accounts (length (accounts_of earlier) + length before), TooMany)
    ∷ []

-- Of these tables of accounts one has the fault, and each before it says an account that stands rightly.
abbrev pub AccountsStop : List Provider → Fields → List Account → Items → DirectoryFault → Type 0
AccountsStop earlier fields before no_items fault = ⊥
AccountsStop earlier fields before (item entry tables) fault =
    IsFirstFault (account_rows earlier fields before entry) fault
    ⊎ ((account : Account)
    × (SaysAccount entry account × IsNextAccount earlier (with_accounts fields before) account)
    × AccountsStop earlier fields (before ++ account ∷ []) tables fault)

-- ---- providers

-- the tests on a provider behind these, but for those on its accounts
abbrev pub provider_rows : List Provider → Data → List Row
provider_rows earlier entry =
    let number = length earlier in
    (is_none (name_at entry), BadField number field.Name)
    ∷ (is_none (text_at (codes "mailReceipt") entry), BadField number field.MailReceipt)
    ∷ (is_none (receipts_at entry), BadAddress number 0)
    ∷ (is_none (domains_at entry), BadField number field.ManagedDomains)
    ∷ (is_none (text_at (codes "key") entry), BadField number field.Key)
    ∷ (is_none (seal_key_at entry), BadKey number)
    ∷ (is_none (rule_at entry), BadField number field.Zone)
    ∷ (meets (λ rule. is_none (read_whole rule)) (rule_at entry), BadZone number)
    ∷ (is_none (limit_at entry), BadField number field.Limit)
    ∷ (is_none (accounts_at entry), BadField number field.Account)
    ∷ (meets (λ name. is_named name earlier) (name_at entry), NameTwice number)
    ∷ (meets (λ domains. stands_twice (domains_of earlier) domains) (domains_at entry), DomainTwice number)
    ∷ (meets (λ domains. meets (is_outside domains) (receipts_at entry)) (domains_at entry), AccountOutside number 0)
    ∷ []

-- The fault of a provider's table: that of the first test that is met, or where none is, of one of its accounts.
abbrev pub IsProviderFault : List Provider → Data → DirectoryFault → Type 0
IsProviderFault earlier entry fault =
    IsFirstFault (provider_rows earlier entry) fault
    ⊎ (NoneMet (provider_rows earlier entry)
    × ((fields : Fields) × (tables : Items) × SaysFields entry fields × (accounts_at entry ≡ Some tables)
    × AccountsStop earlier fields [] tables fault))

-- Of these tables of providers one has the fault, and each before it says a provider that stands rightly.
abbrev pub ProvidersStop : List Provider → Items → DirectoryFault → Type 0
ProvidersStop earlier no_items fault = ⊥
ProvidersStop earlier (item entry tables) fault =
    IsProviderFault earlier entry fault
    ⊎ ((provider : Provider) × (SaysProvider entry provider × IsNext earlier provider)
    × ProvidersStop (earlier ++ provider ∷ []) tables fault)

-- ---- the whole

-- the tests on the whole table
abbrev pub whole_rows : Data → List Row
whole_rows whole =
    (is_none (providers_in whole), NoProvider)
    ∷ (meets (λ tables. count_of tables == 0) (providers_in whole), NoProvider)
    ∷ (meets (λ tables. nat_lt most_providers (count_of tables)) (providers_in whole), TooMany)
    ∷ []

-- The fault of a whole table: that of the first test that is met, or where none is, of one of its providers.
abbrev pub IsTableFault : Data → DirectoryFault → Type 0
IsTableFault whole fault =
    IsFirstFault (whole_rows whole) fault
    ⊎ (NoneMet (whole_rows whole)
    × ((tables : Items) × (providers_in whole ≡ Some tables) × ProvidersStop [] tables fault))

-- The fault of a text: it isn't TOML, or its table has the fault.
abbrev pub IsDirectoryFault : Bytes → DirectoryFault → Type 0
IsDirectoryFault text fault =
    ((document_of text ≡ None) × (fault ≡ NotToml))
    ⊎ ((whole : Data) × (document_of text ≡ Some whole) × IsTableFault whole fault)
