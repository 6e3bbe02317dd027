-- The table of the records of a lawful directory says that directory.
use Rattle.std.proofs.Common.{◌≡◌, ℕ, zero, suc, pos, ◌+◌, ◌/◌, ◌%◌, ◌^◌, ◌<◌, ◌≤◌, Bool, true, false, not, ◌&&◌, cond, eqb, eqb-true, leb, le-leb, lt-ltb, ne_eqb, List, [], ◌∷◌, ◌++◌, codes, get_or, length, length-append, map, Option, None, Some, option_map, refl, sym, ◌∙◌, ap, arith, rules}
use Rattle.std.proofs.lemmas.Bool.{and_from, and_parts, eqb-false}
use Rattle.std.proofs.lemmas.Fmt.{decimal_nonempty, digits_decimal, digits_value-decimal, length-decimal-le}
use Rattle.std.proofs.lemmas.Str.Parse.{IsNumeralModel, numerals_by_fold}
use Rattle.std.specs.Char.{is_ascii_digit}
use Rattle.std.specs.Fmt.{decimal}
use Rattle.std.specs.List.{AllByRecursion, list_all}
use Rattle.std.specs.Result.{result_ok}
use Rattle.hex.proofs.HexLemmas.{decode_of-encode_lower, length-encode_with}
use Rattle.hex.specs.Hex.{IsBytes, decode_of, encode_lower, encode_with, lower_digits}
use Rattle.toml.specs.Data.{Data, Members, array, integer, member, no_members, string, table}
use Rattle.toml.specs.View.{items_of}
use Rattle.pec_types.specs.Address.{IsAddressFault, IsLowerAddress, IsReadAs}
use Rattle.pec_types.specs.AddressReading.{address_of, behind_sign, domain_of}
use Rattle.pec_types.specs.Answers.{TellsExactly}
use Rattle.pec_types.specs.Bytes.{Bytes}
use Rattle.pec_types.specs.Options.{◌>>=◌}
use Rattle.pec_words.specs.Numbers.{below, digits_number, is_digits, worth_behind}
use Rattle.pec_directory.specs.Directory.{Account, Provider}
use Rattle.pec_directory.specs.Fields.{accounts_at, address_at, address_in, are_tables, domain_in, domain_of_item, domains_at, domains_of, greatest_limit, greatest_quota, is_hex, is_hex_byte, key_at, key_of, limit_at, name_at, number_of, quota_at, receipts_at, rule_at, seal_key_at, service_at, tables_of, text_at, where_true}
use Rattle.pec_directory.specs.Lawful.{AreNext, AreNextAccounts, IsLawful, IsNext, IsNextAccount, IsOwnDomain, provider_with}
use Rattle.pec_directory.specs.Tables.{IsOfTable, SayAccounts, SayProviders, SaysAccount, SaysFields, SaysProvider, fields_in}
use Rattle.pec_directory.specs.Walk.{providers_in}
use Rattle.pec_ldif.specs.Attributes.{Attribute}
use Rattle.pec_ldif.specs.Records.{Entry, has_name, is_provider, is_account}
use Rattle.pec_ldif.specs.Tables.{account_table, account_tables, first_value, front_fields, if_account, if_provider, number_in, number_or, own_fields, provider_table, provider_tables, put_array, put_field, short_number, table_of, values_named}
use Rattle.pec_ldif.specs.Writing.{account_record, account_records, provider_back, provider_record, records_from, said}

abbrev pub AddressesTold : Type 0
AddressesTold = (text : Bytes) → TellsExactly (IsReadAs text) (IsAddressFault text) (address_of text)

-- ---- numbers

own : IsNumeralModel (λ ds. list_all is_ascii_digit ds ≡ true) (worth_behind 0)
own = numerals_by_fold _ (search rules) worth_behind (search rules)

digits_again : (n : ℕ) → n < 2 ^ 64 → digits_number (decimal n) ≡ Some n
unfolding digits_number
digits_again n small =
    let some : eqb (length (decimal n)) 0 ≡ false = ne_eqb (length (decimal n)) 0 (λ e. (let h : ⊥ = omega (arith, decimal_nonempty n small) in h)) in
    let is : is_digits (decimal n) ≡ true = ap (λ x. not x && list_all is_ascii_digit (decimal n)) some ∙ digits_decimal own n small in
    ap (λ x. cond x (below (2 ^ 64) (worth_behind 0 (decimal n))) None) is
    ∙ (ap (below (2 ^ 64)) (digits_value-decimal own n small) ∙ ap (λ x. cond x (Some n) None) (lt-ltb n (2 ^ 64) small))

pub number_again : (n : ℕ) → n < 1000000000 → number_in (decimal n) ≡ integer (pos n)
unfolding short_number
number_again n small =
    let short : length (decimal n) ≤ 9 = length-decimal-le 9 n (omega arith) (omega (arith, small)) (omega (arith, small)) in
    ap (λ t. number_or (decimal n) (cond t (digits_number (decimal n)) None)) (le-leb (length (decimal n)) 9 short)
    ∙ ap (number_or (decimal n)) (digits_again n (omega (arith, small)))

-- ---- an account's table

abbrev account_data : Account → Data
account_data account = table (
    member (codes "address") (string account.address) (
    member (codes "key") (string account.key) (
    member (codes "quota") (integer (pos account.quota)) no_members)))

account_so : (number at : ℕ) (account : Account) → account.quota ≤ greatest_quota → account_table (account_record number at account) ≡ account_data account
unfolding account_table
account_so number at account small =
    ap (λ (quota : Data). table (member (codes "address") (string account.address) (member (codes "key") (string account.key) (member (codes "quota") quota no_members))))
    (number_again account.quota (omega (arith, small)))

-- ---- a provider's table

abbrev domain_said : Bytes → Attribute
domain_said domain = said (codes "managedDomains") domain

abbrev provider_data : Provider → List Data → Data
provider_data p accounts = table (
    member (codes "account") (array (items_of accounts)) (
    member (codes "key") (string (encode_lower p.key)) (
    member (codes "limit") (integer (pos p.limit)) (
    member (codes "mailReceipt") (string p.receipts) (
    member (codes "managedDomains") (array (items_of (map string p.domains))) (
    member (codes "name") (string p.name) (
    member (codes "zone") (string p.rule) no_members)))))))

first_behind : (name : Bytes) → has_name name (domain_said []) ≡ false → (domains : List Bytes) (back : List Attribute)
    → first_value name (map domain_said domains ++ back) ≡ first_value name back
first_behind name other [] back = refl
first_behind name other (domain ∷ domains) back =
    ap (λ t. cond t (Some domain) (first_value name (map domain_said domains ++ back))) other ∙ first_behind name other domains back

values_so : (domains : List Bytes) (back : List Attribute) → values_named (codes "managedDomains") back ≡ []
    → values_named (codes "managedDomains") (map domain_said domains ++ back) ≡ domains
values_so [] back none = none
values_so (domain ∷ domains) back none = ap (λ ds. domain ∷ ds) (values_so domains back none)

-- the fields of a provider's record, its values behind the domains left open
abbrev fields_by : Provider → Option Bytes → Option Bytes → Option Bytes → List Bytes → Members
fields_by p key zone limit domains =
    put_field (codes "limit") (option_map number_in limit) (
    put_field (codes "zone") (option_map string zone) (
    put_field (codes "key") (option_map string key) (
    put_array (codes "managedDomains") (map string domains) (
    put_field (codes "mailReceipt") (Some (string p.receipts)) (
    put_field (codes "name") (Some (string p.name)) no_members)))))

own_so : (number : ℕ) (p : Provider) → own_fields (provider_record number p) ≡ fields_by p (Some (encode_lower p.key)) (Some p.rule) (Some (decimal p.limit)) p.domains
unfolding own_fields front_fields
own_so number p =
    let back = map domain_said p.domains ++ provider_back p in
    ap (λ key. fields_by p key (first_value (codes "pecZone") back) (first_value (codes "pecLimit") back) (values_named (codes "managedDomains") back))
    (first_behind (codes "pecKey") refl p.domains (provider_back p))
    ∙ ap (λ zone. fields_by p (Some (encode_lower p.key)) zone (first_value (codes "pecLimit") back) (values_named (codes "managedDomains") back))
    (first_behind (codes "pecZone") refl p.domains (provider_back p))
    ∙ ap (λ limit. fields_by p (Some (encode_lower p.key)) (Some p.rule) limit (values_named (codes "managedDomains") back))
    (first_behind (codes "pecLimit") refl p.domains (provider_back p))
    ∙ ap (λ domains. fields_by p (Some (encode_lower p.key)) (Some p.rule) (Some (decimal p.limit)) domains) (values_so p.domains (provider_back p) refl)

provider_so : (number : ℕ) (p : Provider) (accounts : List Data) → p.limit ≤ greatest_limit
    → provider_table (provider_record number p) accounts ≡ provider_data p accounts
unfolding provider_table
provider_so number p accounts small =
    ap (λ fields. table (put_array (codes "account") accounts fields)) (own_so number p)
    ∙ ap (λ (limit : Data). table (
    member (codes "account") (array (items_of accounts)) (
    member (codes "key") (string (encode_lower p.key)) (
    member (codes "limit") limit (
    member (codes "mailReceipt") (string p.receipts) (
    member (codes "managedDomains") (array (items_of (map string p.domains))) (
    member (codes "name") (string p.name) (
    member (codes "zone") (string p.rule) no_members))))))))
    (number_again p.limit (omega (arith, small)))

-- ---- all tables

abbrev attributes_of : List Entry → List (List Attribute)
attributes_of entries = map (λ (entry : Entry). entry.attributes) entries

abbrev whole_data : Provider → Data
whole_data p = provider_data p (map account_data p.accounts)

-- numbers of accounts are small enough to be read
abbrev AreSmall : List Account → Type 0
AreSmall accounts = AllByRecursion (λ (account : Account). account.quota ≤ greatest_quota) accounts

abbrev AllSmall : List Provider → Type 0
AllSmall providers = AllByRecursion (λ (p : Provider). (p.limit ≤ greatest_limit) × AreSmall p.accounts) providers

-- records of accounts, before those of providers
abbrev Tables : List Entry → List Account → List Provider → Type 0
Tables entries accounts providers = (account_tables entries ≡ map account_data accounts) × (provider_tables entries ≡ map whole_data providers)

at_account : (entry : Entry) (entries : List Entry) (number at : ℕ) (account : Account) (accounts : List Account) (providers : List Provider) → account.quota ≤ greatest_quota
    → entry.attributes ≡ account_record number at account → Tables entries accounts providers → Tables (entry ∷ entries) (account ∷ accounts) providers
unfolding is_provider is_account
at_account entry entries number at account accounts providers small is more = (
  ap (λ attributes. cond (is_provider (record { place = entry.place; attributes = attributes })) [] (if_account (record { place = entry.place; attributes = attributes }) ++ account_tables entries)) is
      ∙ ap (λ t. t ∷ account_tables entries) (account_so number at account small)
      ∙ ap (λ ts. account_data account ∷ ts) more.0,
  ap (λ attributes. if_provider (record { place = entry.place; attributes = attributes }) entries ++ provider_tables entries) is ∙ more.1,
)

at_provider : (entry : Entry) (entries : List Entry) (number : ℕ) (p : Provider) (providers : List Provider) → p.limit ≤ greatest_limit
    → entry.attributes ≡ provider_record number p → Tables entries p.accounts providers → Tables (entry ∷ entries) [] (p ∷ providers)
unfolding is_provider is_account
at_provider entry entries number p providers small is more = (
  ap (λ attributes. cond (is_provider (record { place = entry.place; attributes = attributes })) [] (if_account (record { place = entry.place; attributes = attributes }) ++ account_tables entries)) is,
  ap (λ attributes. if_provider (record { place = entry.place; attributes = attributes }) entries ++ provider_tables entries) is
      ∙ ap (λ accounts. provider_table (provider_record number p) accounts ∷ provider_tables entries) more.0
      ∙ ap (λ t. t ∷ provider_tables entries) (provider_so number p (map account_data p.accounts) small)
      ∙ ap (λ ts. whole_data p ∷ ts) more.1,
)

account_entries : (entries : List Entry) (number at : ℕ) (accounts : List Account) (providers : List Provider) (records : List (List Attribute)) → AreSmall accounts
    → ((others : List Entry) → attributes_of others ≡ records → Tables others [] providers)
    → attributes_of entries ≡ account_records number at accounts ++ records → Tables entries accounts providers
account_entries entries number at [] providers records small behind is = behind entries is
account_entries [] number at (account ∷ accounts) providers records small behind is = let no : ⊥ = cc in absurd no
account_entries (entry ∷ entries) number at (account ∷ accounts) providers records small behind is =
    let first : entry.attributes ≡ account_record number at account = cc in
    let rest : attributes_of entries ≡ account_records number (at + 1) accounts ++ records = cc in
    at_account entry entries number at account accounts providers small.0 first (account_entries entries number (at + 1) accounts providers records small.1 behind rest)

provider_entries : (entries : List Entry) (number : ℕ) (providers : List Provider) → AllSmall providers
    → attributes_of entries ≡ records_from number providers → Tables entries [] providers
provider_entries [] number [] all is = (refl, refl)
provider_entries [] number (p ∷ providers) all is = let no : ⊥ = cc in absurd no
provider_entries (entry ∷ entries) number [] all is = let no : ⊥ = cc in absurd no
provider_entries (entry ∷ entries) number (p ∷ providers) all is =
    let first : entry.attributes ≡ provider_record number p = cc in
    let rest : attributes_of entries ≡ account_records number 1 p.accounts ++ records_from (number + 1) providers = cc in
    at_provider entry entries number p providers all.0.0 first
    (account_entries entries number 1 p.accounts providers (records_from (number + 1) providers) all.0.1 (λ others same. provider_entries others (number + 1) providers all.1 same) rest)

-- ---- what the tables say

module _ (told : AddressesTold) where
  address_again : (address : Bytes) → IsLowerAddress address → address_in address ≡ Some address
  address_again address lower = ap result_ok (((told address).value address).1 (lower.address, sym lower.lower))

  domain_again : (domain : Bytes) → IsOwnDomain domain → domain_in domain ≡ Some domain
  unfolding domain_in domain_of
  domain_again domain is =
      ap (λ (found : Option Bytes). found >>= (λ address. Some (domain_of address))) (address_again (service_at domain) is)
      ∙ ap (λ t. Some (behind_sign (service_at domain) (cond t (Some 17) None)))
      (lt-ltb 17 (length (service_at domain)) (omega (arith, length-append (codes "posta-certificata@") domain)))

  domains_again : (domains : List Bytes) → AllByRecursion IsOwnDomain domains → domains_of (items_of (map string domains)) ≡ Some domains
  unfolding domain_of_item
  domains_again [] all = refl
  domains_again (domain ∷ domains) all = rw (domain_again domain all.0, domains_again domains all.1) refl

  says_account : (earlier : List Provider) (p : Provider) (account : Account) → IsNextAccount earlier p account → SaysAccount (account_data account) account
  unfolding address_at quota_at key_at text_at number_of
  says_account earlier p account next = record {
    address = address_again account.address next.address;
    quota =
        ap (λ t. cond t (Some account.quota) None)
        (and_from (leb 0 account.quota) (leb account.quota greatest_quota) (le-leb 0 account.quota (omega arith)) (le-leb account.quota greatest_quota next.quota));
    key = ap (λ t. where_true t (Some account.key)) next.key;
  }

  say_accounts : (earlier : List Provider) (p : Provider) (accounts : List Account) → AreNextAccounts earlier p accounts → SayAccounts (items_of (map account_data accounts)) accounts
  say_accounts earlier p [] next = tt
  say_accounts earlier p (account ∷ accounts) next =
      (says_account earlier p account next.0, say_accounts earlier (provider_with p (p.accounts ++ account ∷ [])) accounts next.1)

  accounts_are : (accounts : List Account) → are_tables (items_of (map account_data accounts)) ≡ true
  accounts_are [] = refl
  accounts_are (account ∷ accounts) = accounts_are accounts

  providers_are : (providers : List Provider) → are_tables (items_of (map whole_data providers)) ≡ true
  providers_are [] = refl
  providers_are (p ∷ providers) = providers_are providers

-- ---- keys

abbrev first_digits : ℕ → Bool
first_digits zero = true
first_digits (suc n) = is_hex_byte (get_or lower_digits n 0) && first_digits n

digits_below : (n : ℕ) → first_digits n ≡ true → (i : ℕ) → i < n → is_hex_byte (get_or lower_digits i 0) ≡ true
digits_below zero e i low = absurd (omega arith)
digits_below (suc n) e i low =
    let both = and_parts (is_hex_byte (get_or lower_digits n 0)) (first_digits n) e in
    by_place (eqb i n) refl both.0 (λ small. digits_below n both.1 i small)
  where
    by_place : (t : Bool) → eqb i n ≡ t → is_hex_byte (get_or lower_digits n 0) ≡ true
        → (i < n → is_hex_byte (get_or lower_digits i 0) ≡ true) → is_hex_byte (get_or lower_digits i 0) ≡ true
    by_place true same here rest = ap (λ k. is_hex_byte (get_or lower_digits k 0)) (eqb-true i n same) ∙ here
    by_place false other here rest = let apart = eqb-false i n other in rest (omega (arith, low, apart))

pub hex_digits : (key : Bytes) → IsBytes key → list_all is_hex_byte (encode_lower key) ≡ true
unfolding encode_with
hex_digits [] all = refl
hex_digits (b ∷ bs) all =
    let byte : b < 256 = all 0 in
    and_from (is_hex_byte (get_or lower_digits (b / 16) 0)) (is_hex_byte (get_or lower_digits (b % 16) 0) && list_all is_hex_byte (encode_lower bs))
    (digits_below 16 refl (b / 16) (omega (arith, byte)))
    (and_from (is_hex_byte (get_or lower_digits (b % 16) 0)) (list_all is_hex_byte (encode_lower bs)) (digits_below 16 refl (b % 16) (omega arith)) (hex_digits bs (λ i. all (suc i))))

key_again : (key : Bytes) → 16 ≤ length key → length key ≤ 64 → IsBytes key → key_of (encode_lower key) ≡ Some key
unfolding key_of is_hex
key_again key least most all =
    let long = length-encode_with lower_digits key in
    let sized : (leb 32 (length (encode_lower key)) && leb (length (encode_lower key)) 128) ≡ true =
    and_from (leb 32 (length (encode_lower key))) (leb (length (encode_lower key)) 128) (le-leb 32 (length (encode_lower key)) (omega (arith, long, least)))
    (le-leb (length (encode_lower key)) 128 (omega (arith, long, most))) in
    ap (λ t. where_true t (result_ok (decode_of (encode_lower key))))
    (and_from (list_all is_hex_byte (encode_lower key)) (leb 32 (length (encode_lower key)) && leb (length (encode_lower key)) 128) (hex_digits key all) sized)
    ∙ ap result_ok (decode_of-encode_lower key all)

-- ---- providers

module _ (told : AddressesTold) where
  says_fields : (earlier : List Provider) (p : Provider) (accounts : List Data) → IsNext earlier p → SaysFields (provider_data p accounts) (fields_in p)
  unfolding name_at receipts_at domains_at seal_key_at rule_at limit_at text_at number_of
  says_fields earlier p accounts next = record {
    name = ap (λ t. where_true t (Some p.name)) next.name;
    receipts = address_again told p.receipts next.receipts;
    domains = rw (domains_again told p.domains next.domains_are) (ap (λ t. where_true t (Some p.domains)) next.domains);
    key = key_again p.key next.key.0 next.key.1 next.key.2;
    rule = ap (λ t. where_true t (Some p.rule)) next.rule;
    limit = ap (λ t. cond t (Some p.limit) None) (and_from (leb 1 p.limit) (leb p.limit greatest_limit) (le-leb 1 p.limit next.limit.0) (le-leb p.limit greatest_limit next.limit.1));
  }

  says_provider : (earlier : List Provider) (p : Provider) → IsNext earlier p → SaysProvider (whole_data p) p
  unfolding accounts_at tables_of
  says_provider earlier p next = record {
    fields = says_fields earlier p (map account_data p.accounts) next;
    tables = items_of (map account_data p.accounts);
    are_tables = ap (λ t. where_true t (Some (items_of (map account_data p.accounts)))) (accounts_are told p.accounts);
    accounts = say_accounts told earlier (provider_with p []) p.accounts next.accounts;
  }

  say_providers : (earlier providers : List Provider) → AreNext earlier providers → SayProviders (items_of (map whole_data providers)) providers
  say_providers earlier [] next = tt
  say_providers earlier (p ∷ providers) next = (says_provider earlier p next.0, say_providers (earlier ++ p ∷ []) providers next.1)

  small_accounts : (earlier : List Provider) (p : Provider) (accounts : List Account) → AreNextAccounts earlier p accounts → AreSmall accounts
  small_accounts earlier p [] next = tt
  small_accounts earlier p (account ∷ accounts) next = (next.0.quota, small_accounts earlier (provider_with p (p.accounts ++ account ∷ [])) accounts next.1)

  all_small : (earlier providers : List Provider) → AreNext earlier providers → AllSmall providers
  all_small earlier [] next = tt
  all_small earlier (p ∷ providers) next =
      ((next.0.limit.1, small_accounts earlier (provider_with p []) p.accounts next.0.accounts), all_small (earlier ++ p ∷ []) providers next.1)

  -- The table of entries with these records is the directory.
  pub table_again : (entries : List Entry) (providers : List Provider) → IsLawful providers → attributes_of entries ≡ records_from 0 providers
      → IsOfTable (table_of entries) providers
  unfolding table_of providers_in tables_of
  table_again entries providers lawful is =
      let tables = (provider_entries entries 0 providers (all_small [] providers lawful.each) is).1 in
      record {
        tables = items_of (map whole_data providers);
        are_tables =
            ap (λ ts. where_true (are_tables (items_of ts)) (Some (items_of ts))) tables
            ∙ ap (λ t. where_true t (Some (items_of (map whole_data providers)))) (providers_are told providers);
        say = say_providers [] providers lawful.each;
        lawful = lawful;
      }
