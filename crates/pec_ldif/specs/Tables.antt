-- The table of the records of a text, of the form that directories have (docs/formats.md): `table_of`, at the end. Each
-- field is the first value of its name, and the domains are all values of theirs, in order. A record that is a provider
-- begins a table, and each account belongs to the last provider before it. This project's profile.
use Rattle.std.specs.Prelude.{ℕ, nat_le, pos, List, [], ◌∷◌, ◌++◌, length, codes, map, option_map, Option, Some, None, if◌then◌else◌}
use Rattle.std.specs.Cmp.Lexicographic.{slice_cmp}
use Rattle.std.specs.Ordering.{match_ordering, nat_cmp}
use Rattle.toml.specs.Data.{Data, Members, array, integer, member, no_members, string, table}
use Rattle.toml.specs.View.{items_of}
use Rattle.pec_types.specs.Bytes.{Bytes}
use Rattle.pec_words.specs.Numbers.{digits_number}
use Rattle.pec_ldif.specs.Attributes.{Attribute}
use Rattle.pec_ldif.specs.Records.{Entry, has_name, is_account, is_provider}

-- ---- the values of a name

-- the first of them
abbrev pub first_value : Bytes → List Attribute → Option Bytes
first_value name [] = None
first_value name (attribute ∷ attributes) =
    if has_name name attribute then Some attribute.value else first_value name attributes

-- the value, where the attribute has this name
abbrev pub value_named : Bytes → Attribute → List Bytes
value_named name attribute = if has_name name attribute then attribute.value ∷ [] else []

-- all of them, in their order
abbrev pub values_named : Bytes → List Attribute → List Bytes
values_named name [] = []
values_named name (attribute ∷ attributes) = value_named name attribute ++ values_named name attributes

-- ---- numbers

-- the most digits that are a number
abbrev pub most_digits : ℕ
most_digits = 9

abbrev pub number_or : Bytes → Option ℕ → Data
number_or text None = string text
number_or text (Some number) = integer (pos number)

-- the number that 1 to 9 digits are, with zeros in front or without
unfoldable pub short_number : Bytes → Option ℕ
short_number text = if nat_le (length text) most_digits then digits_number text else None

-- such digits are a number, and anything else is a text
abbrev pub number_in : Bytes → Data
number_in text = number_or text (short_number text)

-- ---- tables

-- a member at its place in the order of keys, or in the place of the one that has its key
abbrev pub put_member : Bytes → Data → Members → Members
put_member key value no_members = member key value no_members
put_member key value (member other old members) =
    match_ordering (slice_cmp nat_cmp key other) (member key value (member other old members))
    (member other value members) (member other old (put_member key value members))

-- a field, where it has a value
abbrev pub put_field : Bytes → Option Data → Members → Members
put_field key None members = members
put_field key (Some value) members = put_member key value members

-- a field that is the first value of a name
abbrev pub put_text : Bytes → Bytes → List Attribute → Members → Members
put_text key name attributes members = put_field key (option_map string (first_value name attributes)) members

-- the same of a number
abbrev pub put_number : Bytes → Bytes → List Attribute → Members → Members
put_number key name attributes members = put_field key (option_map number_in (first_value name attributes)) members

-- a field that is an array
abbrev pub put_array : Bytes → List Data → Members → Members
put_array key values members = put_member key (array (items_of values)) members

-- ---- accounts

-- the table of an account
unfoldable pub account_table : List Attribute → Data
account_table attributes = table (
    put_text (codes "key") (codes "pecKey") attributes (
    put_number (codes "quota") (codes "pecQuota") attributes (
    put_text (codes "address") (codes "pecAddress") attributes no_members)))

-- that of a record, where it is an account
abbrev pub if_account : Entry → List Data
if_account entry = if is_account entry then account_table entry.attributes ∷ [] else []

-- those of the accounts before the next provider
abbrev pub account_tables : List Entry → List Data
account_tables [] = []
account_tables (entry ∷ entries) = if is_provider entry then [] else if_account entry ++ account_tables entries

-- ---- providers

-- a provider's own fields, up to its domains
unfoldable pub front_fields : List Attribute → Members
front_fields attributes =
    put_array (codes "managedDomains") (map string (values_named (codes "managedDomains") attributes)) (
    put_text (codes "mailReceipt") (codes "mailReceipt") attributes (
    put_text (codes "name") (codes "pecName") attributes no_members))

-- and those behind them
unfoldable pub own_fields : List Attribute → Members
own_fields attributes =
    put_number (codes "limit") (codes "pecLimit") attributes (
    put_text (codes "zone") (codes "pecZone") attributes (
    put_text (codes "key") (codes "pecKey") attributes (front_fields attributes)))

-- the table of a provider, with the tables of its accounts
unfoldable pub provider_table : List Attribute → List Data → Data
provider_table attributes accounts = table (put_array (codes "account") accounts (own_fields attributes))

-- that of a record before others, where it is a provider
abbrev pub if_provider : Entry → List Entry → List Data
if_provider entry entries =
    if is_provider entry then provider_table entry.attributes (account_tables entries) ∷ [] else []

-- those of all providers
abbrev pub provider_tables : List Entry → List Data
provider_tables [] = []
provider_tables (entry ∷ entries) = if_provider entry entries ++ provider_tables entries

-- The table of these records: their providers, each with its accounts.
unfoldable pub table_of : List Entry → Data
table_of entries = table (put_array (codes "provider") (provider_tables entries) no_members)
