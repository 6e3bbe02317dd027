-- The fields of a provider and of an account in a TOML table, each by its type and its form: `name_at`, `receipts_at`,
-- `domains_at`, `seal_key_at`, `rule_at`, `limit_at` and `accounts_at`; `address_at`, `quota_at` and `key_at`. None
-- says that a field isn't right. This project's profile.
use Rattle.std.specs.Prelude.{ℕ, ℤ, pos, negsuc, Bool, true, false, ◌&&◌, ◌||◌, ◌==◌, nat_le, List, [], ◌∷◌, ◌++◌, length, codes, Option, Some, None, if◌then◌else◌, is_some, option_map}
use Rattle.std.specs.Char.{is_ascii_digit, is_ascii_lowercase}
use Rattle.std.specs.List.{list_all}
use Rattle.std.specs.Result.{result_ok}
use Rattle.hex.specs.Hex.{decode_of}
use Rattle.toml.specs.Data.{Data, Items, no_items, item, get, as_array, as_integer, as_str, as_table}
use Rattle.pec_types.specs.AddressReading.{address_of, domain_of}
use Rattle.pec_types.specs.Bytes.{Bytes, hyphen}
use Rattle.pec_types.specs.Options.{◌>>=◌}

-- what is there, where a test is met
abbrev pub where_true : {A : Type 0} → Bool → Option A → Option A
where_true test o = if test then o else None

-- how many bytes there are is within these bounds
abbrev pub has_length : ℕ → ℕ → Bytes → Bool
has_length least most text = nat_le least (length text) && nat_le (length text) most

-- the text in a field
unfoldable pub text_at : Bytes → Data → Option Bytes
text_at key whole = do
  value ← get key whole
  as_str value

-- ---- names

-- the greatest number of bytes of a name
abbrev pub longest_name : ℕ
longest_name = 32

-- a lower-case letter, a digit or a hyphen
abbrev pub is_name_byte : ℕ → Bool
is_name_byte b = (is_ascii_lowercase b || is_ascii_digit b) || (b == hyphen)

-- 1 to 32 of them
unfoldable pub is_name : Bytes → Bool
is_name text = list_all is_name_byte text && has_length 1 longest_name text

-- a provider's name
unfoldable pub name_at : Data → Option Bytes
name_at provider = do
  text ← text_at (codes "name") provider
  where_true (is_name text) (Some text)

-- ---- addresses

-- the address that a text is, in lower case
abbrev pub address_in : Bytes → Option Bytes
address_in text = result_ok (address_of text)

-- where receipts for a provider go
unfoldable pub receipts_at : Data → Option Bytes
receipts_at provider = do
  text ← text_at (codes "mailReceipt") provider
  address_in text

-- an account's address
unfoldable pub address_at : Data → Option Bytes
address_at account = do
  text ← text_at (codes "address") account
  address_in text

-- ---- domains

-- the address that the provider of a domain writes from
abbrev pub service_at : Bytes → Bytes
service_at domain = codes "posta-certificata@" ++ domain

-- A domain is what makes an address behind `posta-certificata@`, in lower case. So it has at most 236 bytes.
unfoldable pub domain_in : Bytes → Option Bytes
domain_in text = do
  address ← address_in (service_at text)
  Some (domain_of address)

-- the domain in an item of a list
unfoldable pub domain_of_item : Data → Option Bytes
domain_of_item value = do
  text ← as_str value
  domain_in text

-- all of them
abbrev pub domains_of : Items → Option (List Bytes)
domains_of no_items = Some []
domains_of (item value values) =
    domain_of_item value >>= λ domain. option_map (λ rest. domain ∷ rest) (domains_of values)

-- one text or more
abbrev pub is_some_list : List Bytes → Bool
is_some_list [] = false
is_some_list (first ∷ rest) = true

-- one or more domains
unfoldable pub domains_at : Data → Option (List Bytes)
domains_at provider = do
  list ← get (codes "managedDomains") provider
  items ← as_array list
  domains ← domains_of items
  where_true (is_some_list domains) (Some domains)

-- ---- keys of providers

-- the first letter that is a digit of hexadecimal
abbrev pub letter_a : ℕ
letter_a = 97

-- and the last one
abbrev pub letter_f : ℕ
letter_f = 102

-- a digit of hexadecimal, in lower case
abbrev pub is_hex_byte : ℕ → Bool
is_hex_byte b = is_ascii_digit b || (nat_le letter_a b && nat_le b letter_f)

-- the fewest digits of the key of seals
abbrev pub least_digits : ℕ
least_digits = 32

-- and the most
abbrev pub most_digits : ℕ
most_digits = 128

-- as many digits of hexadecimal as a key has
unfoldable pub is_hex : Bytes → Bool
is_hex text = list_all is_hex_byte text && has_length least_digits most_digits text

-- the bytes of 32 to 128 hexadecimal digits in lower case, of which there is an even number
unfoldable pub key_of : Bytes → Option Bytes
key_of text = where_true (is_hex text) (result_ok (decode_of text))

-- the key of a provider's seals
unfoldable pub seal_key_at : Data → Option Bytes
seal_key_at provider = do
  text ← text_at (codes "key") provider
  key_of text

-- ---- texts without spaces

-- the first byte of ASCII that shows
abbrev pub exclamation_mark : ℕ
exclamation_mark = 33

-- and the last one
abbrev pub tilde : ℕ
tilde = 126

-- a byte from 0x21 to 0x7e
abbrev pub is_visible_byte : ℕ → Bool
is_visible_byte b = nat_le exclamation_mark b && nat_le b tilde

-- 1 to so many of them
unfoldable pub is_visible : ℕ → Bytes → Bool
is_visible most text = list_all is_visible_byte text && has_length 1 most text

-- the greatest number of bytes of the rule of a zone
abbrev pub longest_rule : ℕ
longest_rule = 128

-- and of the key of an account
abbrev pub longest_key : ℕ
longest_key = 64

-- the rule of a zone: 1 to 128 bytes from 0x21 to 0x7e
unfoldable pub rule_at : Data → Option Bytes
rule_at provider = do
  text ← text_at (codes "zone") provider
  where_true (is_visible longest_rule text) (Some text)

-- the key of an account: 1 to 64 bytes from 0x21 to 0x7e
unfoldable pub key_at : Data → Option Bytes
key_at account = do
  text ← text_at (codes "key") account
  where_true (is_visible longest_key text) (Some text)

-- ---- numbers

-- a number within these bounds
abbrev pub number_in : ℕ → ℕ → ℤ → Option ℕ
number_in least most (pos n) = if nat_le least n && nat_le n most then Some n else None
number_in least most (negsuc n) = None

-- the number that a value is, within these bounds
unfoldable pub number_of : ℕ → ℕ → Data → Option ℕ
number_of least most value = do
  number ← as_integer value
  number_in least most number

-- the greatest size of a message times its recipients, where the directory doesn't say less: 30 MiB
abbrev pub greatest_limit : ℕ
greatest_limit = 31457280

-- what an absent limit stands for
abbrev pub limit_of : Option Data → Option ℕ
limit_of None = Some greatest_limit
limit_of (Some value) = number_of 1 greatest_limit value

-- a provider's limit, which may be absent
unfoldable pub limit_at : Data → Option ℕ
limit_at provider = limit_of (get (codes "limit") provider)

-- the greatest quota
abbrev pub greatest_quota : ℕ
greatest_quota = 1000000

-- an account's quota
unfoldable pub quota_at : Data → Option ℕ
quota_at account = do
  value ← get (codes "quota") account
  number_of 0 greatest_quota value

-- ---- lists of tables

-- each of them is a table
abbrev pub are_tables : Items → Bool
are_tables no_items = true
are_tables (item value values) = is_some (as_table value) && are_tables values

-- the tables of an array that holds nothing else
unfoldable pub tables_of : Data → Option Items
tables_of value = do
  items ← as_array value
  where_true (are_tables items) (Some items)

-- absent accounts are none
abbrev pub accounts_in : Option Data → Option Items
accounts_in None = Some no_items
accounts_in (Some value) = tables_of value

-- a provider's accounts, which may be absent
unfoldable pub accounts_at : Data → Option Items
accounts_at provider = accounts_in (get (codes "account") provider)
