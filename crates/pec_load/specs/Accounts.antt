-- Where a load is played: two providers, `alfa` with the accounts `u0` to `u9`, and `beta` with `v0` to `v6`, each with room
-- for 1,000,000 messages and its local part as its key. `load_directory` is the text of this directory, and
-- `load_providers` what it says. This project's profile.
use Rattle.std.specs.Prelude.{ℕ, List, [], ◌∷◌, ◌++◌, codes, map}
use Rattle.std.specs.Fmt.{decimal}
use Rattle.std.specs.List.{flat_map, range_with_len}
use Rattle.pec_types.specs.Bytes.{Bytes}
use Rattle.pec_directory.specs.Directory.{Account, Provider}
use Rattle.pec_directory.specs.Fields.{greatest_limit, greatest_quota}

-- ---- accounts

-- the letter that local parts begin with at alfa
abbrev pub letter_u : ℕ
letter_u = 117

-- and at beta
abbrev pub letter_v : ℕ
letter_v = 118

-- how many accounts alfa has
abbrev pub senders : ℕ
senders = 10

-- and beta
abbrev pub recipients : ℕ
recipients = 7

-- a local part: a letter, and the account's number at its provider, from 0
abbrev pub local_at : ℕ → ℕ → Bytes
local_at letter number = letter ∷ decimal number

-- the domain of the provider of a name
abbrev pub domain_at : Bytes → Bytes
domain_at name = name ++ codes ".example"

-- an address there
abbrev pub address_at : Bytes → Bytes → Bytes
address_at name local = local ++ codes "@" ++ domain_at name

-- ---- what is said

-- the account of a local part, at the provider of a name
abbrev pub account_at : Bytes → Bytes → Account
account_at name local = record { address = address_at name local; quota = greatest_quota; key = local }

-- accounts, by the letter of their local parts
abbrev pub accounts_at : Bytes → ℕ → ℕ → List Account
accounts_at name letter count = map (λ number. account_at name (local_at letter number)) (range_with_len 0 count)

-- the rule of the zone of both, central European time
abbrev pub zone_rule : Bytes
zone_rule = codes "CET-1CEST,M3.5.0,M10.5.0/3"

-- the key of a provider's seals: sixteen bytes that follow each other, from this one on
abbrev pub key_from : ℕ → Bytes
key_from first = range_with_len first 16

-- a provider by its name, the first byte of its key, and its accounts
abbrev pub provider_at : Bytes → ℕ → List Account → Provider
provider_at name first accounts = record {
  name = name;
  receipts = address_at name (codes "ricevute");
  domains = domain_at name ∷ [];
  key = key_from first;
  rule = zone_rule;
  limit = greatest_limit;
  accounts = accounts;
}

-- The providers of a load.
abbrev pub load_providers : List Provider
load_providers =
    provider_at (codes "alfa") 0 (accounts_at (codes "alfa") letter_u senders)
    ∷ provider_at (codes "beta") 16 (accounts_at (codes "beta") letter_v recipients) ∷ []

-- ---- the text

-- a provider's fields but for its accounts, with its key in hexadecimal
unfoldable pub provider_text : Bytes → Bytes → Bytes
provider_text name key =
    codes "[[provider]]\nname = \"" ++ name ++ codes "\"\nmailReceipt = \"ricevute@" ++ name
    ++ codes ".example\"\nmanagedDomains = [\"" ++ name ++ codes ".example\"]\nkey = \"" ++ key
    ++ codes "\"\nzone = \"CET-1CEST,M3.5.0,M10.5.0/3\"\n"

-- an account, by the letter and the number of its local part
unfoldable pub account_text : Bytes → Bytes → ℕ → Bytes
account_text name letter number =
    codes "[[provider.account]]\naddress = \"" ++ letter ++ decimal number ++ codes "@" ++ name
    ++ codes ".example\"\nquota = 1000000\nkey = \"" ++ letter ++ decimal number ++ codes "\"\n"

-- a provider and its accounts
abbrev pub part_text : Bytes → Bytes → Bytes → ℕ → Bytes
part_text name key letter count =
    provider_text name key ++ flat_map (account_text name letter) (range_with_len 0 count)

abbrev pub alfa_text : Bytes
alfa_text = part_text (codes "alfa") (codes "000102030405060708090a0b0c0d0e0f") (codes "u") senders

abbrev pub beta_text : Bytes
beta_text = part_text (codes "beta") (codes "101112131415161718191a1b1c1d1e1f") (codes "v") recipients

-- The text of the directory, in TOML.
unfoldable pub load_directory : Bytes
load_directory = alfa_text ++ beta_text
