-- The text of a directory in LDIF (RFC 2849): `ldif_text`, at the end. It has a record for each provider, and behind it
-- one for each of its accounts. A value that may not stand plain is written in base64. This project's profile.
use Rattle.std.specs.Prelude.{ℕ, ◌+◌, Bool, ◌||◌, List, [], ◌∷◌, ◌++◌, codes, map, if◌then◌else◌}
use Rattle.std.specs.Fmt.{decimal}
use Rattle.std.specs.List.{flat_map}
use Rattle.base64.specs.Engines.{standard}
use Rattle.base64.specs.GeneralPurpose.{encode_of}
use Rattle.hex.specs.Hex.{encode_lower}
use Rattle.pec_types.specs.Bytes.{Bytes, colon, line_feed}
use Rattle.pec_directory.specs.Directory.{Account, Provider}
use Rattle.pec_ldif.specs.Attributes.{Attribute, less_than}
use Rattle.pec_ldif.specs.Lines.{begins_with}

-- an attribute by its name and its value
abbrev pub said : Bytes → Bytes → Attribute
said name value = record { name = name; value = value }

-- ---- records

-- `cn=P`, where providers count from 0
abbrev pub provider_dn : ℕ → Bytes
provider_dn number = codes "cn=" ++ decimal number

-- `cn=P.I`, where accounts count from 1
abbrev pub account_dn : ℕ → ℕ → Bytes
account_dn number at = (provider_dn number ++ codes ".") ++ decimal at

-- the record of an account
abbrev pub account_record : ℕ → ℕ → Account → List Attribute
account_record number at account =
    said (codes "dn") (account_dn number at)
    ∷ said (codes "objectClass") (codes "pecAccount")
    ∷ said (codes "pecAddress") account.address
    ∷ said (codes "pecQuota") (decimal account.quota)
    ∷ said (codes "pecKey") account.key
    ∷ []

-- those of accounts, of which the first is this one
abbrev pub account_records : ℕ → ℕ → List Account → List (List Attribute)
account_records number at [] = []
account_records number at (account ∷ accounts) =
    account_record number at account ∷ account_records number (at + 1) accounts

-- what stands in a provider's record before its domains
abbrev pub provider_front : ℕ → Provider → List Attribute
provider_front number provider =
    said (codes "dn") (provider_dn number)
    ∷ said (codes "objectClass") (codes "pecProvider")
    ∷ said (codes "pecName") provider.name
    ∷ said (codes "mailReceipt") provider.receipts
    ∷ []

-- and behind them
abbrev pub provider_back : Provider → List Attribute
provider_back provider =
    said (codes "pecKey") (encode_lower provider.key)
    ∷ said (codes "pecZone") provider.rule
    ∷ said (codes "pecLimit") (decimal provider.limit)
    ∷ []

-- the record of a provider
abbrev pub provider_record : ℕ → Provider → List Attribute
provider_record number provider =
    provider_front number provider
    ++ (map (λ domain. said (codes "managedDomains") domain) provider.domains ++ provider_back provider)

-- the records of a provider and of its accounts
abbrev pub provider_records : ℕ → Provider → List (List Attribute)
provider_records number provider = provider_record number provider ∷ account_records number 1 provider.accounts

-- those of providers, of which the first has this number
abbrev pub records_from : ℕ → List Provider → List (List Attribute)
records_from number [] = []
records_from number (provider ∷ providers) =
    provider_records number provider ++ records_from (number + 1) providers

-- ---- lines

-- the value may not stand plain
abbrev pub is_coded : Bytes → Bool
is_coded value = begins_with colon value || begins_with less_than value

-- what stands behind a name
abbrev pub value_said : Bytes → Bytes
value_said value = if is_coded value then codes ":: " ++ encode_of standard value else codes ": " ++ value

-- what the line of an attribute says
abbrev pub line_said : Attribute → Bytes
line_said attribute = attribute.name ++ value_said attribute.value

-- the line with its end
abbrev pub attribute_line : Attribute → Bytes
attribute_line attribute = line_said attribute ++ line_feed ∷ []

-- an empty line, and the lines of a record
abbrev pub record_text : List Attribute → Bytes
record_text attributes = line_feed ∷ flat_map attribute_line attributes

-- The text of a directory.
unfoldable pub ldif_text : List Provider → Bytes
ldif_text providers = codes "version: 1\n" ++ flat_map record_text (records_from 0 providers)
