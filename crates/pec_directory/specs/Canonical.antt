-- The canonical text of a directory, by which two directories are compared: a line for each thing that is said of a
-- provider. This project's profile; the digest is SHA-256 (FIPS 180-4).
use Rattle.std.specs.Prelude.{List, ◌++◌, codes}
use Rattle.std.specs.Fmt.{decimal}
use Rattle.std.specs.List.{flat_map}
use Rattle.hex.specs.Hex.{encode_lower}
use Rattle.sha2.specs.Sha256.{sha256}
use Rattle.pec_types.specs.Bytes.{Bytes}
use Rattle.pec_directory.specs.Directory.{Account, Provider}

-- `WORD VALUE` and LF
abbrev pub line_of : Bytes → Bytes → Bytes
line_of word value = ((word ++ codes " ") ++ value) ++ codes "\n"

-- `ADDRESS QUOTA KEY`
abbrev pub account_value : Account → Bytes
account_value account = (((account.address ++ codes " ") ++ decimal account.quota) ++ codes " ") ++ account.key

-- the line of an account
abbrev pub account_line : Account → Bytes
account_line account = line_of (codes "account") (account_value account)

-- the line of a domain
abbrev pub domain_line : Bytes → Bytes
domain_line domain = line_of (codes "domain") domain

-- a provider's lines in front of those of its domains
unfoldable pub front_of : Provider → Bytes
front_of provider = line_of (codes "provider") provider.name ++ line_of (codes "receipts") provider.receipts

-- its lines behind them, but for those of its accounts
unfoldable pub back_of : Provider → Bytes
back_of provider =
    (line_of (codes "key") (encode_lower provider.key) ++ line_of (codes "zone") provider.rule)
    ++ line_of (codes "limit") (decimal provider.limit)

-- all lines of a provider
unfoldable pub provider_text : Provider → Bytes
provider_text provider =
    ((front_of provider ++ flat_map domain_line provider.domains) ++ back_of provider)
    ++ flat_map account_line provider.accounts

-- The canonical text: the lines of all providers.
unfoldable pub canonical : List Provider → Bytes
canonical providers = flat_map provider_text providers

-- The digest of a directory: SHA-256 of its canonical text.
unfoldable pub digest_of : List Provider → Bytes
digest_of providers = sha256 (canonical providers)
