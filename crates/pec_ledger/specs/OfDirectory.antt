-- What a directory and the heads of messages settle of a trade: `IsOf`. What is left of it, admission and the texts of
-- letters, takes more than a directory. RFC 6109, section 4.5, within this project's profile.
use Rattle.std.specs.Prelude.{◌≡◌, ℕ, List, [], ◌++◌, length, Option, unwrap_or, codes}
use Rattle.std.specs.Option.{option_and_then, option_map}
use Rattle.std.specs.Result.{result_ok}
use Rattle.pec_types.specs.Bytes.{Bytes, Path}
use Rattle.pec_types.specs.declared.messages.Facts.{Facts}
use Rattle.pec_heads.specs.FactsReading.{copies_of, facts_of, listed}
use Rattle.pec_heads.specs.HeadReading.{read_of}
use Rattle.pec_heads.specs.Heads.{NamedValue}
use Rattle.pec_directory.specs.Canonical.{digest_of}
use Rattle.pec_directory.specs.Directory.{Account, Kept, Provider, account_of, home_of, is_account_of, providers_of}
use Rattle.pec_ledger.specs.Trade.{Trade}

-- the fields of a message's head, where it has one
abbrev pub fields_of : Bytes → Option (List NamedValue)
fields_of message = option_map (λ read. read.0) (result_ok (read_of message))

-- The facts of a message, where it has a head that tells them.
unfoldable pub facts_in : Bytes → Option Facts
facts_in message = option_and_then facts_of (fields_of message)

-- the addresses of `To`, and then those of `Cc`
abbrev pub named_by : List NamedValue → Option Path
named_by fields = option_and_then (λ (to : Path). option_map (λ (copies : Path). to ++ copies) (copies_of fields)) (listed (codes "To") fields)

-- The addresses that the head of a sealed message names: no address where it has no head, or a field is no list.
unfoldable pub recipients_named : Bytes → Path
recipients_named message = unwrap_or (option_and_then named_by (fields_of message)) []

-- how many items an account may have; an address that is no account may have none
unfoldable pub quota_of : List Provider → Bytes → ℕ
quota_of providers address = unwrap_or (option_map (λ (account : Account). account.quota) (account_of providers address)) 0

-- The trade is one of this directory: it says of providers, addresses and heads what the directory and the heads say.
pub record IsOf (kept : List Kept) (trade : Trade) : Type 0 where
  pub providers : trade.providers ≡ length (providers_of kept)
  pub digest : trade.digest ≡ digest_of (providers_of kept)
  pub home : (address : Bytes) → trade.home address ≡ home_of (providers_of kept) address
  pub is_account : (provider : ℕ) (address : Bytes) → trade.is_account provider address ≡ is_account_of (providers_of kept) provider address
  pub quota : (address : Bytes) → trade.quota address ≡ quota_of (providers_of kept) address
  pub facts : (message : Bytes) → trade.facts message ≡ facts_in message
  pub envelope_recipients : (message : Bytes) → trade.envelope_recipients message ≡ recipients_named message
