-- What a provider's texts are composed of: its half of the ledger and its entries, in the world of a directory and of
-- those who seal for its providers. RFC 6109, section 3, within this project's profile.
use Rattle.std.specs.Prelude.{◌≡◌, List}
use Rattle.pec_records.specs.declared.entries.Entry.{Entry}
use Rattle.pec_receipts.specs.declared.receipts.Receipt.{Receipt as Given}
use Rattle.pec_ledger.specs.Steps.{half}
use Rattle.pec_ledger.specs.Trade.{Receipt, Trade}
use Rattle.pec_shelf.specs.Seen.{IsFor, Seen}

-- The half of a shelf is what these entries of its provider come to, and the homes that it keeps are the world's.
pub record IsHalfOf (trade : Trade) (journal : List Entry) (shelf : Seen) : Type 0 where
  pub half_is : shelf.half ≡ half trade shelf.me journal
  pub homes : IsFor trade shelf

-- what a receipt states, apart from the facts of its message
abbrev pub stated : Given → Receipt
stated receipt = record {
  kind = receipt.kind;
  id = receipt.id;
  by = receipt.by;
  moment = receipt.moment;
  recipient = receipt.recipient;
}
