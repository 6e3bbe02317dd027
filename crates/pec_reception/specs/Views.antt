-- What contracts see of the crate's own types: without where their bytes lie in memory.
use Rattle.std.specs.Prelude.{◌≤◌, length}
use Rattle.pec_records.specs.Entry.{longest_message, most_addresses}
use Rattle.pec_receipts.specs.declared.reading.ReceiptView.{ReceiptView}
use Rattle.pec_ledger.specs.Trade.{Framed, Receipt, Seen, SeenEnvelope, SeenReceipt}
use Rattle.pec_reception.specs.declared.framed.Framed as framed
use Rattle.pec_reception.specs.declared.sights.Sight.{Sight}
use Rattle.pec_reception.specs.declared.sights.Sight.TheVariants as sights

-- what stands in a frame
abbrev pub framed_shown : framed.Framed → Framed
framed_shown found = record { path = found.path.items; message = found.message.now }

-- what stands in a frame is within the program's limits
pub record IsWithin (framed : Framed) : Type 0 where
  pub path : length framed.path ≤ most_addresses
  pub message : length framed.message ≤ longest_message

-- a receipt, as the ledger has it
abbrev pub stated : ReceiptView → Receipt
stated view = record { kind = view.kind; id = view.id; by = view.by; moment = view.moment; recipient = view.recipient }

-- what is seen, as far as it is asked for: of an envelope the id
abbrev pub sight_of : Seen → Sight
sight_of (SeenEnvelope id moment original) = sights.Envelope id
sight_of (SeenReceipt receipt) = sights.Receipt (record {
  kind = receipt.kind;
  id = receipt.id;
  by = receipt.by;
  moment = receipt.moment;
  recipient = receipt.recipient;
})
