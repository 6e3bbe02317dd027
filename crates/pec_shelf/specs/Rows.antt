-- What contracts see of the crate's own rows.
use Rattle.pec_ledger.specs.Half.{AnomalyItem, EnvelopeItem, Item, ReceiptItem}
use Rattle.pec_shelf.specs.declared.rows.Placed.{Placed}
use Rattle.pec_shelf.specs.declared.rows.Placed.TheVariants as placed

-- an item of a mailbox
abbrev pub item_shown : Placed → Item
item_shown (placed.Envelope id) = EnvelopeItem id
item_shown (placed.Receipt kind id recipient moment) = ReceiptItem kind id recipient moment
item_shown (placed.Anomaly moment) = AnomalyItem moment
