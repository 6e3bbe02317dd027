-- What an account is shown: its book (`book`), a line for each of its accepted messages and certified recipients, its
-- mailbox (`mailbox_lines`) and its archive (`archive_lines`). This project's profile.
use Rattle.std.specs.Prelude.{ℕ, ◌+◌, List, [], ◌∷◌, ◌++◌, map, filter, Option, Some, None, is_some, if◌then◌else◌}
use Rattle.std.specs.Option.{option_map}
use Rattle.std.specs.Str.{bytes_eq}
use Rattle.pec_types.specs.Bytes.{Bytes}
use Rattle.pec_types.specs.Message.{Id}
use Rattle.pec_types.specs.declared.mailboxes.ItemKind.TheVariants as item_kinds
use Rattle.pec_types.specs.declared.mailboxes.ItemLine.{ItemLine}
use Rattle.pec_types.specs.declared.messages.BookLine.{BookLine}
use Rattle.pec_types.specs.declared.messages.Decision.{Decision}
use Rattle.pec_types.specs.declared.messages.Recipient.{Recipient}
use Rattle.pec_ledger.specs.Half.{Charge, Half, Item, Known, Mark, Message, Posted, EnvelopeItem, ReceiptItem, AnomalyItem}
use Rattle.pec_ledger.specs.Lookups.{Accepted, accepted_of, archive, charge_of, known_of, mailbox, notice_of, warning_of}
use Rattle.pec_ledger.specs.Pairs.{id_of, pair_of}
use Rattle.pec_ledger.specs.Trade.{Trade}

-- ---- books

-- what the recipient's provider decided on a pair, and when
abbrev pub outcome_in : Known → Decision × ℕ
outcome_in known = (known.decision, known.decided)

-- What is known of a pair, in the words of its row: the moment of the charge by the recipient's provider, of a warning
-- and of a notice, and what was decided, and when.
abbrev pub line_of : Trade → Half → Id → Accepted → Recipient → BookLine
line_of trade half id message recipient = record {
  id = id;
  recipient = recipient.address;
  class = recipient.class;
  accepted = message.moment;
  charged = option_map (λ (charge : Charge). charge.moment) (charge_of trade half (pair_of id recipient.address));
  warned = option_map (λ (mark : Mark). mark.moment) (warning_of half (pair_of id recipient.address));
  noticed = option_map (λ (mark : Mark). mark.moment) (notice_of half (pair_of id recipient.address));
  outcome = option_map outcome_in (known_of half (pair_of id recipient.address));
}

-- the certified recipients of a message, in their order
abbrev pub certified_recipients : Trade → Accepted → List Recipient
certified_recipients trade message =
    filter (λ (recipient : Recipient). is_some (trade.home recipient.address)) message.facts.recipients

-- the lines of one message in an account's book: none where it was refused, or is another account's
abbrev pub lines_of : Trade → Half → Bytes → Id → Option Accepted → List BookLine
lines_of trade half account id None = []
lines_of trade half account id (Some message) =
    if bytes_eq message.sender account then map (line_of trade half id message) (certified_recipients trade message) else []

-- the lines of the messages that a provider numbered from here on
abbrev pub lines_from : Trade → ℕ → Half → Bytes → ℕ → List Message → List BookLine
lines_from trade provider half account number [] = []
lines_from trade provider half account number (message ∷ messages) =
    lines_of trade half account (id_of provider number) (accepted_of message)
    ++ lines_from trade provider half account (number + 1) messages

-- The book of a provider's account, in order of number and recipients.
unfoldable pub book : Trade → ℕ → Half → Bytes → List BookLine
book trade provider half account = lines_from trade provider half account 0 half.messages

-- ---- mailboxes and archives

-- An item as a line: what it is, and the message and the recipient that it names.
abbrev pub item_line : Item → ItemLine
item_line (EnvelopeItem id) = record { kind = item_kinds.Envelope; id = Some id; recipient = None }
item_line (ReceiptItem kind id recipient moment) =
    record { kind = item_kinds.Receipt kind; id = Some id; recipient = recipient }
item_line (AnomalyItem moment) = record { kind = item_kinds.Anomaly; id = None; recipient = None }

-- The lines of an account's mailbox, in order of placing.
unfoldable pub mailbox_lines : Half → Bytes → List ItemLine
mailbox_lines half account = map (λ (posted : Posted). item_line posted.item) (mailbox half account)

-- The lines of its archive, in the order in which the items were moved there.
unfoldable pub archive_lines : Half → Bytes → List ItemLine
archive_lines half account = map (λ (posted : Posted). item_line posted.item) (archive half account)
