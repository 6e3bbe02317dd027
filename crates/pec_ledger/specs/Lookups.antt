-- What a half says of a message, an id, a pair or an account: look-ups on its lists. RFC 6109, sections 3.1 to 3.4,
-- within this project's profile.
use Rattle.std.specs.Prelude.{◌≡◌, ℕ, ◌==◌, nat_lt, Bool, true, false, ◌&&◌, List, [], map, filter, Contains, slice_get, Option, Some, None, IsSome, is_some, unwrap_or}
use Rattle.std.specs.List.{find}
use Rattle.std.specs.Option.{option_and_then, option_map}
use Rattle.std.specs.Str.{bytes_eq}
use Rattle.pec_types.specs.Bytes.{Bytes, Path}
use Rattle.pec_types.specs.Message.{Id}
use Rattle.pec_types.specs.declared.limits.Due.{Due}
use Rattle.pec_types.specs.declared.limits.Due.TheVariants as dues
use Rattle.pec_types.specs.declared.messages.Decision.{Decision}
use Rattle.pec_types.specs.declared.messages.Decision.TheVariants.{Placed, Refused}
use Rattle.pec_types.specs.declared.messages.Facts.{Facts}
use Rattle.pec_types.specs.declared.messages.Recipient.{Recipient}
use Rattle.pec_types.specs.declared.receipts.Kind.{Kind}
use Rattle.pec_types.specs.declared.receipts.Kind.TheVariants as kinds
use Rattle.pec_types.specs.declared.messages.Refusal.TheVariants as refusals
use Rattle.pec_ledger.specs.Along.{times}
use Rattle.pec_ledger.specs.Boxes.{Boxes, boxes_of}
use Rattle.pec_ledger.specs.Half.{Half, Message, Charge, Mark, Known, Taken, Fate, Item, Move, Posted, EnvelopeItem, ReceiptItem, AnomalyItem}
use Rattle.pec_ledger.specs.Pairs.{Pair, same_id, same_pair}
use Rattle.pec_ledger.specs.Trade.{Trade}

-- ---- messages

-- An accepted message.
pub record Accepted : Type 0 where
  pub moment : ℕ
  pub sender : Bytes
  pub facts : Facts
  pub entry : ℕ

-- a submitted message as an accepted one, if it was accepted
abbrev pub accepted_of : Message → Option Accepted
accepted_of message =
    option_map (λ (facts : Facts). record { moment = message.moment; sender = message.sender; facts = facts; entry = message.entry }) message.facts

-- The accepted message of a number.
abbrev pub accepted_at : Half → ℕ → Option Accepted
accepted_at half number = option_and_then accepted_of (slice_get half.messages number)

-- the account that submitted the message of a number
abbrev pub submitter : Half → ℕ → Bytes
submitter half number = unwrap_or (option_map (λ (message : Message). message.sender) (slice_get half.messages number)) []

-- The addresses of a message's recipients, external ones too.
abbrev pub addresses_of : Facts → Path
addresses_of facts = map (λ (recipient : Recipient). recipient.address) facts.recipients

-- the provider where an address is at home, if there is one, is this one
abbrev pub is_home : ℕ → Option ℕ → Bool
is_home provider None = false
is_home provider (Some home) = provider == home

-- those of the addresses that are at home at a provider
abbrev pub at_home : Trade → ℕ → Path → Path
at_home trade provider addresses = filter (λ (address : Bytes). is_home provider (trade.home address)) addresses

-- those of the addresses that are certified
abbrev pub certified : Trade → Path → Path
certified trade addresses = filter (λ (address : Bytes). is_some (trade.home address)) addresses

-- This address is a certified recipient of the message: the two are a pair.
abbrev pub HasPair : Trade → Accepted → Bytes → Type 0
HasPair trade message recipient = Contains (addresses_of message.facts) recipient × IsSome (trade.home recipient)

-- The message has pairs at this provider.
abbrev pub HasPairsAt : Trade → Accepted → ℕ → Type 0
HasPairsAt trade message provider = (recipient : Bytes) × Contains (addresses_of message.facts) recipient × (trade.home recipient ≡ Some provider)

-- ---- rows

-- the charge of a message by a provider, if it came
abbrev pub charged_of : Half → Id → ℕ → Option Charge
charged_of half id by = find (λ (charge : Charge). same_id id charge.id && (by == charge.by)) half.charged

-- the outcome of a pair, if it was learned
abbrev pub known_of : Half → Pair → Option Known
known_of half pair = find (λ (known : Known). same_pair pair known.pair) half.known

-- the row of a message that was taken here, if it was
abbrev pub taken_of : Half → Id → Option Taken
taken_of half id = find (λ (taken : Taken). same_id id taken.id) half.taken

-- what was decided here on a pair, if it was
abbrev pub decided_of : Half → Pair → Option Fate
decided_of half pair = find (λ (fate : Fate). same_pair pair fate.pair) half.decided

-- the sender's provider said that the receipt on a pair has arrived
abbrev pub is_acked : Half → Pair → Bool
is_acked half pair = is_some (find (same_pair pair) half.acked)

-- the sender is told that nothing is known, in time or late
abbrev pub is_notice : Due → Bool
is_notice dues.Notice = true
is_notice dues.LateNotice = true
is_notice dues.Warning = false
is_notice dues.Nothing = false

-- the sender is told that nobody took charge
abbrev pub is_warning : Due → Bool
is_warning dues.Warning = true
is_warning dues.Notice = false
is_warning dues.LateNotice = false
is_warning dues.Nothing = false

-- the notice that the sender had of a pair, in time or late, if there was one
abbrev pub notice_of : Half → Pair → Option Mark
notice_of half pair = find (λ (mark : Mark). is_notice mark.due && same_pair pair mark.pair) half.marks

-- the warning that the sender had of a pair, if there was one
abbrev pub warning_of : Half → Pair → Option Mark
warning_of half pair = find (λ (mark : Mark). is_warning mark.due && same_pair pair mark.pair) half.marks

-- the charge of a message by the provider where a recipient is at home
abbrev pub charge_of : Trade → Half → Pair → Option Charge
charge_of trade half pair = option_and_then (charged_of half pair.id) (trade.home pair.recipient)

-- ---- mailboxes and archives

-- All items that were ever placed with an account, in order of placing.
abbrev pub ever_placed : Half → Bytes → List Posted
ever_placed half account = filter (λ (posted : Posted). bytes_eq account posted.account) half.items

-- the places of its mailbox from which items were moved, in the order of the moves
abbrev pub places_moved : Half → Bytes → List ℕ
places_moved half account =
    map (λ (move : Move). move.place) (filter (λ (move : Move). bytes_eq account move.account) half.moves)

-- The mailbox and the archive of an account.
abbrev pub boxes : Half → Bytes → Boxes
boxes half account = boxes_of (ever_placed half account) (places_moved half account)

-- The items of an account's mailbox, in order of placing.
abbrev pub mailbox : Half → Bytes → List Posted
mailbox half account = (boxes half account).mailbox

-- The items of its archive, in the order in which they were moved there.
abbrev pub archive : Half → Bytes → List Posted
archive half account = (boxes half account).archive

-- envelopes and anomalies take room, receipts and notices don't
abbrev pub takes_room : Item → Bool
takes_room (EnvelopeItem id) = true
takes_room (AnomalyItem moment) = true
takes_room (ReceiptItem kind id recipient moment) = false

-- How many items of an account's mailbox take room.
abbrev pub counted : Half → Bytes → ℕ
counted half account = times (λ (posted : Posted). takes_room posted.item) (mailbox half account)

-- An account of the provider has room: fewer items take some than its quota allows.
abbrev pub has_room : Trade → ℕ → Half → Bytes → Bool
has_room trade provider half account = trade.is_account provider account && nat_lt (counted half account) (trade.quota account)

-- ---- receipts on a decision

-- the kind of the letter by which the recipient's provider tells a decision: that of a virus is for the sender's
-- provider
abbrev pub outcome_kind : Decision → Kind
outcome_kind Placed = kinds.Delivery
outcome_kind (Refused refusals.NoMailbox) = kinds.DeliveryError refusals.NoMailbox
outcome_kind (Refused refusals.MailboxFull) = kinds.DeliveryError refusals.MailboxFull
outcome_kind (Refused refusals.Virus) = kinds.VirusFound

-- the kind of the receipt on it that the sender gets
abbrev pub receipt_kind : Decision → Kind
receipt_kind Placed = kinds.Delivery
receipt_kind (Refused refusal) = kinds.DeliveryError refusal
