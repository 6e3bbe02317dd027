-- A small world, `small`: two providers, plain texts, and letters that can be told apart. It shows that there is a
-- world that meets all laws of `IsTrade`, and the examples are computed in it. An address is the number of its provider
-- and a name; names from 9 on are no accounts, and the name 2 has room for one item. A message is its sender's address
-- and its recipients, each a class (0 for primary), a provider and a name.
use Rattle.std.specs.Prelude.{ℕ, zero, suc, ◌==◌, nat_lt, nat_le, Bool, true, false, not, ◌&&◌, List, [], ◌∷◌, ◌++◌, length, take, drop, if◌then◌else◌, Option, Some, None, is_some}
use Rattle.std.specs.List.{list_any}
use Rattle.std.specs.Str.{bytes_eq}
use Rattle.pec_types.specs.Bytes.{Bytes, Path}
use Rattle.pec_types.specs.declared.messages.Cause.{Cause}
use Rattle.pec_types.specs.declared.messages.Cause.TheVariants as causes
use Rattle.pec_types.specs.declared.messages.Class.TheVariants.{Primary, Copy}
use Rattle.pec_types.specs.declared.messages.Facts.{Facts}
use Rattle.pec_types.specs.declared.messages.Recipient.{Recipient}
use Rattle.pec_types.specs.declared.messages.Refusal.TheVariants as refusals
use Rattle.pec_types.specs.declared.messages.Wish.TheVariants.{Full}
use Rattle.pec_types.specs.declared.receipts.Kind.{Kind}
use Rattle.pec_types.specs.declared.receipts.Kind.TheVariants as kinds
use Rattle.pec_ledger.specs.Lookups.{addresses_of}
use Rattle.pec_ledger.specs.Pairs.{id_of}
use Rattle.pec_ledger.specs.Trade.{Framed, Seen, SeenEnvelope, SeenReceipt, Trade}

-- ---- addresses

-- the address of a name at a provider; both are numbers, from 0
abbrev pub address : ℕ → ℕ → Bytes
address provider name = provider ∷ name ∷ []

-- the provider of an address, where it is one of the two
abbrev pub home_in : Bytes → Option ℕ
home_in [] = None
home_in (provider ∷ name) = if nat_lt provider 2 then Some provider else None

-- the address is an account of this provider
abbrev pub has_account : ℕ → Bytes → Bool
has_account number (provider ∷ name ∷ []) = (provider == number) && (nat_lt provider 2 && nat_lt name 9)
has_account number _ = false

-- how many envelopes and anomalies the mailbox of an account may hold
abbrev pub quota_in : Bytes → ℕ
quota_in (provider ∷ name ∷ []) = if name == 2 then 1 else 100
quota_in _ = 0

-- ---- messages

-- the recipients that follow the sender in a message
abbrev pub recipients_in : Bytes → List Recipient
recipients_in (class ∷ provider ∷ name ∷ rest) =
    record { address = address provider name; class = if class == 0 then Primary else Copy } ∷ recipients_in rest
recipients_in _ = []

-- no address stands twice in a path
abbrev pub all_differ : Path → Bool
all_differ [] = true
all_differ (one ∷ others) = not (list_any (bytes_eq one) others) && all_differ others

-- the facts of a message, unless some recipient stands twice in it
abbrev pub unless_twice : Bool → Facts → Option Facts
unless_twice true facts = Some facts
unless_twice false facts = None

-- what a message says of itself, by its sender and what follows
abbrev pub facts_from : Bytes → Bytes → Facts
facts_from sender rest = record {
  sender = sender;
  recipients = recipients_in rest;
  wish = Full;
  subject = None;
  reference = None;
  reply = sender;
}

-- the facts of a message: none where it has no sender, or a recipient stands twice
abbrev pub facts_in : Bytes → Option Facts
facts_in (provider ∷ name ∷ rest) =
    unless_twice (all_differ (addresses_of (facts_from (address provider name) rest))) (facts_from (address provider name) rest)
facts_in _ = None

-- the addresses of a message's recipients; no address where it has no facts
abbrev pub path_in : Option Facts → Path
path_in None = []
path_in (Some facts) = addresses_of facts

-- why a message isn't accepted: it has no facts, another sender, or more recipients than its path has addresses
abbrev pub cause_in : Option Facts → Bytes → Path → Option Cause
cause_in None sender path = Some causes.Head
cause_in (Some facts) sender path =
    if bytes_eq facts.sender sender then (if nat_le (length facts.recipients) (length path) then None else Some causes.ForwardPath)
    else Some causes.ReversePath

-- ---- receipts

-- the number by which a text says the kind of a receipt
abbrev pub kind_code : Kind → ℕ
kind_code kinds.Acceptance = 0
kind_code (kinds.NonAcceptance cause) = 1
kind_code kinds.Charge = 2
kind_code kinds.Delivery = 3
kind_code (kinds.DeliveryError refusals.NoMailbox) = 4
kind_code (kinds.DeliveryError refusals.MailboxFull) = 5
kind_code (kinds.DeliveryError refusals.Virus) = 6
kind_code kinds.Warning = 7
kind_code kinds.Notice = 8
kind_code kinds.LateNotice = 9
kind_code kinds.Ack = 10
kind_code kinds.VirusFound = 11

-- the kind for which a number stands
abbrev pub kind_at : ℕ → Kind
kind_at code =
    if code == 0 then kinds.Acceptance
    else (if code == 2 then kinds.Charge
    else (if code == 3 then kinds.Delivery
    else (if code == 4 then kinds.DeliveryError refusals.NoMailbox
    else (if code == 5 then kinds.DeliveryError refusals.MailboxFull
    else (if code == 6 then kinds.DeliveryError refusals.Virus
    else (if code == 7 then kinds.Warning
    else (if code == 8 then kinds.Notice
    else (if code == 9 then kinds.LateNotice
    else (if code == 10 then kinds.Ack
    else (if code == 11 then kinds.VirusFound else kinds.NonAcceptance causes.Head))))))))))

-- the end of a receipt's text, which names the recipient, if there is one
abbrev pub recipient_text : Option Bytes → Bytes
recipient_text None = []
recipient_text (Some recipient) = 0 ∷ recipient

-- the recipient that the end of a receipt's text names, if it names one
abbrev pub recipient_at : Bytes → Option Bytes
recipient_at [] = None
recipient_at (mark ∷ recipient) = Some recipient

-- ---- sealed texts: a number for what it is, and its fields

-- an envelope as it is read: the message's provider and number, the moment of acceptance, the original
abbrev pub envelope_in : Bytes → Option Seen
envelope_in (provider ∷ number ∷ moment ∷ original) =
    if nat_lt provider 2 then Some (SeenEnvelope (id_of provider number) moment original) else None
envelope_in _ = None

-- a receipt as it is read: its kind, the message's provider and number, the sealer, the moment, the recipient
abbrev pub receipt_in : Bytes → Option Seen
receipt_in (code ∷ provider ∷ number ∷ by ∷ moment ∷ recipient) = Some (SeenReceipt (record {
  kind = kind_at code;
  id = id_of provider number;
  by = by;
  moment = moment;
  recipient = recipient_at recipient;
}))
receipt_in _ = None

-- what is seen in a text: 1 stands for an envelope, 2 for a receipt, and all else is no letter
abbrev pub seen_in : Bytes → Option Seen
seen_in [] = None
seen_in (what ∷ rest) = if what == 1 then envelope_in rest else (if what == 2 then receipt_in rest else None)

-- ---- frames: how many addresses there are, each behind its length, and the message

-- the addresses of a path, each behind its length, before a message
abbrev pub path_before : Path → Bytes → Bytes
path_before [] message = message
path_before (one ∷ others) message = length one ∷ one ++ path_before others message

-- the frame of a message along a path of some addresses
abbrev pub frame_along : Path → Bytes → Option Bytes
frame_along [] message = None
frame_along (one ∷ others) message = Some (length (one ∷ others) ∷ path_before (one ∷ others) message)

-- an address before those of a frame
abbrev pub with_address : Bytes → Framed → Framed
with_address one framed = record { path = one ∷ framed.path; message = framed.message }

-- so many addresses, and what is behind them
abbrev pub framed_behind : ℕ → Bytes → Framed
framed_behind zero rest = record { path = []; message = rest }
framed_behind (suc more) [] = record { path = []; message = [] }
framed_behind (suc more) (size ∷ rest) = with_address (take size rest) (framed_behind more (drop size rest))

-- what stands in a frame: its path and its message
abbrev pub framed_in : Bytes → Option Framed
framed_in [] = None
framed_in (count ∷ rest) = Some (framed_behind count rest)

-- ---- the world

-- The small world: what each thing is there that the ledger asks of a world.
abbrev pub small : Trade
small = record {
  providers = 2;
  digest = [];
  home = home_in;
  is_account = has_account;
  quota = quota_in;
  receipts = λ provider. address provider 99;
  facts = facts_in;
  envelope_recipients = λ message. path_in (facts_in (drop 4 message));
  cause = λ provider sender path message. cause_in (facts_in message) sender path;
  unframed = framed_in;
  framed = frame_along;
  opens = λ message. is_some (seen_in message);
  view = seen_in;
  envelope_text = λ id moment original. 1 ∷ id.provider ∷ id.number ∷ moment ∷ original;
  receipt_text = λ receipt original.
      2 ∷ kind_code receipt.kind ∷ receipt.id.provider ∷ receipt.id.number ∷ receipt.by ∷ receipt.moment
      ∷ recipient_text receipt.recipient;
  refusal_text = λ id moment sender cause path message. 3 ∷ id.provider ∷ id.number ∷ moment ∷ message;
  anomaly_text = λ provider entry moment message. 4 ∷ provider ∷ entry ∷ moment ∷ message;
}
