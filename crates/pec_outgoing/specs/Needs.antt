-- Of which entry a letter is composed: its number, `needed`; and that an entry is what the letter is composed of:
-- `Serves`. RFC 6109, section 3, within this project's profile.
use Rattle.std.specs.Prelude.{◌≡◌, ℕ, ◌==◌, Bool, false, IsTrue, List, [], ◌∷◌, if◌then◌else◌, Option, Some, None}
use Rattle.std.specs.List.{list_any}
use Rattle.std.specs.Option.{option_and_then, option_map}
use Rattle.std.specs.Str.{bytes_eq}
use Rattle.pec_types.specs.Bytes.{Bytes}
use Rattle.pec_types.specs.Message.{Id}
use Rattle.pec_types.specs.declared.letters.Letter.{Letter}
use Rattle.pec_types.specs.declared.letters.Letter.TheVariants as letters
use Rattle.pec_types.specs.declared.messages.Decision.{Decision}
use Rattle.pec_types.specs.declared.messages.Facts.{Facts}
use Rattle.pec_types.specs.declared.messages.Recipient.{Recipient}
use Rattle.pec_types.specs.declared.receipts.Kind.{Kind}
use Rattle.pec_types.specs.declared.receipts.Kind.TheVariants as kinds
use Rattle.pec_records.specs.declared.entries.Entry.{Entry}
use Rattle.pec_ledger.specs.Half.{Fate, Half, Known, Taken}
use Rattle.pec_ledger.specs.Lookups.{Accepted, accepted_at, addresses_of, at_home, decided_of, known_of, outcome_kind, taken_of}
use Rattle.pec_ledger.specs.Pairs.{pair_of}
use Rattle.pec_ledger.specs.Trade.{Framed, Trade}
use Rattle.pec_plays.specs.Frames.{original_in, unless_empty, unless_nobody}
use Rattle.pec_plays.specs.Paths.{outcome_path}
use Rattle.pec_outgoing.specs.Entries.{accepted_in, took_in}

-- A letter for which a half has what it needs, with the rows of which it is composed beside an entry.
pub data Asked : Type 0 where
  EnvelopeAsked : (id : Id) (to : ℕ) (row : Accepted) → Asked
  ChargeAsked : (id : Id) (row : Taken) → Asked
  OutcomeAsked : (id : Id) (recipient : Bytes) (fate : Fate) (row : Taken) → Asked
  AckAsked : (id : Id) (recipient : Bytes) (known : Known) (row : Accepted) → Asked

module _ (me : ℕ) (half : Half) where
  -- what the half of this provider has for a letter
  abbrev pub asked_by : Letter → Option Asked
  asked_by (letters.Envelope id to) =
      if id.provider == me then option_map (EnvelopeAsked id to) (accepted_at half id.number) else None
  asked_by (letters.Charge id by) = if by == me then option_map (ChargeAsked id) (taken_of half id) else None
  asked_by (letters.Outcome id recipient) =
      option_and_then (λ (fate : Fate). option_map (OutcomeAsked id recipient fate) (taken_of half id))
      (decided_of half (pair_of id recipient))
  asked_by (letters.Ack id recipient) =
      if id.provider == me
      then option_and_then
      (λ (known : Known). option_map (AckAsked id recipient known) (accepted_at half id.number))
      (known_of half (pair_of id recipient))
      else None

-- the entry of an own message, or that by which a message was taken
abbrev pub number_of : Asked → ℕ
number_of (EnvelopeAsked id to row) = row.entry
number_of (ChargeAsked id row) = row.entry
number_of (OutcomeAsked id recipient fate row) = row.entry
number_of (AckAsked id recipient known row) = row.entry

-- The number of the entry of which a letter is composed: none where the half doesn't have what the letter needs.
unfoldable pub needed : ℕ → Half → Letter → Option ℕ
needed me half letter = option_map number_of (asked_by me half letter)

-- a text to an address, where there is one
abbrev pub to_one : Option Bytes → Bytes → Option Framed
to_one None text = None
to_one (Some address) text = unless_empty (address ∷ []) text

-- one of these recipients has this address
abbrev pub is_among : List Recipient → Bytes → Bool
is_among recipients address = list_any (λ (recipient : Recipient). bytes_eq address recipient.address) recipients

-- so it is in a message's facts, where it has some
abbrev pub is_named_in : Option Facts → Bytes → Bool
is_named_in None address = false
is_named_in (Some facts) address = is_among facts.recipients address

module _ (trade : Trade) where
  -- ---- what the entry has to hold

  -- a message that was accepted as this row says, with the facts of the row
  abbrev pub HoldsMessage : Accepted → Entry → Bytes → Type 0
  HoldsMessage row entry original =
      (accepted_in row.moment row.sender entry ≡ Some original) × (trade.facts original ≡ Some row.facts)

  -- the original in the envelope with which this message was taken, where it is seen as one of this message
  abbrev pub enveloped_in : Id → Entry → Option Bytes
  enveloped_in id entry =
      option_and_then (λ (envelope : Bytes). original_in id (trade.view envelope)) (took_in id entry)

  -- The entry holds the original of which the letter is composed. That of an outcome names the recipient.
  abbrev pub Holds : Asked → Entry → Bytes → Type 0
  Holds (EnvelopeAsked id to row) entry original = HoldsMessage row entry original
  Holds (ChargeAsked id row) entry original = enveloped_in id entry ≡ Some original
  Holds (OutcomeAsked id recipient fate row) entry original =
      (enveloped_in id entry ≡ Some original) × IsTrue (is_named_in (trade.facts original) recipient)
  Holds (AckAsked id recipient known row) entry original = HoldsMessage row entry original

  -- The entry is what this letter is composed of: an envelope and an acknowledgement of the entry by which the message
  -- was accepted, at the row's moment, from its sender and with its facts; a charge and an outcome of an entry by which
  -- this message was taken, with an envelope that is seen as one of it, and whose original names an outcome's recipient.
  pub record Serves (me : ℕ) (half : Half) (letter : Letter) (entry : Entry) : Type 0 where
    pub asked : Asked
    pub has : asked_by me half letter ≡ Some asked
    pub original : Bytes
    pub holds : Holds asked entry original

  -- ---- what is composed of it

  abbrev pub receipt_on : Kind → Id → ℕ → ℕ → Option Bytes → Bytes → Bytes
  receipt_on kind id by moment recipient original =
      trade.receipt_text (record { kind = kind; id = id; by = by; moment = moment; recipient = recipient }) original

  -- a text along the path of an outcome of a message, whose facts tell its sender
  abbrev pub along_outcome : Id → Decision → Option Facts → Bytes → Option Framed
  along_outcome id decision None text = None
  along_outcome id decision (Some facts) text = unless_empty (outcome_path trade id decision facts.sender) text

  abbrev pub composed_from : ℕ → Asked → Bytes → Option Framed
  composed_from me (EnvelopeAsked id to row) original =
      unless_nobody (at_home trade to (addresses_of row.facts)) (trade.envelope_text id row.moment original)
  composed_from me (ChargeAsked id row) original =
      unless_empty (trade.receipts id.provider ∷ []) (receipt_on kinds.Charge id me row.moment None original)
  composed_from me (OutcomeAsked id recipient fate row) original =
      along_outcome id fate.decision (trade.facts original)
      (receipt_on (outcome_kind fate.decision) id me fate.moment (Some recipient) original)
  composed_from me (AckAsked id recipient known row) original =
      to_one (option_map trade.receipts (trade.home recipient))
      (receipt_on kinds.Ack id me known.moment (Some recipient) original)

  -- what is composed of the original that an entry holds for a letter
  pub record ComposedOf (me : ℕ) (asked : Asked) (entry : Entry) (found : Option Framed) : Type 0 where
    pub original : Bytes
    pub holds : Holds asked entry original
    pub is : found ≡ composed_from me asked original

  -- The frame of a letter, if there is one, composed of this entry: the entry is what the letter is composed of, and what
  -- is composed of its original is framed along the letter's path.
  pub record FramedOf (me : ℕ) (half : Half) (letter : Letter) (entry : Entry) (found : Option Bytes) : Type 0 where
    pub asked : Asked
    pub has : asked_by me half letter ≡ Some asked
    pub original : Bytes
    pub holds : Holds asked entry original
    pub is : found ≡ option_and_then (λ (framed : Framed). trade.framed framed.path framed.message)
        (composed_from me asked original)
