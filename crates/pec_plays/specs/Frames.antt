-- The frames that a provider puts: each due letter that it composes in its own name, from its own journal (`frame_of`).
-- RFC 6109, section 3, within this project's profile.
use Rattle.std.specs.Prelude.{◌≡◌, ℕ, ◌==◌, Contains, List, [], ◌∷◌, length, if◌then◌else◌, Option, Some, None}
use Rattle.std.specs.List.{filter_map}
use Rattle.std.specs.Option.{option_and_then}
use Rattle.pec_types.specs.Bytes.{Bytes, Path}
use Rattle.pec_types.specs.Message.{Id}
use Rattle.pec_types.specs.declared.letters.Letter.{Letter}
use Rattle.pec_types.specs.declared.letters.Letter.TheVariants as letters
use Rattle.pec_types.specs.declared.messages.Decision.{Decision}
use Rattle.pec_types.specs.declared.messages.Facts.{Facts}
use Rattle.pec_types.specs.declared.receipts.Kind.TheVariants as kinds
use Rattle.pec_records.specs.declared.entries.Entry.{Entry}
use Rattle.pec_ledger.specs.Due.{due_letters}
use Rattle.pec_ledger.specs.Half.{Fate, Half, Known, Taken}
use Rattle.pec_ledger.specs.Ledger.{body_at}
use Rattle.pec_ledger.specs.Lookups.{Accepted, accepted_at, addresses_of, at_home, decided_of, known_of, outcome_kind, taken_of}
use Rattle.pec_ledger.specs.Pairs.{pair_of, same_id}
use Rattle.pec_ledger.specs.Steps.{half}
use Rattle.pec_ledger.specs.Trade.{Framed, Seen, SeenEnvelope, SeenReceipt, Trade}
use Rattle.pec_plays.specs.Paths.{outcome_path}

-- a letter that can't be composed, of which the text is `[]`, isn't put
abbrev pub unless_empty : Path → Bytes → Option Framed
unless_empty path text = if length text == 0 then None else Some (record { path = path; message = text })

-- a letter for nobody isn't put
abbrev pub unless_nobody : Path → Bytes → Option Framed
unless_nobody [] text = None
unless_nobody (address ∷ path) text = unless_empty (address ∷ path) text

-- the original in an envelope of this message
abbrev pub original_in : Id → Option Seen → Option Bytes
original_in id None = None
original_in id (Some (SeenReceipt receipt)) = None
original_in id (Some (SeenEnvelope other moment original)) = if same_id id other then Some original else None

module _ (trade : Trade) (provider : ℕ) (journal : List Entry) where
  -- ---- envelopes

  -- the envelope of an accepted message for a provider, along the path of its recipients there
  abbrev pub envelope_of : Id → ℕ → Accepted → Option Framed
  envelope_of id to message =
      option_and_then
      (λ (original : Bytes).
      unless_nobody (at_home trade to (addresses_of message.facts)) (trade.envelope_text id message.moment original))
      (body_at journal message.entry)

  -- ---- receipts on what was taken: the original is the one in the envelope

  -- the original of a message that was taken here
  abbrev pub original_taken : Id → Taken → Option Bytes
  original_taken id row =
      option_and_then (λ (envelope : Bytes). original_in id (trade.view envelope)) (body_at journal row.entry)

  -- the receipt of taking charge of it, along the path of the receipt address of the sender's provider
  abbrev pub charge_of : Id → Taken → Option Framed
  charge_of id row =
      option_and_then
      (λ (original : Bytes).
      unless_empty (trade.receipts id.provider ∷ [])
      (trade.receipt_text
      (record {
        kind = kinds.Charge;
        id = id;
        by = provider;
        moment = row.moment;
        recipient = None;
      }) original))
      (original_taken id row)

  -- along the path of an outcome of the original, whose facts tell its sender
  abbrev pub to_addressee : Id → Decision → Bytes → Option Facts → Option Framed
  to_addressee id decision text None = None
  to_addressee id decision text (Some facts) = unless_empty (outcome_path trade id decision facts.sender) text

  -- the receipt of delivery, the notice of error or that of a virus on one of its recipients
  abbrev pub outcome_of : Id → Bytes → Fate → Taken → Option Framed
  outcome_of id recipient fate row =
      option_and_then
      (λ (original : Bytes).
      to_addressee id fate.decision
      (trade.receipt_text
      (record {
        kind = outcome_kind fate.decision;
        id = id;
        by = provider;
        moment = fate.moment;
        recipient = Some recipient;
      }) original)
      (trade.facts original))
      (original_taken id row)

  -- ---- acknowledgements

  -- along the path of the receipt address of the recipient's provider
  abbrev pub to_home : Bytes → Option ℕ → Option Framed
  to_home text None = None
  to_home text (Some home) = unless_empty (trade.receipts home ∷ []) text

  -- the acknowledgement of the outcome for one recipient of an accepted message
  abbrev pub ack_of : Id → Bytes → Known → Accepted → Option Framed
  ack_of id recipient known message =
      option_and_then
      (λ (original : Bytes).
      to_home
      (trade.receipt_text
      (record {
        kind = kinds.Ack;
        id = id;
        by = provider;
        moment = known.moment;
        recipient = Some recipient;
      }) original)
      (trade.home recipient))
      (body_at journal message.entry)

  -- ---- all letters

  -- The path and the text of a letter, where the provider, of which this is the half, has what it is composed of.
  abbrev pub composed_by : Half → Letter → Option Framed
  composed_by half (letters.Envelope id to) =
      if id.provider == provider then option_and_then (envelope_of id to) (accepted_at half id.number) else None
  composed_by half (letters.Charge id by) =
      if by == provider then option_and_then (charge_of id) (taken_of half id) else None
  composed_by half (letters.Outcome id recipient) =
      option_and_then (λ (fate : Fate). option_and_then (outcome_of id recipient fate) (taken_of half id))
      (decided_of half (pair_of id recipient))
  composed_by half (letters.Ack id recipient) =
      if id.provider == provider
      then option_and_then (λ (known : Known). option_and_then (ack_of id recipient known) (accepted_at half id.number))
      (known_of half (pair_of id recipient))
      else None

  -- The same, by the half to which the journal comes.
  abbrev pub composed : Letter → Option Framed
  composed letter = composed_by (half trade provider journal) letter

  -- The frame of a letter, unless it is too long.
  unfoldable pub frame_of : Letter → Option Bytes
  frame_of letter = option_and_then (λ (framed : Framed). trade.framed framed.path framed.message) (composed letter)

  -- The frames that are due to a provider, at most as many as its link has room for.
  unfoldable pub due_frames : ℕ → ℕ → List Letter → List Bytes
  due_frames to room owed = filter_map frame_of (due_letters trade provider (half trade provider journal) to room owed)

  -- A frame that is put for a provider: that of a due letter.
  pub record IsDueFrame (to room : ℕ) (owed : List Letter) (frame : Bytes) : Type 0 where
    pub letter : Letter
    pub due : Contains (due_letters trade provider (half trade provider journal) to room owed) letter
    pub is : frame_of letter ≡ Some frame
