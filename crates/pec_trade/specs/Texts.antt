-- The texts of letters and frames by what the ledger knows of them, and what is seen in a message. Where there is no
-- text, as for a number of an entry that takes more than 64 bits, it is `[]`, in which nothing is seen. This
-- project's profile.
use Rattle.std.specs.Prelude.{◌^◌, ℕ, List, [], Bool, ◌&&◌, nat_le, nat_lt, if◌then◌else◌, length, drop, Option, None, Some, unwrap_or, Result, Ok, Err}
use Rattle.std.specs.List.{list_all}
use Rattle.std.specs.Option.{option_map}
use Rattle.std.specs.Result.{result_ok}
use Rattle.pec_types.specs.Bytes.{Bytes, Path}
use Rattle.pec_types.specs.Message.{Id}
use Rattle.pec_types.specs.Options.{◌>>=◌}
use Rattle.pec_types.specs.declared.disputes.LetterFault.{LetterFault}
use Rattle.pec_types.specs.declared.messages.Cause.{Cause}
use Rattle.pec_types.specs.declared.messages.Facts.{Facts}
use Rattle.pec_types.specs.declared.receipts.Kind.TheVariants as kinds
use Rattle.pec_cert.specs.ValueTests.{is_lower}
use Rattle.pec_directory.specs.Directory.{Kept, Provider, home_of, is_number, providers_of}
use Rattle.pec_seal.specs.Seals.{Seals}
use Rattle.pec_frames.specs.Frames.{frame_text}
use Rattle.pec_frames.specs.FramesReading.{framed_of}
use Rattle.pec_frames.specs.declared.TheConstants.{FRAME_LIMIT, MOST_ADDRESSES}
use Rattle.pec_letters.specs.Anomalies.{anomaly_text}
use Rattle.pec_letters.specs.Envelopes.{envelope_text}
use Rattle.pec_letters.specs.Seen.{Seen as EnvelopeSeen}
use Rattle.pec_letters.specs.SeenReading.{view as envelope_view}
use Rattle.pec_receipts.specs.Receipts.{receipt_text}
use Rattle.pec_receipts.specs.SeenReading.{view as receipt_view}
use Rattle.pec_receipts.specs.declared.reading.ReceiptView.{ReceiptView}
use Rattle.pec_receipts.specs.declared.receipts.Receipt.{Receipt as Given}
use Rattle.pec_ledger.specs.OfDirectory.{facts_in}
use Rattle.pec_ledger.specs.Trade.{Framed, Receipt, Seen, SeenEnvelope, SeenReceipt}
use Rattle.pec_trade.specs.Giving.{can_be_given}
use Rattle.pec_trade.specs.Refused.{refused_facts}

-- the text, or nothing
abbrev pub or_none : Option Bytes → Bytes
or_none text = unwrap_or text []

-- ---- what is seen

abbrev pub envelope_seen : EnvelopeSeen → Seen
envelope_seen seen = SeenEnvelope seen.id seen.moment seen.original

abbrev pub receipt_seen : ReceiptView → Seen
receipt_seen seen = SeenReceipt (record {
  kind = seen.kind;
  id = seen.id;
  by = seen.by;
  moment = seen.moment;
  recipient = seen.recipient;
})

abbrev pub or_receipt : Result EnvelopeSeen LetterFault → Result ReceiptView LetterFault → Option Seen
or_receipt (Ok seen) other = Some (envelope_seen seen)
or_receipt (Err fault) (Ok seen) = Some (receipt_seen seen)
or_receipt (Err fault) (Err other) = None

-- What is seen in a message: an envelope, or else a receipt.
unfoldable pub seen_in : Seals → List Provider → Bytes → Option Seen
seen_in seals providers message =
    or_receipt (envelope_view seals providers message) (receipt_view seals providers message)

-- ---- letters

-- a receipt of the ledger, with the facts of the message that it is about
abbrev pub given : Receipt → Facts → Given
given receipt facts = record {
  kind = receipt.kind;
  id = receipt.id;
  by = receipt.by;
  moment = receipt.moment;
  facts = facts;
  recipient = receipt.recipient;
}

-- the notice that a message wasn't accepted
abbrev pub refusal : Id → ℕ → Bytes → Cause → Path → Bytes → Given
refusal id moment account cause path message = record {
  kind = kinds.NonAcceptance cause;
  id = id;
  by = id.provider;
  moment = moment;
  facts = refused_facts account path message;
  recipient = None;
}

module _ (kept : List Kept) (seals : Seals) where
  -- an envelope, where the provider of the message is the sender's home
  abbrev pub envelope_from : Id → ℕ → Bytes → Facts → Option Bytes
  envelope_from id moment original facts =
      if is_number id.provider (home_of (providers_of kept) facts.sender)
      then envelope_text seals kept id moment facts original
      else None

  -- The envelope of a message that was accepted at a moment.
  unfoldable pub envelope_bytes : Id → ℕ → Bytes → Bytes
  envelope_bytes id moment original = or_none (facts_in original >>= envelope_from id moment original)

  -- a receipt, where a provider may give it
  abbrev pub given_text : Given → Bytes → Option Bytes
  given_text r original = if can_be_given (providers_of kept) r then receipt_text seals kept r original else None

  -- The receipt, the notice or the acknowledgement on an original.
  unfoldable pub receipt_bytes : Receipt → Bytes → Bytes
  receipt_bytes receipt original =
      or_none (facts_in original >>= λ (facts : Facts). given_text (given receipt facts) original)

  -- The notice that a message wasn't accepted from an account along a path of addresses in lower case.
  unfoldable pub refusal_bytes : Id → ℕ → Bytes → Cause → Path → Bytes → Bytes
  refusal_bytes id moment account cause path message =
      if list_all is_lower path
      then or_none (given_text (refusal id moment account cause path message) message)
      else []

  -- The envelope in which a provider hands on what isn't certified mail, by the number of its entry, below 2^64.
  unfoldable pub anomaly_bytes : ℕ → ℕ → ℕ → Bytes → Bytes
  anomaly_bytes provider entry moment message =
      if nat_lt entry (2 ^ 64) then or_none (anomaly_text seals kept provider entry moment message) else []

-- ---- frames

-- A frame can be made: of 1 to 1,000 addresses in lower case, and of at most 50,331,648 bytes.
unfoldable pub can_be_framed : Path → Bytes → Bool
can_be_framed path message =
    (nat_lt 0 (length path) && nat_le (length path) MOST_ADDRESSES)
    && (list_all is_lower path && nat_le (length (frame_text path message)) FRAME_LIMIT)

-- The frame of a path and a message, where it can be made.
unfoldable pub frame_along : Path → Bytes → Option Bytes
frame_along path message = if can_be_framed path message then Some (frame_text path message) else None

abbrev pub framed_at : Bytes → Path × ℕ → Framed
framed_at frame read = record { path = read.0; message = drop read.1 frame }

-- What stands in a frame.
unfoldable pub unframed_of : Bytes → Option Framed
unframed_of frame = option_map (framed_at frame) (result_ok (framed_of frame))
