-- What the ledger asks of the world: `Trade`, a record of what the directory answers, what heads say, whether a message
-- is admitted, what a reader of letters sees in a message, and the texts of letters and of mailbox items. Nothing here
-- says how any of it is found; `TradeLaws` says what is true of it. The fields stand for RFC 6109's provider directory
-- (section 4.5), its points (section 3) and this project's texts.
use Rattle.std.specs.Prelude.{ℕ, Bool, Option}
use Rattle.pec_types.specs.Bytes.{Bytes, Path}
use Rattle.pec_types.specs.Message.{Id}
use Rattle.pec_types.specs.declared.messages.Cause.{Cause}
use Rattle.pec_types.specs.declared.messages.Facts.{Facts}
use Rattle.pec_kinds.specs.declared.receipts.Kind.{Kind}

-- What a receipt states: its kind, the message, the provider that composed and sealed it, its moment in seconds, and
-- the recipient that it names, if its kind names one.
pub record Receipt : Type 0 where
  pub kind : Kind
  pub id : Id
  pub by : ℕ
  pub moment : ℕ
  pub recipient : Option Bytes

-- What a reader sees in a sealed message: the envelope of a message, sealed by the provider of its id, with the moment
-- of acceptance and the original; or a receipt.
pub data Seen : Type 0 where
  SeenEnvelope : (id : Id) (moment : ℕ) (original : Bytes) → Seen
  SeenReceipt : (receipt : Receipt) → Seen

-- What stands in a frame.
pub record Framed : Type 0 where
  pub path : Path
  pub message : Bytes

-- The world of one ledger.
pub record Trade : Type 0 where
  -- The directory: how many providers there are, numbered from 0, and its digest; the provider in whose domains an
  -- address stands, which makes it certified; the accounts of a provider, how many items an account may have, and the
  -- address to which receipts for a provider go.
  pub providers : ℕ
  pub digest : Bytes
  pub home : Bytes → Option ℕ
  pub is_account : ℕ → Bytes → Bool
  pub quota : Bytes → ℕ
  pub receipts : ℕ → Bytes
  -- Heads: the facts of a message, where it has some, and the addresses of an envelope's `To` and `Cc`.
  pub facts : Bytes → Option Facts
  pub envelope_recipients : Bytes → Path
  -- Admission: why a provider doesn't accept a message from an account along a path, as far as no screen is asked.
  pub cause : ℕ → Bytes → Path → Bytes → Option Cause
  -- Frames and seals: what stands in a frame, the frame of a path and a message unless it is too long, whether a
  -- message opens, and what a reader of letters sees in it.
  pub unframed : Bytes → Option Framed
  pub framed : Path → Bytes → Option Bytes
  pub opens : Bytes → Bool
  pub view : Bytes → Option Seen
  -- Sealed texts: the envelope of a message that was accepted at a moment; a receipt on an original; the notice that
  -- this message wasn't accepted from this account along this path; the envelope of an anomaly, by its provider and the
  -- number of its entry.
  pub envelope_text : Id → ℕ → Bytes → Bytes
  pub receipt_text : Receipt → Bytes → Bytes
  pub refusal_text : Id → ℕ → Bytes → Cause → Path → Bytes → Bytes
  pub anomaly_text : ℕ → ℕ → ℕ → Bytes → Bytes
