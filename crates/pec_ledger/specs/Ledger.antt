-- The ledger: all providers' halves side by side (`ledger`), what a letter is licensed by and its one text
-- (`IsLicensedText`), the conditions that speak of the whole ledger (`Joint`), and when journals are right (`Fit`).
-- RFC 6109, sections 3.1 to 3.4, within this project's profile.
use Rattle.std.specs.Prelude.{◌≡◌, ℕ, ◌<◌, ◌≤◌, ◌⊎◌, List, ◌∷◌, Contains, slice_get, Option, Some, None, IsSome}
use Rattle.std.specs.Option.{option_and_then}
use Rattle.pec_types.specs.Bytes.{Bytes}
use Rattle.pec_types.specs.Message.{Id}
use Rattle.pec_types.specs.declared.letters.Letter.{Letter}
use Rattle.pec_types.specs.declared.letters.Letter.TheVariants as letters
use Rattle.pec_types.specs.declared.messages.Cause.TheVariants as causes
use Rattle.pec_types.specs.declared.messages.Facts.{Facts}
use Rattle.pec_types.specs.declared.messages.Decision.{Decision}
use Rattle.pec_types.specs.declared.moments.TheConstants.{END_OF_TIME}
use Rattle.pec_types.specs.declared.receipts.Kind.TheVariants as kinds
use Rattle.pec_records.specs.declared.entries.Entry.{Entry}
use Rattle.pec_records.specs.declared.entries.Entry.TheVariants as entries
use Rattle.pec_ledger.specs.Along.{AllAlong}
use Rattle.pec_ledger.specs.Half.{Half, Fate, Known, Taken, empty}
use Rattle.pec_ledger.specs.Lookups.{Accepted, HasPairsAt, accepted_at, addresses_of, decided_of, known_of, outcome_kind, taken_of}
use Rattle.pec_ledger.specs.Own.{Own}
use Rattle.pec_ledger.specs.Pairs.{Pair, pair_of}
use Rattle.pec_ledger.specs.Steps.{half, moment_of, step, version_by}
use Rattle.pec_ledger.specs.Trade.{Trade}

-- All journals, one for each number of a provider.
abbrev pub Journals : Type 0
Journals = ℕ → List Entry

-- the bytes that an entry holds, if it holds some
abbrev pub body_of : Entry → Option Bytes
body_of (entries.Accepted moment sender message) = Some message
body_of (entries.NotAccepted moment sender cause path message) = Some message
body_of (entries.Took moment id message) = Some message
body_of (entries.Learned moment id recipient decision decided message) = Some message
body_of (entries.Anomaly moment accounts message) = Some message
body_of _ = None

-- the bytes that the entry of a number holds
abbrev pub body_at : List Entry → ℕ → Option Bytes
body_at journal number = option_and_then body_of (slice_get journal number)

-- A journal begins with its Start, of version 1 or of version 2.
abbrev pub Begins : List Entry → Type 0
Begins (entries.Start number digest ∷ rest) = Unit {0}
Begins (entries.StartTwo number digest ∷ rest) = Unit {0}
Begins _ = ⊥

-- A journal is of version 2: an entry of it makes it so, a Start of that version or an upgrade.
abbrev pub IsOfVersionTwo : List Entry → Type 0
IsOfVersionTwo journal = (entry : Entry) × Contains journal entry × (version_by entry ≡ 2)

module _ (trade : Trade) where
  -- The half of each provider, by its own journal alone.
  unfoldable pub ledger : Journals → ℕ → Half
  ledger journals provider = half trade provider (journals provider)

  -- the accepted message of an id
  abbrev pub accepted_in : Journals → Id → Option Accepted
  accepted_in journals id = accepted_at (ledger journals id.provider) id.number

  -- what is decided on a pair, where its recipient is at home
  abbrev pub decided_at : Journals → Pair → Option ℕ → Option Fate
  decided_at journals pair None = None
  decided_at journals pair (Some home) = decided_of (ledger journals home) pair

  -- what is decided on a pair in the whole ledger; nothing where its recipient is at home nowhere
  abbrev pub decided_in : Journals → Pair → Option Fate
  decided_in journals pair = decided_at journals pair (trade.home pair.recipient)

  -- An id is that of an accepted message, and this is its original, as it was handed in.
  pub record HasOriginal (journals : Journals) (id : Id) (message : Accepted) (original : Bytes) : Type 0 where
    pub accepted : accepted_in journals id ≡ Some message
    pub bytes : body_at (journals id.provider) message.entry ≡ Some original
    pub facts : trade.facts original ≡ Some message.facts

  -- ---- letters

  -- The envelope of an accepted message that has pairs at the provider `to`.
  pub record IsEnvelopeText (journals : Journals) (id : Id) (to : ℕ) (bytes : Bytes) : Type 0 where
    pub message : Accepted
    pub original : Bytes
    pub is : HasOriginal journals id message original
    pub pairs : HasPairsAt trade message to
    pub text : bytes ≡ trade.envelope_text id message.moment original

  -- The receipt of taking charge of a message that was taken at the provider `by`, at the moment at which it was.
  pub record IsChargeText (journals : Journals) (id : Id) (by : ℕ) (bytes : Bytes) : Type 0 where
    pub message : Accepted
    pub original : Bytes
    pub is : HasOriginal journals id message original
    pub row : Taken
    pub taken : taken_of (ledger journals by) id ≡ Some row
    pub text : bytes ≡ trade.receipt_text
        (record {
          kind = kinds.Charge;
          id = id;
          by = by;
          moment = row.moment;
          recipient = None;
        }) original

  -- The letter on a pair that is decided at the recipient's provider, at the moment of the decision.
  pub record IsOutcomeText (journals : Journals) (pair : Pair) (bytes : Bytes) : Type 0 where
    pub message : Accepted
    pub original : Bytes
    pub is : HasOriginal journals pair.id message original
    pub home : ℕ
    pub at_home : trade.home pair.recipient ≡ Some home
    pub fate : Fate
    pub decided : decided_of (ledger journals home) pair ≡ Some fate
    pub text : bytes ≡ trade.receipt_text
        (record {
          kind = outcome_kind fate.decision;
          id = pair.id;
          by = home;
          moment = fate.moment;
          recipient = Some pair.recipient;
        }) original

  -- The acknowledgement of a pair whose outcome is known, at the moment at which it was learned.
  pub record IsAckText (journals : Journals) (pair : Pair) (bytes : Bytes) : Type 0 where
    pub message : Accepted
    pub original : Bytes
    pub is : HasOriginal journals pair.id message original
    pub row : Known
    pub known : known_of (ledger journals pair.id.provider) pair ≡ Some row
    pub text : bytes ≡ trade.receipt_text
        (record {
          kind = kinds.Ack;
          id = pair.id;
          by = pair.id.provider;
          moment = row.moment;
          recipient = Some pair.recipient;
        }) original

  -- The letter is licensed, and these bytes are its one text.
  abbrev pub IsLicensedText : Journals → Letter → Bytes → Type 0
  IsLicensedText journals (letters.Envelope id to) bytes = IsEnvelopeText journals id to bytes
  IsLicensedText journals (letters.Charge id by) bytes = IsChargeText journals id by bytes
  IsLicensedText journals (letters.Outcome id recipient) bytes = IsOutcomeText journals (pair_of id recipient) bytes
  IsLicensedText journals (letters.Ack id recipient) bytes = IsAckText journals (pair_of id recipient) bytes

  -- The letter is licensed: its message, and its row, are there.
  abbrev pub IsLicensed : Journals → Letter → Type 0
  IsLicensed journals letter = (bytes : Bytes) × IsLicensedText journals letter bytes

  -- ---- entries

  -- The pair is decided so, at this moment.
  pub record IsDecidedSo (journals : Journals) (pair : Pair) (decision : Decision) (moment : ℕ) : Type 0 where
    pub fate : Fate
    pub decided : decided_in journals pair ≡ Some fate
    pub so : fate.decision ≡ decision
    pub at : fate.moment ≡ moment

  -- Without screens nothing speaks against the message along the path of its own recipients.
  pub record IsAdmitted (provider : ℕ) (sender message : Bytes) : Type 0 where
    pub facts : Facts
    pub are : trade.facts message ≡ Some facts
    pub none : trade.cause provider sender (addresses_of facts) message ≡ None

  -- The conditions that speak of the whole ledger.
  abbrev pub Joint : Journals → ℕ → Entry → Type 0
  Joint journals provider (entries.Start number digest) = Unit {0}
  Joint journals provider (entries.Accepted moment sender message) = IsAdmitted provider sender message
  Joint journals provider (entries.NotAccepted moment sender cause path message) =
      (trade.cause provider sender path message ≡ Some cause)
      ⊎ ((cause ≡ causes.Virus) × (trade.cause provider sender path message ≡ None))
  Joint journals provider (entries.Took moment id message) = IsEnvelopeText journals id provider message
  Joint journals provider (entries.Decided moment id recipient decision) = Unit {0}
  Joint journals provider (entries.Charged moment id by) = IsSome (taken_of (ledger journals by) id)
  Joint journals provider (entries.Learned moment id recipient decision decided message) =
      IsOutcomeText journals (pair_of id recipient) message × IsDecidedSo journals (pair_of id recipient) decision decided
  Joint journals provider (entries.Acked moment id recipient) =
      IsSome (known_of (ledger journals id.provider) (pair_of id recipient))
  Joint journals provider (entries.Ticked moment) = Unit {0}
  Joint journals provider (entries.Anomaly moment accounts message) = Unit {0}
  Joint journals provider (entries.StartTwo number digest) = Unit {0}
  Joint journals provider (entries.Upgraded moment) = Unit {0}
  Joint journals provider (entries.Archived moment account place) = Unit {0}

  -- An entry may follow a half of this provider, in these journals: its own condition, a moment that isn't before the
  -- greatest and is one that a clock tells, below END_OF_TIME, and its joint condition.
  pub record Meets (journals : Journals) (provider : ℕ) (half : Half) (entry : Entry) : Type 0 where
    pub own : Own trade provider half entry
    pub in_time : half.last ≤ moment_of entry
    pub in_range : moment_of entry < END_OF_TIME
    pub joint : Joint journals provider entry

  -- Each of the entries may follow what stood before it.
  abbrev pub Follows : Journals → ℕ → Half → List Entry → Type 0
  Follows journals provider half entries = AllAlong (step trade provider) (Meets journals provider) half entries

  -- The journals are right: each begins with its Start, and each entry may follow.
  pub record Fit (journals : Journals) : Type 0 where
    pub begins : (provider : ℕ) → provider < trade.providers → Begins (journals provider)
    pub follows : (provider : ℕ) → Follows journals provider empty (journals provider)
