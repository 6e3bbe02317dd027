-- When a provider's own half lets an entry follow: `Own`, entry by entry, and what is decided on a pair
-- (`decision_at`). RFC 6109, sections 3.1 to 3.3, within this project's profile.
use Rattle.std.specs.Prelude.{◌≡◌, ℕ, ◌<◌, ◌≤◌, nat_le, false, not, if◌then◌else◌, ◌⊎◌, length, Contains, All, Some, None, IsSome, IsTrue}
use Rattle.pec_types.specs.Bytes.{Bytes}
use Rattle.pec_types.specs.declared.messages.TheConstants.{MESSAGES}
use Rattle.pec_types.specs.declared.messages.Decision.{Decision}
use Rattle.pec_types.specs.declared.messages.Decision.TheVariants.{Placed, Refused}
use Rattle.pec_types.specs.declared.messages.Facts.{Facts}
use Rattle.pec_types.specs.declared.messages.Refusal.TheVariants as refusals
use Rattle.pec_records.specs.Entry.{most_addresses}
use Rattle.pec_records.specs.declared.entries.Entry.{Entry}
use Rattle.pec_records.specs.declared.entries.Entry.TheVariants as entries
use Rattle.pec_ledger.specs.Along.{AllDiffer}
use Rattle.pec_ledger.specs.Half.{Half, Taken}
use Rattle.pec_ledger.specs.Lookups.{Accepted, HasPair, HasPairsAt, accepted_at, at_home, charged_of, counted, decided_of, has_room, is_acked, known_of, mailbox, taken_of}
use Rattle.pec_ledger.specs.Pairs.{Pair, pair_of}
use Rattle.pec_ledger.specs.Trade.{Trade}

module _ (trade : Trade) (provider : ℕ) where
  -- What is decided for a recipient where no screen finds a rule in the message: refused where it is no account,
  -- refused where the account has no room, and otherwise placed. The rows are those of pec_points' table.
  unfoldable pub decision_at : Half → Bytes → Decision
  decision_at half recipient =
      if not (trade.is_account provider recipient) then Refused refusals.NoMailbox
      else (if nat_le (trade.quota recipient) (counted half recipient) then Refused refusals.MailboxFull else Placed)

  -- The sender of a message's facts is this account, and there are at most 1,000 recipients.
  pub record IsFrom (sender message : Bytes) : Type 0 where
    pub facts : Facts
    pub are : trade.facts message ≡ Some facts
    pub sent : facts.sender ≡ sender
    pub few : length facts.recipients ≤ most_addresses

  -- The pair is one of an accepted message of this provider.
  pub record IsOwnPair (half : Half) (pair : Pair) : Type 0 where
    pub ours : pair.id.provider ≡ provider
    pub message : Accepted
    pub accepted : accepted_at half pair.id.number ≡ Some message
    pub recipient : HasPair trade message pair.recipient

  -- The pair was taken here.
  pub record IsTakenPair (half : Half) (pair : Pair) : Type 0 where
    pub row : Taken
    pub taken : taken_of half pair.id ≡ Some row
    pub recipient : Contains row.recipients pair.recipient

  -- a virus may be found for an account of the provider alone
  abbrev pub MayDecide : Half → Bytes → Decision → Type 0
  MayDecide half recipient decision =
      (decision ≡ decision_at half recipient)
      ⊎ ((decision ≡ Refused refusals.Virus) × IsTrue (trade.is_account provider recipient))

  -- The conditions that speak of the provider's own half.
  abbrev pub Own : Half → Entry → Type 0
  Own half (entries.Start number digest) = (half.entries ≡ 0) × (number ≡ provider) × (digest ≡ trade.digest)
  Own half (entries.Accepted moment sender message) =
      (length half.messages < MESSAGES) × IsTrue (trade.is_account provider sender) × IsFrom sender message
  Own half (entries.NotAccepted moment sender cause path message) =
      (length half.messages < MESSAGES) × IsTrue (trade.is_account provider sender)
      × (0 < length path) × (length path ≤ most_addresses)
  Own half (entries.Took moment id message) =
      (id.provider < trade.providers) × (taken_of half id ≡ None)
      × (0 < length (at_home trade provider (trade.envelope_recipients message)))
  Own half (entries.Decided moment id recipient decision) =
      IsTakenPair half (pair_of id recipient) × (decided_of half (pair_of id recipient) ≡ None)
      × MayDecide half recipient decision
  Own half (entries.Charged moment id by) =
      (id.provider ≡ provider) × (charged_of half id by ≡ None)
      × ((message : Accepted) × (accepted_at half id.number ≡ Some message) × HasPairsAt trade message by)
  Own half (entries.Learned moment id recipient decision decided message) =
      IsOwnPair half (pair_of id recipient) × (known_of half (pair_of id recipient) ≡ None)
  Own half (entries.Acked moment id recipient) =
      IsSome (decided_of half (pair_of id recipient)) × (is_acked half (pair_of id recipient) ≡ false)
  Own half (entries.Ticked moment) = Unit {0}
  Own half (entries.Anomaly moment accounts message) =
      (0 < length accounts) × AllDiffer accounts × All (λ account. IsTrue (has_room trade provider half account)) accounts
  Own half (entries.StartTwo number digest) = (half.entries ≡ 0) × (number ≡ provider) × (digest ≡ trade.digest)
  Own half (entries.Upgraded moment) = half.version ≡ 1
  Own half (entries.Archived moment account place) =
      (half.version ≡ 2) × IsTrue (trade.is_account provider account) × (place < length (mailbox half account))
