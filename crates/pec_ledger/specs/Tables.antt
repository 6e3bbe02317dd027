-- The tables of the ledger in their own words, beside the functions that are used: what a clock call marks
-- (`IsMarked`), which lines a book has (`IsLineOf`), and which letters are due (`IsOwed`). RFC 6109, section 3, DPR
-- 68/2005, article 8, and this project's profile.
use Rattle.std.specs.Prelude.{◌≡◌, ◌≢◌, ◌↔◌, ℕ, ◌⊎◌, true, false, List, Contains, Some, None}
use Rattle.pec_types.specs.Bytes.{Bytes}
use Rattle.pec_types.specs.Limits.{Clocked, IsDue}
use Rattle.pec_types.specs.declared.letters.Letter.{Letter}
use Rattle.pec_types.specs.declared.letters.Letter.TheVariants as letters
use Rattle.pec_types.specs.declared.limits.Due.TheVariants as dues
use Rattle.pec_types.specs.declared.messages.BookLine.{BookLine}
use Rattle.pec_types.specs.declared.messages.Recipient.{Recipient}
use Rattle.pec_ledger.specs.Books.{certified_recipients, line_of}
use Rattle.pec_ledger.specs.Due.{addressee}
use Rattle.pec_ledger.specs.Half.{Charge, Fate, Half, Known, Mark}
use Rattle.pec_ledger.specs.Lookups.{Accepted, HasPair, HasPairsAt, accepted_at, addresses_of, charged_of, is_acked, known_of}
use Rattle.pec_ledger.specs.Pairs.{Pair, id_of, pair_of}
use Rattle.pec_ledger.specs.Trade.{Trade}

module _ (trade : Trade) (provider : ℕ) (half : Half) where
  -- The provider where a pair's recipient is at home took charge of the message.
  pub record IsCharged (pair : Pair) : Type 0 where
    pub charge : Charge
    pub there : Contains half.charged charge
    pub of : charge.id ≡ pair.id
    pub by : trade.home pair.recipient ≡ Some charge.by

  -- The sender was warned of a pair.
  pub record WasWarned (pair : Pair) : Type 0 where
    pub mark : Mark
    pub there : Contains half.marks mark
    pub of : mark.pair ≡ pair
    pub is : mark.due ≡ dues.Warning

  -- The sender had notice of a pair, in time or late.
  pub record WasNoticed (pair : Pair) : Type 0 where
    pub mark : Mark
    pub there : Contains half.marks mark
    pub of : mark.pair ≡ pair
    pub is : (mark.due ≡ dues.Notice) ⊎ (mark.due ≡ dues.LateNotice)

  -- The outcome of a pair is known.
  pub record IsKnown (pair : Pair) : Type 0 where
    pub known : Known
    pub there : Contains half.known known
    pub of : known.pair ≡ pair

  -- This is what a clock call sees of a pair that was accepted at a moment.
  pub record Sees (now accepted : ℕ) (pair : Pair) (seen : Clocked) : Type 0 where
    pub at : seen.at ≡ now
    pub since : seen.accepted ≡ accepted
    pub charged : (seen.charged ≡ true) ↔ IsCharged pair
    pub warned : (seen.warned ≡ true) ↔ WasWarned pair
    pub noticed : (seen.noticed ≡ true) ↔ WasNoticed pair
    pub known : (seen.known ≡ true) ↔ IsKnown pair

  -- A clock call at a moment marks a pair of this provider: something is due to its sender by the time table.
  pub record IsMarked (now : ℕ) (mark : Mark) : Type 0 where
    pub number : ℕ
    pub message : Accepted
    pub accepted : accepted_at half number ≡ Some message
    pub recipient : Bytes
    pub has : HasPair trade message recipient
    pub pair : mark.pair ≡ pair_of (id_of provider number) recipient
    pub seen : Clocked
    pub sees : Sees now message.moment (pair_of (id_of provider number) recipient) seen
    pub due : IsDue seen mark.due
    pub some : mark.due ≢ dues.Nothing
    pub at : mark.moment ≡ now

  -- A line of an account's book: that of one of its accepted messages and one of the message's certified recipients.
  pub record IsLineOf (account : Bytes) (line : BookLine) : Type 0 where
    pub number : ℕ
    pub message : Accepted
    pub accepted : accepted_at half number ≡ Some message
    pub owner : message.sender ≡ account
    pub recipient : Recipient
    pub among : Contains (certified_recipients trade message) recipient
    pub is : line ≡ line_of trade half (id_of provider number) message recipient

  -- An outcome for a provider: of a pair that is decided here, whose message is that provider's, and of which it has
  -- not said that it knows.
  pub record IsOwedOutcome (to : ℕ) (letter : Letter) : Type 0 where
    pub fate : Fate
    pub decided : Contains half.decided fate
    pub for : fate.pair.id.provider ≡ to
    pub unheard : is_acked half fate.pair ≡ false
    pub is : letter ≡ letters.Outcome fate.pair.id fate.pair.recipient

  -- An envelope for a provider: of an accepted message that has pairs there, of which it has not taken charge, and of
  -- none of whose pairs there the outcome is known.
  pub record IsOwedEnvelope (to : ℕ) (letter : Letter) : Type 0 where
    pub number : ℕ
    pub message : Accepted
    pub accepted : accepted_at half number ≡ Some message
    pub pairs : HasPairsAt trade message to
    pub uncharged : charged_of half (id_of provider number) to ≡ None
    pub unheard : (recipient : Bytes) → Contains (addresses_of message.facts) recipient → trade.home recipient ≡ Some to
        → known_of half (pair_of (id_of provider number) recipient) ≡ None
    pub is : letter ≡ letters.Envelope (id_of provider number) to

  -- A letter that is owed to a provider: an answer for it, an outcome or an envelope.
  abbrev pub IsOwed : ℕ → List Letter → Letter → Type 0
  IsOwed to owed letter =
      (Contains owed letter × (addressee trade letter ≡ Some to)) ⊎ (IsOwedOutcome to letter ⊎ IsOwedEnvelope to letter)
