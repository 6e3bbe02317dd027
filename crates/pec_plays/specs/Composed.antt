-- What a letter that a provider composes is, in journals that are Fit: its one text, in the provider's own name, along
-- the path on which it goes (`IsComposed`). RFC 6109, section 3, within this project's profile.
use Rattle.std.specs.Prelude.{◌≡◌, ℕ, [], ◌∷◌, Some}
use Rattle.pec_types.specs.Bytes.{Bytes}
use Rattle.pec_types.specs.Message.{Id}
use Rattle.pec_types.specs.declared.letters.Letter.{Letter}
use Rattle.pec_types.specs.declared.letters.Letter.TheVariants as letters
use Rattle.pec_ledger.specs.Ledger.{IsAckText, IsChargeText, IsEnvelopeText, IsOutcomeText, Journals}
use Rattle.pec_ledger.specs.Lookups.{addresses_of, at_home}
use Rattle.pec_ledger.specs.Pairs.{Pair, pair_of}
use Rattle.pec_ledger.specs.Trade.{Framed, Trade}
use Rattle.pec_plays.specs.Paths.{outcome_path}

module _ (trade : Trade) (journals : Journals) where
  -- The envelope of a message for a provider, along the path of its recipients there.
  pub record IsFramedEnvelope (id : Id) (to : ℕ) (framed : Framed) : Type 0 where
    pub text : IsEnvelopeText trade journals id to framed.message
    pub path : framed.path ≡ at_home trade to (addresses_of text.message.facts)

  -- The receipt of taking charge of a message, along the path of the receipt address of the sender's provider.
  pub record IsFramedCharge (id : Id) (by : ℕ) (framed : Framed) : Type 0 where
    pub text : IsChargeText trade journals id by framed.message
    pub path : framed.path ≡ trade.receipts id.provider ∷ []

  -- The outcome of a pair, to the sender or, where it is a virus, to the receipt address of the sender's provider.
  pub record IsFramedOutcome (pair : Pair) (framed : Framed) : Type 0 where
    pub text : IsOutcomeText trade journals pair framed.message
    pub path : framed.path ≡ outcome_path trade pair.id text.fate.decision text.message.facts.sender

  -- The acknowledgement of an outcome, along the path of the receipt address of the recipient's provider.
  pub record IsFramedAck (pair : Pair) (framed : Framed) : Type 0 where
    pub text : IsAckText trade journals pair framed.message
    pub home : ℕ
    pub at_home : trade.home pair.recipient ≡ Some home
    pub path : framed.path ≡ trade.receipts home ∷ []

  -- What a provider composes of a letter: it is the provider that the letter is from.
  abbrev pub IsComposed : ℕ → Letter → Framed → Type 0
  IsComposed provider (letters.Envelope id to) framed = (id.provider ≡ provider) × IsFramedEnvelope id to framed
  IsComposed provider (letters.Charge id by) framed = (by ≡ provider) × IsFramedCharge id by framed
  IsComposed provider (letters.Outcome id recipient) framed =
      (trade.home recipient ≡ Some provider) × IsFramedOutcome (pair_of id recipient) framed
  IsComposed provider (letters.Ack id recipient) framed = (id.provider ≡ provider) × IsFramedAck (pair_of id recipient) framed

  -- What stands in the frame of a letter is what is composed of it.
  pub record IsFrameOf (provider : ℕ) (letter : Letter) (frame : Bytes) : Type 0 where
    pub framed : Framed
    pub unframed : trade.unframed frame ≡ Some framed
    pub is : IsComposed provider letter framed
