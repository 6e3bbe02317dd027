-- Along which path the outcome of a pair goes, `outcome_path`: to the sender, or where it is a virus to the provider of
-- the sender, which tells the sender. RFC 6109, sections 3.1 to 3.3, within this project's profile.
use Rattle.std.specs.Prelude.{[], ◌∷◌}
use Rattle.pec_types.specs.Bytes.{Bytes, Path}
use Rattle.pec_types.specs.Message.{Id}
use Rattle.pec_types.specs.declared.messages.Decision.{Decision}
use Rattle.pec_types.specs.declared.messages.Decision.TheVariants.{Placed, Refused}
use Rattle.pec_types.specs.declared.messages.Refusal.TheVariants as refusals
use Rattle.pec_ledger.specs.Trade.{Trade}

-- The path of the frame of an outcome, by the message, what was decided, and the message's sender.
abbrev pub outcome_path : Trade → Id → Decision → Bytes → Path
outcome_path trade id Placed sender = sender ∷ []
outcome_path trade id (Refused refusals.NoMailbox) sender = sender ∷ []
outcome_path trade id (Refused refusals.MailboxFull) sender = sender ∷ []
outcome_path trade id (Refused refusals.Virus) sender = trade.receipts id.provider ∷ []
