-- What users get holds along each script.
use Rattle.std.proofs.Common.{List, [], ◌∷◌}
use Rattle.pec_ledger.specs.Guarantees.{NoReceiptMissing, NoticeByTheDay, OneDelivery, OneOutcome}
use Rattle.pec_ledger.specs.Ledger.{Fit, Journals}
use Rattle.pec_ledger.specs.Network.{Site, Sound, journals_of}
use Rattle.pec_ledger.specs.Trade.{Trade}
use Rattle.pec_plays.specs.Commands.{Command, Luck, played}
use Rattle.pec_plays.specs.Scripts.{Kept, KeptAlong, SoundAlong}

-- what the ledger's law of guarantees says
pub record GuaranteeLaws (trade : Trade) : Type 0 where
  pub one_outcome : (J : Journals) → Fit trade J → OneOutcome trade J
  pub one_delivery : (J : Journals) → Fit trade J → OneDelivery trade J
  pub no_receipt_missing : (J : Journals) → Fit trade J → NoReceiptMissing trade J
  pub notice_by_the_day : (J : Journals) → Fit trade J → NoticeByTheDay trade J

module _ (trade : Trade) (laws : GuaranteeLaws trade) where
  pub kept : (sites : List Site) → Sound trade sites → Kept trade sites
  kept sites sound = record {
    one_outcome = laws.one_outcome (journals_of sites) sound.fit;
    one_delivery = laws.one_delivery (journals_of sites) sound.fit;
    no_receipt_missing = laws.no_receipt_missing (journals_of sites) sound.fit;
    notice_by_the_day = laws.notice_by_the_day (journals_of sites) sound.fit;
  }

  pub kept_along : (lucks : List Luck) (sites : List Site) (commands : List Command) → SoundAlong trade lucks sites commands → KeptAlong trade lucks sites commands
  kept_along [] sites commands sound = kept sites sound
  kept_along (luck ∷ lucks) sites [] sound = kept sites sound
  kept_along (luck ∷ lucks) sites (command ∷ commands) sound =
      (kept sites sound.0, kept_along lucks (played trade luck sites command).after commands sound.1)
