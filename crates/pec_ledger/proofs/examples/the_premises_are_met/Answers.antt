-- The premises are met: from the lemmas.
use Rattle.std.proofs.Common.{refl, Some, None}
use Rattle.pec_types.specs.declared.receipts.Kind.TheVariants as kinds
use Rattle.pec_ledger.specs.Examples.{anna}
use Rattle.pec_ledger.proofs.PremiseLemmas.{can_be, follows_itself, names_anna, sent}
use Rattle.pec_ledger.proofs.examples.the_premises_are_met.Goals as goal

pub returns : goal.returns
returns c = record {
  sent = sent;
  acceptance = can_be kinds.Acceptance None (refl, refl);
  charge = can_be kinds.Charge None refl;
  delivery = can_be kinds.Delivery (Some anna) names_anna;
  error = λ refusal. can_be (kinds.DeliveryError refusal) (Some anna) names_anna;
  virus_found = can_be kinds.VirusFound (Some anna) names_anna;
  warning = can_be kinds.Warning (Some anna) (refl, names_anna);
  notice = can_be kinds.Notice (Some anna) (refl, names_anna);
  late_notice = can_be kinds.LateNotice (Some anna) (refl, names_anna);
  ack = can_be kinds.Ack (Some anna) names_anna;
  images = follows_itself;
}
