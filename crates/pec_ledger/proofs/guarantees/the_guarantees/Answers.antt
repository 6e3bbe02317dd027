-- The guarantees, from the lemmas.
use Rattle.pec_ledger.proofs.GuaranteeLemmas.{no_receipt_missing, notices_by_the_day, one_delivery, one_outcome}
use Rattle.pec_ledger.proofs.guarantees.the_guarantees.Goals as goal

pub returns : goal.returns
returns c = record {
  one_outcome = one_outcome;
  one_delivery = one_delivery;
  no_receipt_missing = no_receipt_missing;
  notice_by_the_day = notices_by_the_day;
}
