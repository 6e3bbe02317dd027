-- Rows that stand while a journal goes on: from the lemmas.
use Rattle.pec_ledger.proofs.AgreeLemmas.{accepted_stands, acked_stands, decided_stands, known_stands, taken_stands}
use Rattle.pec_ledger.proofs.Growth.{body_stays}
use Rattle.pec_ledger.proofs.licences.rows_stand.Goals as goal

pub returns : goal.returns
returns c = record {
  accepted = accepted_stands;
  taken = taken_stands;
  decided = decided_stands;
  known = known_stands;
  acked = acked_stands;
  bodies = λ old new g number bytes e. body_stays old new number bytes g e;
}
