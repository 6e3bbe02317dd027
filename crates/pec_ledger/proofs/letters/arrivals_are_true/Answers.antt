-- Genuine messages meet joint conditions: from the lemmas.
use Rattle.pec_ledger.proofs.Arrivals.{acked_joint, charged_joint, learned_joint, took_joint}
use Rattle.pec_ledger.proofs.VirusLemmas.{virus_told}
use Rattle.pec_ledger.proofs.letters.arrivals_are_true.Goals as goal

pub returns : goal.returns
returns c = record { took = took_joint; charged = charged_joint; learned = learned_joint; acked = acked_joint; viruses = virus_told }
