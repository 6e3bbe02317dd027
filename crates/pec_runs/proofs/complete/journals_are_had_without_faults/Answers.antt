-- Journals are had: from the lemmas.
use Rattle.pec_runs.proofs.CompleteLemmas.{fails_so, journals_had, stops_so}
use Rattle.pec_runs.proofs.complete.journals_are_had_without_faults.Goals as goal

pub returns : goal.returns
returns g c = record {
  had = λ told trade form home opening is can.
      journals_had (g.P.Depot.tells × g.P.D.Disk.tells) g.P.D.Disk.sight told trade home form opening is can;
  failed = λ status before after text opening e writes told. fails_so status before after text opening.next e writes told;
  stopped = λ status before after text opening e writes told. stops_so status before after text opening.next e writes told;
}
