use Rattle.pec_network.proofs.BeginLemmas.{last_until}
use Rattle.pec_network.proofs.opening.begin_all.Goals as goal

pub returns-in-Err-clause-last_err : goal.returns-in-Err-clause-last_err
returns-in-Err-clause-last_err g c =
    last_until g.D.Counted.faults (g.P.Depot.last c.args.depot.now) (g.P.Depot.last c.begin_each.new.depot) (g.P.Depot.last c.keep_all.new.depot)
    c.begin_each.new.providers.items c.begin_each.ensures.counts c.in-Err.ensures.last_err c.keep_all.ensures.last
