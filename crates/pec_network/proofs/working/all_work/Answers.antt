use Rattle.pec_network.proofs.working.all_work.Goals as goal

pub returns-clause-each : goal.returns-clause-each
returns-clause-each g c = λ me slot l.
    let one = (c.for_each_mut.ensures me slot l).1 in
    rw (← one.argument_is, ← one.left) one.call
