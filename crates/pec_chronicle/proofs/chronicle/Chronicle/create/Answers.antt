use Rattle.pec_chronicle.proofs.MakingLemmas.{gate_there, made_err, made_ok}
use Rattle.pec_chronicle.proofs.chronicle.Chronicle.create.Goals as goal

pub returns-in-Ok-clause-any_moment : goal.returns-in-Ok-clause-any_moment
returns-in-Ok-clause-any_moment g c tells =
    let sight = g.D.Disk.sight in
    made_ok c.args.start.now (sight c.args.disk) (sight c.in-Ok.journal.disk) (c.in-Ok.ensures.any_moment tells)
    (c.a_disk_is_so.ensures.counts tells c.in-Ok.journal.disk) c.begin.result (λ made. sight made.disk)
    (c.begin.ensures.any_moment tells (gate_there (sight c.in-Ok.journal.disk).seen (c.in-Ok.ensures.bytes tells)))

pub returns-in-Ok-clause-any_moment_err : goal.returns-in-Ok-clause-any_moment_err
returns-in-Ok-clause-any_moment_err g c tells =
    let sight = g.D.Disk.sight in
    made_err c.args.start.now (sight c.args.disk) (sight c.in-Ok.journal.disk) (c.in-Ok.ensures.any_moment tells)
    (c.a_disk_is_so.ensures.counts tells c.in-Ok.journal.disk) c.begin.result (λ fault. sight fault.1)
    (c.begin.ensures.any_moment_err tells (gate_there (sight c.in-Ok.journal.disk).seen (c.in-Ok.ensures.bytes tells)))
