use Rattle.std.proofs.Common.{◌∙◌}
use Rattle.pec_network.specs.declared.faults.StartFault.TheVariants as faults
use Rattle.pec_network.proofs.StartLemmas.{back_again, begun_at_home}
use Rattle.pec_network.proofs.starting.begin_next.Goals as goal

pub returns-in_default-clause-back : goal.returns-in_default-clause-back
returns-in_default-clause-back g c = λ told was is.
    let me = c.args.house.now.me in
    back_again g.P.Depot.tells g.D.Disk.tells g.D.Disk.sight c.args.house.now.directory.now c.args.form me (faults.DiskFault me) was
    (g.P.Depot.home c.disk.new.self me) (c.in_default.ensures.same told me ∙ is) tt (λ reads. c.a_disk_is_so.ensures.now reads was)

pub returns-in-Ok-begin_one-clause-begun : goal.returns-in-Ok-begin_one-clause-begun
returns-in-Ok-begin_one-clause-begun g c =
    let me = c.args.house.now.me in
    begun_at_home g.P.Depot.tells g.D.Disk.tells g.D.Disk.sight c.args.house.now.directory.now c.args.form me c.in-Ok.disk
    (g.P.Depot.home c.args.depot.now me) c.in-Ok-begin_one.provider c.in-Ok.ensures.given c.in-Ok-begin_one.ensures.begun
