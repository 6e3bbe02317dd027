-- A form that was said is had without a look.
use Rattle.pec_top.proofs.RestLemmas.{rest_none}
use Rattle.pec_top.proofs.opening.form_of.Goals as goal

pub returns-in-As-clause-rest : goal.returns-in-As-clause-rest
returns-in-As-clause-rest g c = λ told. rest_none g.P.D.Disk.tells g.P.D.Disk.sight (g.P.Depot.home c.args.depot.now)
