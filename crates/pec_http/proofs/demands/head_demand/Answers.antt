use Rattle.std.proofs.Common.{refl}
use Rattle.pec_http.proofs.demands.head_demand.Goals as goal

pub returns-in-Submit-clause-fits : goal.returns-in-Submit-clause-fits
returns-in-Submit-clause-fits g c =
    c.submission.ensures.fits (g.K.Desk.answers.is_account c.args.desk.now) (c.in_ok-limit.ensures.account refl) c.in_ok-limit.ensures.limit
