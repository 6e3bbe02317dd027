use Rattle.pec_cert.specs.Front.{heading_part}
use Rattle.pec_cert.proofs.FrontLemmas.{leads_to}
use Rattle.pec_cert.proofs.wrong.heading.Goals as goal

pub returns : goal.returns
unfolding heading_part
returns c =
    leads_to _ _ _ _ c.in_ok-subject.ensures
    (leads_to _ _ _ _ c.in_ok-end.ensures
    (leads_to _ _ _ _ c.in_ok-provider.ensures
    c.in_ok-date.ensures))
