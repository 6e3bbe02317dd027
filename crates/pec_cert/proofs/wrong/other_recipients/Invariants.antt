use Rattle.std.proofs.Common.{suc, length}
use Rattle.pec_cert.specs.Front.{look_often, recipient_part}
use Rattle.pec_cert.proofs.FrontLemmas.{StillLooks}
use Rattle.pec_cert.proofs.wrong.other_recipients.Given as goal

abbrev pub invariant-others : goal.invariant-others
invariant-others l = StillLooks (recipient_part l.size).look l.rest (look_often (recipient_part l.size).look (suc (length l.text)) l.text)

abbrev pub decreases-others : goal.decreases-others
decreases-others l = length l.rest
