-- The first line ends at the first line feed, or is all there is.
use Rattle.pec_ldif.proofs.LineLemmas.{raw_at, raw_whole}
use Rattle.pec_ldif.proofs.lines.first_size.Goals as goal

pub returns-in-Some-clause-cut : goal.returns-in-Some-clause-cut
returns-in-Some-clause-cut c = raw_at c.args.text.now c.in-Some.at c.in-Some.ensures.value

pub returns-in-None-clause-cut : goal.returns-in-None-clause-cut
returns-in-None-clause-cut c = raw_whole c.args.text.now c.requires c.in-None.ensures.value
