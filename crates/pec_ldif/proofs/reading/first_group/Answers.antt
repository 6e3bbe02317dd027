-- The group ends at the empty line, or is all that is left.
use Rattle.std.proofs.Common.{Some, None}
use Rattle.std.proofs.lemmas.List.{take_rest}
use Rattle.pec_ldif.proofs.GroupLemmas.{groups_by}
use Rattle.pec_ldif.proofs.reading.first_group.Goals as goal

pub returns-in-Some-clause-groups : goal.returns-in-Some-clause-groups
returns-in-Some-clause-groups c = rw take_rest (groups_by c.args.lines.now (Some c.in-Some.at) c.in-Some.ensures.value)

pub returns-in-None-clause-groups : goal.returns-in-None-clause-groups
returns-in-None-clause-groups c = groups_by c.args.lines.now None c.in-None.ensures.value
