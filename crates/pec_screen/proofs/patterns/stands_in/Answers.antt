use Rattle.std.proofs.Common.{◌∙◌}
use Rattle.pec_screen.proofs.OccurrenceLemmas.{found_tells}
use Rattle.pec_screen.proofs.patterns.stands_in.Goals as goal

pub returns : goal.returns
returns c = c.is_some.ensures ∙ found_tells c.args.pattern.now c.args.message.now c.find.result c.find.ensures
