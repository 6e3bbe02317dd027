-- The first part ends at the first separator, or is all there is.
use Rattle.std.proofs.lemmas.List.{take_rest}
use Rattle.pec_words.proofs.CutLemmas.{cut_at, not_cut}
use Rattle.pec_words.proofs.cuts.cut.Goals as goal

pub returns-in-Some-clause-parts : goal.returns-in-Some-clause-parts
returns-in-Some-clause-parts c = rw take_rest (cut_at c.args.separator c.args.text.now c.in-Some.at c.in-Some.ensures.first)

pub returns-in-None-clause-parts : goal.returns-in-None-clause-parts
returns-in-None-clause-parts c = not_cut c.args.separator c.args.text.now c.in-None.ensures.first
