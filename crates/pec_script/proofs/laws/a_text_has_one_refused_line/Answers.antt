use Rattle.pec_script.proofs.MarkLemmas.{one_refused}
use Rattle.pec_script.proofs.laws.a_text_has_one_refused_line.Goals as goal

pub returns : goal.returns
returns c = one_refused c.a_text_is_cut_in_one_way.ensures
