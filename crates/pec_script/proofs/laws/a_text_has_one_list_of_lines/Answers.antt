use Rattle.pec_script.proofs.RowLemmas.{one_text}
use Rattle.pec_script.proofs.laws.a_text_has_one_list_of_lines.Goals as goal

pub returns : goal.returns
returns c = one_text c.a_text_is_cut_in_one_way.ensures
