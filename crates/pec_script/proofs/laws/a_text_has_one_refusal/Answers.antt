use Rattle.pec_script.proofs.AnswerLemmas.{one_refusal}
use Rattle.pec_script.proofs.laws.a_text_has_one_refusal.Goals as goal

pub returns : goal.returns
returns c = one_refusal c.a_text_is_cut_in_one_way.ensures
