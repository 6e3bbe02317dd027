use Rattle.pec_words.proofs.CutLemmas.{split_again, split_is}
use Rattle.pec_words.proofs.laws.a_text_is_cut_in_one_way.Goals as goal

pub returns : goal.returns
returns c = λ separator text parts. ((λ is. split_again separator text parts is), (λ e. split_is separator text parts e))
