use Rattle.pec_script.proofs.RowLemmas.{text_after_is}
use Rattle.pec_script.proofs.laws.lines_are_put_in_their_order.Goals as goal

pub returns : goal.returns
returns c = text_after_is
