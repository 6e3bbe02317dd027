use Rattle.pec_http_head.proofs.PathLemmas.{spaced}
use Rattle.pec_http_head.proofs.laws.a_spaced_path_has_one_reading.Goals as goal

pub returns : goal.returns
returns c = spaced c.a_path_has_one_reading.ensures.parts c.a_text_is_cut_in_one_way.ensures
