-- A path has as many addresses as its text has parts.
use Rattle.pec_http_head.proofs.PathLemmas.{found_few, found_some}
use Rattle.pec_http_head.proofs.heads.Head.path.Goals as goal

pub returns-clause-some : goal.returns-clause-some
returns-clause-some c = found_some (λ path. path.items) c.a_path_has_one_reading.ensures.parts c.in-Some.text.now c.in_ok-path.path c.in_ok-path.ensures

pub returns-clause-few : goal.returns-clause-few
returns-clause-few c = found_few (λ path. path.items) c.a_path_has_one_reading.ensures.parts c.in-Some.text.now c.in_ok-path.path c.in_ok-path.ensures
