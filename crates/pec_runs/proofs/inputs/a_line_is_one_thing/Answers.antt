-- What a line is: from the lemmas.
use Rattle.pec_runs.proofs.InputLemmas.{passed_over, says, says_none, too_long, too_many}
use Rattle.pec_runs.proofs.inputs.a_line_is_one_thing.Goals as goal

pub returns : goal.returns
returns c = record {
  too_many = too_many c.a_line_has_one_reading.ensures;
  too_long = too_long c.a_line_has_one_reading.ensures;
  passed_over = passed_over c.a_line_has_one_reading.ensures;
  says = says c.a_line_has_one_reading.ensures;
  says_none = says_none c.a_line_has_one_reading.ensures;
}
