use Rattle.pec_script.proofs.LineLemmas.{line_tells}
use Rattle.pec_script.proofs.laws.a_line_has_one_reading.Goals as goal

pub returns : goal.returns
returns c = line_tells (record {
  addresses = c.an_address_is_told_exactly.ensures;
  numbers = c.a_number_has_one_spelling.ensures;
  paths = c.a_path_has_one_reading.ensures.text;
  cuts = c.a_text_is_cut_in_one_way.ensures;
})
