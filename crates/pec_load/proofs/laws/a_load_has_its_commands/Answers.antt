-- By the laws that are called.
use Rattle.pec_load.proofs.RowLemmas.{Told, load_few, load_heard}
use Rattle.pec_load.proofs.laws.a_load_has_its_commands.Goals as goal

pub returns : goal.returns
returns c =
    let told : Told = record {
      lines = c.lines_are_the_text.ensures.ended;
      address = c.an_address_is_told_exactly.ensures;
      path = c.a_path_has_one_reading.ensures.text;
    } in
    record { heard = load_heard told; few = load_few }
