-- The three parts of a turn, one behind the other.
use Rattle.pec_directory.specs.Directory.{providers_of}
use Rattle.pec_script.proofs.RowLemmas.{turn_text}
use Rattle.pec_script.proofs.turns.add_turn.Goals as goal

pub returns : goal.returns
returns c =
    turn_text (providers_of c.args.directory.now) c.args.turn.now c.name_of-name.result.now c.args.page.text.items c.in_ok-page.page.text.items
    c.in_ok-page-2.page.text.items c.in_ok-page-3.page.text.items c.as_slice.result.now c.as_slice-2.result.now
    c.name_of-name.ensures c.as_slice.ensures c.as_slice-2.ensures c.in_ok-page.ensures c.in_ok-page-2.ensures c.in_ok-page-3.ensures
