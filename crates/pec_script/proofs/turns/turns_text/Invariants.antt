use Rattle.std.proofs.Common.{◌≡◌, [], drop}
use Rattle.pec_directory.specs.Directory.{providers_of}
use Rattle.pec_script.specs.Pages.{text_for}
use Rattle.pec_script.specs.Texts.{turn_rows}
use Rattle.pec_script.proofs.turns.turns_text.Given as goal

abbrev pub invariant-loop-turn : goal.invariant-loop-turn
invariant-loop-turn l =
    text_for (turn_rows (providers_of l.directory)) l.page.text.items (drop l.turn-index l.turns) ≡ text_for (turn_rows (providers_of l.directory)) [] l.turns
