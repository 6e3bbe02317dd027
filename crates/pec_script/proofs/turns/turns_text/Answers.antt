-- The last line stands behind those of the turns.
use Rattle.std.proofs.Common.{◌∷◌, [], codes, ◌∙◌}
use Rattle.pec_directory.specs.Directory.{providers_of}
use Rattle.pec_script.proofs.RowLemmas.{last_of_many, none_left}
use Rattle.pec_script.specs.Texts.{turn_rows, turns_text}
use Rattle.pec_script.proofs.turns.turns_text.Goals as goal

pub returns : goal.returns
unfolding turns_text
returns c =
    let rows = turn_rows (providers_of c.args.directory.now) in
    let turns = c.args.turns.now in
    let text = c.loop-turn.page.text.items in
    c.in_ok-page-2.ensures
    ∙ last_of_many rows turns (codes "round" ∷ []) text (none_left rows text turns c.loop-turn.turn-index _ c.loop-turn-test.false c.loop-turn.invariant)
