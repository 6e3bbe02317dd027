-- The last line stands behind those of the marks.
use Rattle.std.proofs.Common.{◌∷◌, [], codes, ◌∙◌}
use Rattle.pec_directory.specs.Directory.{providers_of}
use Rattle.pec_script.proofs.RowLemmas.{last_of_many, none_left}
use Rattle.pec_script.specs.Texts.{mark_rows, marks_text}
use Rattle.pec_script.proofs.marks.marks_text.Goals as goal

pub returns : goal.returns
unfolding marks_text
returns c =
    let rows = mark_rows (providers_of c.args.directory.now) in
    let marks = c.args.marks.now in
    let text = c.loop-mark.page.text.items in
    c.in_ok-page-2.ensures
    ∙ last_of_many rows marks (codes "ticked" ∷ []) text (none_left rows text marks c.loop-mark.mark-index _ c.loop-mark-test.false c.loop-mark.invariant)
