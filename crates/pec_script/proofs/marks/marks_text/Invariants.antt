use Rattle.std.proofs.Common.{◌≡◌, [], drop}
use Rattle.pec_directory.specs.Directory.{providers_of}
use Rattle.pec_script.specs.Pages.{text_for}
use Rattle.pec_script.specs.Texts.{mark_rows}
use Rattle.pec_script.proofs.marks.marks_text.Given as goal

abbrev pub invariant-loop-mark : goal.invariant-loop-mark
invariant-loop-mark l =
    text_for (mark_rows (providers_of l.directory)) l.page.text.items (drop l.mark-index l.marks) ≡ text_for (mark_rows (providers_of l.directory)) [] l.marks
