use Rattle.std.proofs.Common.{◌≡◌, [], drop}
use Rattle.pec_directory.specs.Directory.{providers_of}
use Rattle.pec_script.specs.Pages.{text_after}
use Rattle.pec_script.specs.Texts.{item_rows}
use Rattle.pec_script.proofs.mailboxes.item_lines.Given as goal

abbrev pub invariant-loop-place : goal.invariant-loop-place
invariant-loop-place l =
    text_after l.page.text.items (item_rows (providers_of l.directory) l.place (drop l.place l.lines)) ≡ text_after [] (item_rows (providers_of l.directory) 0 l.lines)
