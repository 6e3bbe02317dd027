-- The lines that were put are those of all items.
use Rattle.std.proofs.Common.{sym, ◌∙◌}
use Rattle.std.proofs.lemmas.List.{at_drop_all}
use Rattle.pec_directory.specs.Directory.{providers_of}
use Rattle.pec_script.specs.Pages.{text_after}
use Rattle.pec_script.specs.Texts.{item_rows}
use Rattle.pec_script.proofs.mailboxes.item_lines.Goals as goal

pub returns : goal.returns
returns c =
    let providers = providers_of c.args.directory.now in
    let lines = c.args.lines.now in
    let text = c.loop-place.page.text.items in
    sym (at_drop_all (λ rest. text_after text (item_rows providers c.loop-place.place rest)) lines c.loop-place.place c.loop-place-test.false) ∙ c.loop-place.invariant
