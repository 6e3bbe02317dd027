-- The last line stands behind those of the items.
use Rattle.std.proofs.Common.{◌∷◌, [], codes, length, ◌∙◌}
use Rattle.std.specs.Fmt.{decimal}
use Rattle.pec_directory.specs.Directory.{providers_of}
use Rattle.pec_script.proofs.RowLemmas.{last_line}
use Rattle.pec_script.specs.Texts.{item_rows, items_text}
use Rattle.pec_script.proofs.mailboxes.items_text.Goals as goal

pub returns : goal.returns
unfolding items_text
returns c =
    let lines = c.args.lines.now in
    c.in_ok-page-2.ensures
    ∙ last_line (item_rows (providers_of c.args.directory.now) 0 lines) (codes "mailbox" ∷ decimal (length lines) ∷ []) c.in_ok-page.page.text.items c.in_ok-page.ensures
