-- The last line stands behind those of the book.
use Rattle.std.proofs.Common.{◌∷◌, [], codes, length, ◌∙◌}
use Rattle.std.specs.Fmt.{decimal}
use Rattle.pec_directory.specs.Directory.{providers_of}
use Rattle.pec_types.specs.declared.messages.BookLine.{BookLine}
use Rattle.pec_script.proofs.RowLemmas.{last_of_each, none_left}
use Rattle.pec_script.specs.Pages.{only}
use Rattle.pec_script.specs.Texts.{book_row, book_text}
use Rattle.pec_script.proofs.books.book_text.Goals as goal

pub returns : goal.returns
unfolding book_text
returns c =
    let row = book_row (providers_of c.args.directory.now) in
    let lines = c.args.lines.now in
    let text = c.loop-line.page.text.items in
    c.in_ok-page-2.ensures
    ∙ last_of_each row lines (codes "book" ∷ decimal (length lines) ∷ []) text
    (none_left (λ (line : BookLine). only (row line)) text lines c.loop-line.line-index _ c.loop-line-test.false c.loop-line.invariant)
