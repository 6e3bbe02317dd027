use Rattle.std.proofs.Common.{◌≡◌, [], drop}
use Rattle.pec_directory.specs.Directory.{providers_of}
use Rattle.pec_types.specs.declared.messages.BookLine.{BookLine}
use Rattle.pec_script.specs.Pages.{only, text_for}
use Rattle.pec_script.specs.Texts.{book_row}
use Rattle.pec_script.proofs.books.book_text.Given as goal

abbrev pub invariant-loop-line : goal.invariant-loop-line
invariant-loop-line l =
    text_for (λ (line : BookLine). only (book_row (providers_of l.directory) line)) l.page.text.items (drop l.line-index l.lines)
    ≡ text_for (λ (line : BookLine). only (book_row (providers_of l.directory) line)) [] l.lines
