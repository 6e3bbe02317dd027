-- The lines of books, from the lemmas.
use Rattle.pec_ledger.proofs.TableLemmas.{book_says}
use Rattle.pec_ledger.proofs.tables.the_books.Goals as goal

pub returns : goal.returns
returns c = book_says
