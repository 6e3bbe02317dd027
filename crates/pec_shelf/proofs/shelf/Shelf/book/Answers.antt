use Rattle.std.proofs.Common.{ℕ, ap, ◌∙◌}
use Rattle.pec_shelf.specs.Lines.{book_rows}
use Rattle.pec_shelf.proofs.KeptLemmas.{the_book}
use Rattle.pec_shelf.proofs.shelf.Shelf.book.Goals as goal

pub returns : goal.returns
returns c =
    λ trade for.
    c.in_ok-lines.ensures ∙ ap (λ (me : ℕ). book_rows me c.args.self.now.half c.args.account.now 0 c.messages.result.now.rows) c.me.ensures
    ∙ the_book trade c.args.self.now c.args.account.now c.messages.result.now.rows c.messages.ensures.messages c.messages.ensures.certified for
