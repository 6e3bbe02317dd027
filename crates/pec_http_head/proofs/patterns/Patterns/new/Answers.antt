-- The four patterns are read, and none is in another's way.
use Rattle.std.proofs.Common.{refl}
use Rattle.pec_http_head.specs.Patterns.{entry_of, row_of, rows, tokens}
use Rattle.pec_http_head.proofs.RouterLemmas.{book_read, item_read, items_read, submit_read}
use Rattle.pec_http_head.proofs.patterns.Patterns.new.Goals as goal

pub add-requires : goal.add-requires
unfolding entry_of tokens
add-requires c = record { pattern = submit_read; free = rw c.new-router.ensures refl }

pub add-requires-2 : goal.add-requires-2
unfolding entry_of row_of tokens
add-requires-2 c = record { pattern = book_read; free = rw (c.in_ok-add.ensures, c.new-router.ensures) refl }

pub add-requires-3 : goal.add-requires-3
unfolding entry_of row_of tokens
add-requires-3 c = record { pattern = items_read; free = rw (c.in_ok-add-2.ensures, c.in_ok-add.ensures, c.new-router.ensures) refl }

pub add-requires-4 : goal.add-requires-4
unfolding entry_of row_of tokens
add-requires-4 c = record { pattern = item_read; free = rw (c.in_ok-add-3.ensures, c.in_ok-add-2.ensures, c.in_ok-add.ensures, c.new-router.ensures) refl }

pub invariant_of-result : goal.invariant_of-result
unfolding entry_of row_of rows tokens
invariant_of-result c = rw (c.in_ok-add-4.ensures, c.in_ok-add-3.ensures, c.in_ok-add-2.ensures, c.in_ok-add.ensures, c.new-router.ensures) refl
