use Rattle.std.proofs.Common.{ap, sym, subst, List}
use Rattle.pec_places.specs.Rows.{Rows}
use Rattle.pec_shelf.specs.Moves.{AreMoved, Moved}
use Rattle.pec_shelf.proofs.MoveLemmas.{none_moved}
use Rattle.pec_shelf.proofs.mailboxes.Mailboxes.new.Goals as goal

pub invariant_of-result : goal.invariant_of-result
invariant_of-result c =
    subst (λ (rows : List Moved). AreMoved c.new.result.items rows) (sym (ap (λ (r : Rows Moved). r.rows) c.new-2.ensures)) (none_moved c.new.result.items)
