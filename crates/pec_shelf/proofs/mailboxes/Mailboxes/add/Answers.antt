use Rattle.std.proofs.Common.{List, sym, subst}
use Rattle.pec_ledger.specs.Half.{Posted}
use Rattle.pec_shelf.specs.Moves.{AreMoved}
use Rattle.pec_shelf.proofs.MoveLemmas.{still_moved}
use Rattle.pec_shelf.proofs.mailboxes.Mailboxes.add.Goals as goal

pub invariant_of-self : goal.invariant_of-self
invariant_of-self c =
    let rows = c.push_move.new.moves.rows in
    subst (λ (xs : List Posted). AreMoved xs rows) (sym c.add.ensures)
    (still_moved c.self.inside.boxes.items c.args.rows.items rows c.push_move.ensures.kept)
