use Rattle.std.proofs.Common.{Option, sym, ap, ◌∙◌}
use Rattle.std.specs.List.{find}
use Rattle.pec_ledger.specs.Half.{Taken}
use Rattle.pec_shelf.specs.Undecided.{is_open, pairs_of_row}
use Rattle.pec_shelf.proofs.undecided.decided_index.Goals as goal

pub returns : goal.returns
returns c = record {
  place = c.place-place.result;
  stands = c.in_ok-index.ensures;
  done = λ row got. ap (λ (r : Option Taken). find (is_open c.args.decided.now.rows) (pairs_of_row r)) (sym got) ∙ sym c.in-None.ensures;
}
