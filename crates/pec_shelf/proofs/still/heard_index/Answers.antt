use Rattle.std.proofs.Common.{List, slice_get, ap, ◌∙◌}
use Rattle.pec_ledger.specs.Half.{Fate}
use Rattle.pec_shelf.proofs.still.heard_index.Goals as goal

pub returns : goal.returns
returns c = record {
  place = c.place-place.result;
  stands = c.in_ok-index.ensures;
  done = λ fate got.
      c.is_heard_at.ensures c.if-not-is_heard_at.false fate (ap (λ (rows : List Fate). slice_get rows c.place-place.result) c.rows.ensures ∙ got);
}
