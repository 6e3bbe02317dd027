use Rattle.std.proofs.Common.{◌≡◌, is_some, slice_get, true, sym, subst, ◌∙◌}
use Rattle.std.specs.List.{find}
use Rattle.pec_ledger.specs.Half.{Fate}
use Rattle.pec_ledger.specs.Pairs.{same_pair}
use Rattle.pec_shelf.proofs.WaitingLemmas.{one_row}
use Rattle.pec_shelf.proofs.still.is_heard_at.Goals as goal

pub returns-in-Some : goal.returns-in-Some
returns-in-Some c =
    λ heard fate got.
    subst (λ (f : Fate). is_some (find (same_pair f.pair) c.args.acked.now.rows) ≡ true)
    (one_row c.in-Some.row.now fate (slice_get c.args.decided.now c.args.place) c.in-Some.ensures got) (sym c.is_heard.ensures ∙ heard)
