use Rattle.std.proofs.Common.{ap, ◌∙◌}
use Rattle.std.specs.List.{list_any}
use Rattle.pec_shelf.proofs.OwnLemmas.{pair_at, pair_at_back}
use Rattle.pec_shelf.specs.Lines.{is_for}
use Rattle.pec_shelf.proofs.shelf.Shelf.has_pair.Goals as goal

pub returns : goal.returns
returns c =
    let is = c.is_certified.ensures ∙ ap (list_any (is_for c.args.recipient.now)) c.certified.ensures in
    λ trade for. (pair_at trade c.args.self.now c.args.number c.args.recipient.now c.is_certified.result for is, pair_at_back trade c.args.self.now c.args.number c.args.recipient.now c.is_certified.result for is)
