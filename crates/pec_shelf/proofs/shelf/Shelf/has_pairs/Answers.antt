use Rattle.std.proofs.Common.{ap, ◌∙◌}
use Rattle.std.specs.List.{list_any}
use Rattle.pec_shelf.proofs.OwnLemmas.{pairs_at, pairs_at_back}
use Rattle.pec_shelf.specs.Lines.{is_at}
use Rattle.pec_shelf.proofs.shelf.Shelf.has_pairs.Goals as goal

pub returns : goal.returns
returns c =
    let is = c.has_pairs_at.ensures ∙ ap (list_any (is_at c.args.by)) c.certified.ensures in
    λ trade for. (pairs_at trade c.args.self.now c.args.number c.args.by c.has_pairs_at.result for is, pairs_at_back trade c.args.self.now c.args.number c.args.by c.has_pairs_at.result for is)
