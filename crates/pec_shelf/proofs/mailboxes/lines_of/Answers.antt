use Rattle.std.proofs.Common.{[], ap, ◌∙◌, arith}
use Rattle.std.specs.List.{flat_map}
use Rattle.pec_shelf.specs.Moves.{items_of}
use Rattle.pec_shelf.proofs.DrawerLemmas.{took_all}
use Rattle.pec_shelf.proofs.LoopLemmas.{flat_behind}
use Rattle.pec_shelf.proofs.MoveLemmas.{line_in, lines_flat}
use Rattle.pec_shelf.proofs.mailboxes.lines_of.Goals as goal

pub loop-rank-preserved : goal.loop-rank-preserved
loop-rank-preserved c =
    flat_behind (line_in (items_of c.args.account.now c.args.boxes.now.items)) c.args.ranks.now c.loop-rank.rank-index 0 [] _ _ c.loop-rank-test.true c.loop-rank.invariant c.in_ok-push_line.ensures

pub returns : goal.returns
returns c =
    let items = items_of c.args.account.now c.args.boxes.now.items in
    c.loop-rank.invariant
    ∙ ap (flat_map (line_in items)) (took_all c.args.ranks.now c.loop-rank.rank-index (omega (arith, c.loop-rank-test.false)))
    ∙ lines_flat items c.args.ranks.now
