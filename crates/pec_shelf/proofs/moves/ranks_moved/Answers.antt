use Rattle.std.proofs.Common.{ℕ, [], ◌∷◌, ◌++◌, map, sym, ap, ◌∙◌, arith}
use Rattle.pec_shelf.specs.Moves.{Moved, own_moved}
use Rattle.pec_shelf.proofs.DrawerLemmas.{map_more, past_none, took_all}
use Rattle.pec_shelf.proofs.moves.ranks_moved.Goals as goal

pub loop-at-preserved : goal.loop-at-preserved
loop-at-preserved c =
    map_more (λ (moved : Moved). moved.rank) (own_moved c.args.account.now c.args.moves.now.rows) c.loop-at.at c.in-Some.row.now c.loop-at.ranks.items
    _ c.loop-at.invariant c.in-Some.ensures
    (c.in_ok-push.ensures.items ∙ ap (λ (r : ℕ). c.loop-at.ranks.items ++ r ∷ []) c.rank.ensures)

pub returns-in_default : goal.returns-in_default
returns-in_default c =
    let own = own_moved c.args.account.now c.args.moves.now.rows in
    c.loop-at.invariant
    ∙ ap (map (λ (moved : Moved). moved.rank)) (took_all own c.loop-at.at (past_none own c.loop-at.at (sym c.in_default.ensures)))

pub returns : goal.returns
returns c =
    let own = own_moved c.args.account.now c.args.moves.now.rows in
    c.loop-at.invariant
    ∙ ap (map (λ (moved : Moved). moved.rank)) (took_all own c.loop-at.at (omega (arith, c.count-at-end.ensures.value)))
