use Rattle.std.proofs.Common.{sym, ap, ◌∙◌, arith}
use Rattle.std.specs.List.{range_with_len, remove}
use Rattle.pec_shelf.specs.Moves.{own_moved, places_of, ranks_left}
use Rattle.pec_shelf.proofs.DrawerLemmas.{past_none, took_all}
use Rattle.pec_shelf.proofs.MoveLemmas.{left_out, place_at, places_long}
use Rattle.pec_shelf.proofs.moves.ranks_left.Goals as goal

pub loop-at-preserved : goal.loop-at-preserved
loop-at-preserved c =
    let account = c.args.account.now in
    let rows = c.args.moves.now.rows in
    left_out (range_with_len 0 c.args.count) (places_of account rows) c.loop-at.at c.in-Some.row.now.what.place c.loop-at.ranks.items c.take_out.new.ranks.items
    c.loop-at.invariant (place_at account rows c.loop-at.at c.in-Some.row.now c.in-Some.ensures)
    (c.take_out.ensures ∙ ap (remove c.loop-at.ranks.items) c.place.ensures)

pub returns-in_default : goal.returns-in_default
returns-in_default c =
    let account = c.args.account.now in
    let rows = c.args.moves.now.rows in
    let long = places_long account rows in
    let past = past_none (own_moved account rows) c.loop-at.at (sym c.in_default.ensures) in
    c.loop-at.invariant
    ∙ ap (ranks_left (range_with_len 0 c.args.count)) (took_all (places_of account rows) c.loop-at.at (omega (arith, long, past)))

pub returns : goal.returns
returns c =
    let account = c.args.account.now in
    let rows = c.args.moves.now.rows in
    let long = places_long account rows in
    c.loop-at.invariant
    ∙ ap (ranks_left (range_with_len 0 c.args.count)) (took_all (places_of account rows) c.loop-at.at (omega (arith, long, c.count-at-end.ensures.value)))
