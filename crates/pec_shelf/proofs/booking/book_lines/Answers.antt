use Rattle.std.proofs.Common.{sym, arith}
use Rattle.pec_shelf.specs.Drawers.{own_numbered, placed_row}
use Rattle.pec_shelf.specs.Sides.{booked_by}
use Rattle.pec_shelf.proofs.BookLemmas.{all_lines, lines_more}
use Rattle.pec_shelf.proofs.DrawerLemmas.{past_none, place_within, without_places_long}
use Rattle.pec_shelf.proofs.booking.book_lines.Goals as goal

pub push_message-requires : goal.push_message-requires
push_message-requires c =
    let within = place_within booked_by c.args.account.now 0 c.args.messages.now.rows c.loop-rank.rank (placed_row c.in-Some.ranked.now) c.in-Some.ensures in
    omega (arith, within, c.requires)

pub loop-rank-preserved : goal.loop-rank-preserved
loop-rank-preserved c =
    lines_more c.args.me c.args.shelf.now.half (own_numbered booked_by c.args.account.now 0 c.args.messages.now.rows) c.loop-rank.rank (placed_row c.in-Some.ranked.now)
    c.loop-rank.lines.items c.push_message.new.lines.items c.loop-rank.invariant c.in-Some.ensures c.in_ok-push_message.ensures

pub returns-in_default : goal.returns-in_default
returns-in_default c =
    all_lines c.args.me c.args.shelf.now.half c.args.account.now c.args.messages.now.rows c.loop-rank.rank c.loop-rank.lines.items c.loop-rank.invariant
    (past_none (own_numbered booked_by c.args.account.now 0 c.args.messages.now.rows) c.loop-rank.rank (sym c.in_default.ensures))

pub returns : goal.returns
returns c =
    all_lines c.args.me c.args.shelf.now.half c.args.account.now c.args.messages.now.rows c.loop-rank.rank c.loop-rank.lines.items c.loop-rank.invariant
    (omega (arith, c.count-rank-end.ensures.value, without_places_long booked_by c.args.account.now 0 c.args.messages.now.rows))
