-- The accounts that were found are those of the table.
use Rattle.std.proofs.Common.{sym, arith}
use Rattle.std.proofs.lemmas.Bool.{eqb-false, eqb-true}
use Rattle.pec_trade.specs.TradeOf.{trade_of}
use Rattle.pec_reception.proofs.ArrivalLemmas.{of_directory}
use Rattle.pec_reception.proofs.OtherLemmas.{empty, placed_limited, shows_anomaly, shows_dropped}
use Rattle.pec_reception.specs.Views.{framed_shown}
use Rattle.pec_reception.proofs.others.otherwise.Goals as goal

pub returns-then-is_empty-clause-exact : goal.returns-then-is_empty-clause-exact
returns-then-is_empty-clause-exact c = λ seals. λ journal. λ is.
    let kept = c.args.directory.now
    in let trade = trade_of kept seals
    in let none = eqb-true _ 0 (sym c.if-is_empty.ensures)
    in shows_dropped trade c.args.shelf.now.me c.args.moment journal
    (framed_shown c.args.framed.now) c.args.shelf.now.half is
    c.in_ok-accounts.accounts.items c.passes.result
    (rw c.as_slice.ensures.value at (c.in_ok-accounts.ensures.accounts trade (of_directory kept seals)))
    (empty c.in_ok-accounts.accounts.items (omega (arith, c.in_ok-accounts.accounts.ok.0, none))) c.passes.ensures

pub returns-clause-exact : goal.returns-clause-exact
returns-clause-exact c = λ seals. λ journal. λ is.
    let kept = c.args.directory.now
    in let trade = trade_of kept seals
    in let some = eqb-false _ 0 (sym c.if-is_empty.ensures)
    in shows_anomaly trade c.args.shelf.now.me c.args.moment journal
    (framed_shown c.args.framed.now) c.args.shelf.now.half is
    c.in_ok-accounts.accounts.items c.len-count.result c.enters.result
    (rw c.as_slice.ensures.value at (c.in_ok-accounts.ensures.accounts trade (of_directory kept seals)))
    (omega (arith, c.in_ok-accounts.accounts.ok.0, some))
    (omega (arith, c.in_ok-accounts.accounts.ok.0, c.len-count.ensures))
    (rw (c.plain-entry.ensures, c.of.ensures, c.of-2.ensures, c.in_ok-message.ensures.items) at c.enters.ensures)

pub returns-clause-limits : goal.returns-clause-limits
returns-clause-limits c =
    placed_limited c.args.moment c.in_ok-accounts.accounts.items c.args.framed.now.message.now c.len-count.result
    c.enters.result
    (rw (c.plain-entry.ensures, c.of.ensures, c.of-2.ensures, c.in_ok-message.ensures.items) at c.enters.ensures)
    (omega (arith, c.in_ok-accounts.ensures.few, c.as_slice.ensures.value, c.requires.within.path))
    c.requires.within.message
