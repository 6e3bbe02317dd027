use Rattle.std.proofs.Common.{◌≤◌, arith, sym, subst}
use Rattle.pec_records.specs.declared.entries.Entry.{Entry}
use Rattle.pec_ledger.specs.Steps.{moment_of}
use Rattle.pec_shelf.specs.Prepared.{IsStep}
use Rattle.pec_shelf.specs.Settled.{settled}
use Rattle.pec_shelf.proofs.StepLemmas.{drafts_none, drafts_own}
use Rattle.pec_shelf.proofs.TradeLemmas.{settled_of, trade_of}
use Rattle.pec_shelf.proofs.checking.drafted.Goals as goal

pub returns-then-not-branch-clause-exact : goal.returns-then-not-branch-clause-exact
returns-then-not-branch-clause-exact c = λ trade of.
    drafts_none c.args.directory.now trade c.args.shelf.now.me c.args.shelf.now.half c.args.entry c.in_ok-draft.draft c.in_ok-is_own.field-0 of
    (c.in_ok-is_own.ensures trade (c.requires (settled c.args.directory.now trade) (settled_of c.args.directory.now trade))) c.if-not-branch.true c.in_ok-draft.ensures

pub returns-clause-exact : goal.returns-clause-exact
returns-clause-exact c = λ trade of.
    let before : c.args.shelf.now.half.last ≤ c.moment_of.result = omega (arith, c.last.ensures) in
    let in_time : c.args.shelf.now.half.last ≤ moment_of c.args.entry = omega (arith, before, c.moment_of.ensures.value) in
    drafts_own c.args.directory.now trade c.args.shelf.now.me c.args.shelf.now.half c.args.entry c.in_ok-draft.draft c.in_ok-is_own.field-0 of
    (c.in_ok-is_own.ensures trade (c.requires (settled c.args.directory.now trade) (settled_of c.args.directory.now trade))) c.if-not-branch.false c.in_ok-draft.ensures in_time

pub returns-clause-follows : goal.returns-clause-follows
returns-clause-follows c =
    let trade = trade_of c.args.directory.now in
    let before : c.args.shelf.now.half.last ≤ c.moment_of.result = omega (arith, c.last.ensures) in
    let in_time : c.args.shelf.now.half.last ≤ moment_of c.args.entry = omega (arith, before, c.moment_of.ensures.value) in
    let drafts = drafts_own c.args.directory.now trade.0 c.args.shelf.now.me c.args.shelf.now.half c.args.entry c.in_ok-draft.draft c.in_ok-is_own.field-0 trade.1
    (c.in_ok-is_own.ensures trade.0 (c.requires (settled c.args.directory.now trade.0) (settled_of c.args.directory.now trade.0))) c.if-not-branch.false c.in_ok-draft.ensures in_time in
    record {
      trade = trade.0;
      of = trade.1;
      step = subst (λ (e : Entry). IsStep trade.0 c.args.shelf.now.me c.args.shelf.now.half e) (sym drafts.1) drafts.0;
    }
