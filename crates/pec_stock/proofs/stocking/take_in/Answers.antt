use Rattle.std.proofs.Common.{◌∙◌, ap, subst, sym}
use Rattle.pec_records.specs.declared.entries.Entry.{Entry}
use Rattle.pec_chronicle.specs.Carrying.{with_entry}
use Rattle.pec_chronicle.specs.Opening.{place_behind}
use Rattle.pec_stock.specs.Stock.{Holds}
use Rattle.pec_stock.proofs.BeginningLemmas.{not_a_step, same_fault}
use Rattle.pec_stock.proofs.stocking.take_in.Goals as goal

pub returns-in-Err-clause-none : goal.returns-in-Err-clause-none
returns-in-Err-clause-none c = λ trade of is step.
    not_a_step trade c.args.shelf.now.me c.args.shelf.now.half c.args.entry c.in-Err.fault (c.in-Err.ensures.exact trade of)
    (same_fault c.in-Err.fault _ is) step

pub put_in-requires-clause-holds : goal.put_in-requires-clause-holds
put_in-requires-clause-holds c =
    let some = c.a_directory_has_a_trade.ensures c.args.directory.now in
    let here = c.requires.holds in (
      here.0,
      here.1,
      here.2 ∙ ap (λ (e : Entry). place_behind here.0 e) (sym (c.in-Ok.ensures.exact some.0 some.1).1),
    )

pub returns-in-Ok-put_in-clause-taken : goal.returns-in-Ok-put_in-clause-taken
returns-in-Ok-put_in-clause-taken c = λ entries holds.
    let some = c.a_directory_has_a_trade.ensures c.args.directory.now in
    subst (λ (e : Entry). Holds c.args.directory.now c.put_in.new.shelf (with_entry entries e)) (c.in-Ok.ensures.exact some.0 some.1).1
    (c.in-Ok-put_in.ensures.taken entries holds)

pub returns-in-Ok-put_in-clause-step : goal.returns-in-Ok-put_in-clause-step
returns-in-Ok-put_in-clause-step c = λ trade of. (c.in-Ok.ensures.exact trade of).0
