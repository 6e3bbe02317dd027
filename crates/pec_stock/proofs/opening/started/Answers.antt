use Rattle.std.proofs.Common.{◌∷◌, [], ◌∙◌, ap, subst, sym}
use Rattle.pec_records.specs.declared.entries.Entry.{Entry}
use Rattle.pec_chronicle.specs.Opening.{place_behind}
use Rattle.pec_shelf.specs.Prepared.{IsStep}
use Rattle.pec_stock.specs.Stock.{IsOwn}
use Rattle.pec_stock.proofs.BeginningLemmas.{holds_new, start_own, start_step}
use Rattle.pec_stock.proofs.opening.started.Goals as goal

pub put_in-requires-clause-holds : goal.put_in-requires-clause-holds
put_in-requires-clause-holds c = (
  [],
  holds_new c.args.directory.now c.args.me c.new-shelf.result c.new-shelf.ensures,
  c.in_ok-place.ensures ∙ ap (λ (e : Entry). place_behind [] e) c.entry.ensures,
)

pub put_in-requires-clause-step : goal.put_in-requires-clause-step
put_in-requires-clause-step c =
    let some = c.a_directory_has_a_trade.ensures c.args.directory.now in
    record {
      trade = some.0;
      of = some.1;
      step = subst (IsStep some.0 c.new-shelf.result.me c.new-shelf.result.half) (sym c.plain-start.ensures)
          (start_step c.args.directory.now c.args.me c.new-shelf.result c.new-shelf.ensures some.0 some.1 _ c.in_ok-digest.ensures);
    }

pub returns-clause-holds : goal.returns-clause-holds
returns-clause-holds c = c.in_ok-put_in.ensures.taken [] (holds_new c.args.directory.now c.args.me c.new-shelf.result c.new-shelf.ensures)

pub returns-clause-own : goal.returns-clause-own
returns-clause-own c = λ trade of.
    subst (λ (e : Entry). IsOwn trade c.args.me (e ∷ [])) (sym c.plain-start.ensures)
    (start_own c.args.directory.now c.args.me c.new-shelf.result c.new-shelf.ensures trade of _ c.in_ok-digest.ensures)
