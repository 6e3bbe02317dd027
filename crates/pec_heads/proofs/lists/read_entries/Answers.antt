-- Each turn reads the first of the entries that are left.
use Rattle.std.proofs.Common.{◌∙◌, ap, arith, drop, length, length-drop}
use Rattle.std.proofs.lemmas.List.{take_rest}
use Rattle.std.proofs.lemmas.Result.{err_from_is_err_and}
use Rattle.pec_heads.proofs.EntrySteps.{entry_within, turn_ok, turn_err}
use Rattle.pec_heads.proofs.lists.read_entries.Goals as goal

pub returns-in_err-add_entry : goal.returns-in_err-add_entry
returns-in_err-add_entry c =
    let p = err_from_is_err_and c.from_residual.result c.from_residual.ensures.1
    in let e = rw take_rest at c.first_entry-entry.ensures
    in rw (p.1, p.2, ← c.loop-place.invariant.read)
    (turn_err c.loop-place.addresses.items c.loop-place.place c.args.text.now c.first_entry-entry.result.now c.in_err-add_entry.field-0.0 (omega arith) e c.in_err-add_entry.ensures)

pub loop-place-preserved : goal.loop-place-preserved
loop-place-preserved c =
    let e = rw take_rest at c.first_entry-entry.ensures
    in record {
      read = turn_ok c.loop-place.addresses.items c.add_entry.new.addresses.items c.loop-place.place c.args.text.now c.first_entry-entry.result.now (omega arith) e c.in_ok-add_entry.ensures
          ∙ c.loop-place.invariant.read;
      within = omega (arith, ap length e, entry_within (drop c.loop-place.place c.args.text.now), length-drop c.loop-place.place c.args.text.now);
    }
