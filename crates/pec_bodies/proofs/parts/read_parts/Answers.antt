-- The first part that isn't read stops the reading.
use Rattle.std.proofs.Common.{[], ◌+◌, sym, ◌∙◌, arith, get_or, drop}
use Rattle.std.proofs.lemmas.List.{at_drop_more, length-map}
use Rattle.std.proofs.lemmas.Result.{err_from_is_err_and}
use Rattle.pec_bodies.proofs.PartLaws.{stopped}
use Rattle.pec_bodies.specs.PartsReading.{parts_from}
use Rattle.pec_bodies.specs.declared.cutting.Whole.{Whole}
use Rattle.pec_bodies.specs.Views.{entries_shown, entry_shown, whole_shown, wholes_shown}
use Rattle.pec_bodies.proofs.parts.read_parts.Goals as goal

pub returns-in_err-part : goal.returns-in_err-part
returns-in_err-part c =
    let same = err_from_is_err_and c.from_residual.result c.from_residual.ensures.1
    in let parts = c.loop-whole.parts.items
    in let wholes = c.args.wholes.now
    in let i = c.loop-whole.whole-index
    in let none : Whole = record { start = 0; bytes = record { ref_ptr = (0, 0); now = [] } }
    in rw (same.1, same.2) λ stays.
    sym c.loop-whole.invariant
    ∙ at_drop_more (λ ws. parts_from (entries_shown parts) (wholes_shown ws)) wholes i none c.loop-whole-test.true
    ∙ stopped (entries_shown parts) c.len.result (whole_shown (get_or wholes i none)) (wholes_shown (drop (i + 1) wholes)) c.in_err-part.field-0.0
    (omega (arith, c.len.ensures, c.loop-whole.parts.ok.0, length-map parts entry_shown))
    (c.in_err-part.ensures stays)
