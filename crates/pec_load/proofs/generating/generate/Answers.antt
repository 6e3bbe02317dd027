-- Message by message.
use Rattle.std.proofs.Common.{◌∙◌}
use Rattle.pec_script.specs.Texts.{line_of}
use Rattle.pec_load.specs.Generated.{rows_at}
use Rattle.pec_load.proofs.RangeLemmas.{rows_more}
use Rattle.pec_load.proofs.generating.generate.Goals as goal

pub loop-number-preserved : goal.loop-number-preserved
loop-number-preserved c =
    rows_more line_of (rows_at c.args.count) c.loop-number.number c.loop-number.text.items c.extend_from_slice.new.self.items
    c.deref.result.now c.loop-number.invariant (c.deref.ensures.value ∙ c.in_ok-lines.ensures)
    c.in_ok-extend_from_slice.ensures.items
