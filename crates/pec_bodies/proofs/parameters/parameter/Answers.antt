-- Each turn looks at the first of the pieces that are left.
use Rattle.std.proofs.Common.{Some, None, drop, sym, ◌∙◌, ◌+◌, arith, length-drop}
use Rattle.std.proofs.lemmas.List.{take_rest}
use Rattle.pec_bodies.specs.ParametersReading.{parameter_of}
use Rattle.pec_bodies.proofs.PieceLemmas.{looked_at}
use Rattle.pec_bodies.proofs.parameters.parameter.Goals as goal

pub returns-in-Some-value_named : goal.returns-in-Some-value_named
unfolding parameter_of
returns-in-Some-value_named c =
    looked_at c.args.name.now c.loop-at.rest.now c.first_piece.result.now c.in-Some.at (Some c.in-Some-value_named.found.now) (sym c.in-Some.ensures.value) (rw take_rest at c.first_piece.ensures)
    c.in-Some-value_named.ensures
    ∙ c.loop-at.invariant.read

pub loop-at-preserved : goal.loop-at-preserved
loop-at-preserved c =
    let rest = drop (c.in-Some.at + 1) c.loop-at.rest.now
    in rw take_rest record {
      read = looked_at c.args.name.now c.loop-at.rest.now c.first_piece.result.now c.in-Some.at None (sym c.in-Some.ensures.value) (rw take_rest at c.first_piece.ensures)
          c.in_default-value_named.ensures
          ∙ c.loop-at.invariant.read;
      within = omega (arith, length-drop (c.in-Some.at + 1) c.loop-at.rest.now, c.loop-at.invariant.within);
    }
