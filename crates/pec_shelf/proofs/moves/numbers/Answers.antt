use Rattle.std.proofs.Common.{◌≡◌, ap, ◌∙◌, arith}
use Rattle.std.specs.List.{range_with_len}
use Rattle.pec_shelf.proofs.MoveLemmas.{range_more}
use Rattle.pec_shelf.proofs.moves.numbers.Goals as goal

pub loop-number-preserved : goal.loop-number-preserved
loop-number-preserved c =
    range_more c.loop-number.number c.loop-number.numbers.items _ c.loop-number.invariant c.in_ok-push.ensures.items

pub returns : goal.returns
returns c =
    let all : c.loop-number.number ≡ c.args.count = omega arith in
    c.loop-number.invariant ∙ ap (range_with_len 0) all
