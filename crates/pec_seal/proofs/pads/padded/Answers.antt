use Rattle.std.proofs.Common.{arith, rules, bit_xor}
use Rattle.std.proofs.lemmas.List.Edits.{map_over_more}
use Rattle.pec_seal.proofs.pads.padded.Goals as goal

pub loop-byte-preserved : goal.loop-byte-preserved
loop-byte-preserved c =
    let step = c.loop-byte in
    map_over_more (λ byte. bit_xor byte c.args.pad) c.args.block step.byte-items step.byte-index _ (omega arith)
    step.invariant (search rules)
