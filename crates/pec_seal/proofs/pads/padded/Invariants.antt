use Rattle.std.proofs.Common.{◌≡◌, ◌++◌, take, drop}
use Rattle.pec_seal.specs.Hmac.{padded}
use Rattle.pec_seal.proofs.pads.padded.Given as goal

abbrev pub invariant-loop-byte : goal.invariant-loop-byte
invariant-loop-byte l =
    l.byte-items ≡ padded (take l.byte-index l.fn.block) l.pad ++ drop l.byte-index l.fn.block
