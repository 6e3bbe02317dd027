-- The bytes so far are safe ones.
use Rattle.std.proofs.Common.{◌≡◌, map, take}
use Rattle.pec_brief.specs.Attachments.{safe_byte}
use Rattle.pec_brief.proofs.attachments.safe_bytes.Given as goal

abbrev pub invariant-loop-byte : goal.invariant-loop-byte
invariant-loop-byte l = l.safe.items ≡ map safe_byte (take l.byte-index l.name)
