-- The first of all is that of the bytes that are left, as many places further on.
use Rattle.std.proofs.Common.{◌≡◌, ◌+◌, drop}
use Rattle.std.specs.Option.{option_map}
use Rattle.pec_frames.specs.FramesReading.{comma_at}
use Rattle.pec_frames.proofs.paths.comma.Given as goal

abbrev pub invariant-loop-i : goal.invariant-loop-i
invariant-loop-i l = option_map (λ k. l.i + k) (comma_at (drop l.i l.text)) ≡ comma_at l.text
