-- The first of all is that of the bytes that are left, as many places further on.
use Rattle.std.proofs.Common.{◌≡◌, ◌+◌, false, drop}
use Rattle.std.specs.Option.{option_map}
use Rattle.pec_frames.specs.FramesReading.{feed_from}
use Rattle.pec_frames.proofs.paths.line_feed.Given as goal

abbrev pub invariant-loop-i : goal.invariant-loop-i
invariant-loop-i l = option_map (λ k. l.i + k) (feed_from l.returned (drop l.i l.text)) ≡ feed_from false l.text
