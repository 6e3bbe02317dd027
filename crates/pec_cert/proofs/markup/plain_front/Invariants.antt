use Rattle.std.proofs.Common.{◌≡◌, ◌+◌, drop}
use Rattle.std.specs.List.{prefix_len}
use Rattle.pec_cert.specs.LinesReading.{is_plain}
use Rattle.pec_cert.proofs.markup.plain_front.Given as goal

abbrev pub invariant-loop-i : goal.invariant-loop-i
invariant-loop-i l = l.i + prefix_len is_plain (drop l.i l.text) ≡ prefix_len is_plain l.text
