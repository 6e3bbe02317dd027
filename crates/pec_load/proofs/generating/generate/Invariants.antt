use Rattle.std.proofs.Common.{◌≡◌}
use Rattle.std.specs.List.{flat_map, range_with_len}
use Rattle.pec_script.specs.Texts.{text_of}
use Rattle.pec_load.specs.Generated.{rows_at}
use Rattle.pec_load.proofs.generating.generate.Given as goal

abbrev pub invariant-loop-number : goal.invariant-loop-number
invariant-loop-number l = l.text.items ≡ text_of (flat_map (rows_at l.count) (range_with_len 0 l.number))
