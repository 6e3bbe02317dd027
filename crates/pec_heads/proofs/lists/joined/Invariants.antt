-- What was joined and the values of the fields that are left are all values, each with a comma.
use Rattle.std.proofs.Common.{◌≡◌, ◌++◌, length, map}
use Rattle.std.specs.List.{flat_map}
use Rattle.pec_heads.specs.Heads.{cut, values_of}
use Rattle.pec_heads.specs.ListReading.{with_comma}
use Rattle.pec_heads.specs.Views.{fields_at, fields_shown}
use Rattle.pec_heads.proofs.lists.joined.Given as goal

abbrev pub invariant-loop-rest : goal.invariant-loop-rest
invariant-loop-rest l =
    l.text.items ++ flat_map with_comma (values_of l.name (map cut (fields_at l.bytes l.rest))) ≡ flat_map with_comma (values_of l.name (fields_shown l.fields))

abbrev pub decreases-loop-rest : goal.decreases-loop-rest
decreases-loop-rest l = length l.rest
