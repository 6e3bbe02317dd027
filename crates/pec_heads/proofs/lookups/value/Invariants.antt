-- The value that is looked for stands among the fields that are left, after as many of its name as are still to come.
use Rattle.std.proofs.Common.{◌≡◌, length, map}
use Rattle.std.specs.List.{slice_get}
use Rattle.pec_heads.specs.Heads.{cut, values_of}
use Rattle.pec_heads.specs.Views.{fields_at, fields_shown}
use Rattle.pec_heads.proofs.lookups.value.Given as goal

abbrev pub invariant-loop-rest : goal.invariant-loop-rest
invariant-loop-rest l =
    slice_get (values_of l.name (map cut (fields_at l.bytes l.rest))) l.before ≡ slice_get (values_of l.name (fields_shown l.fields)) l.i

abbrev pub decreases-loop-rest : goal.decreases-loop-rest
decreases-loop-rest l = length l.rest
