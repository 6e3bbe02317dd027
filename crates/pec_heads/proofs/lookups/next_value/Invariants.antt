-- Among the fields before those that are left none has the name.
use Rattle.std.proofs.Common.{◌≡◌, length, map}
use Rattle.pec_heads.specs.Heads.{cut, values_of}
use Rattle.pec_heads.specs.Views.{fields_at}
use Rattle.pec_heads.proofs.lookups.next_value.Given as goal

abbrev pub invariant-loop-rest : goal.invariant-loop-rest
invariant-loop-rest l =
    values_of l.name (map cut (fields_at l.bytes l.rest)) ≡ values_of l.name (map cut (fields_at l.bytes l.starts))

abbrev pub decreases-loop-rest : goal.decreases-loop-rest
decreases-loop-rest l = length l.rest
