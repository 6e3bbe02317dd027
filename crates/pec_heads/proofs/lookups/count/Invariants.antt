-- Those counted and those among the fields that are left are all of that name.
use Rattle.std.proofs.Common.{◌≡◌, ◌+◌, ◌≤◌, length, map}
use Rattle.pec_heads.specs.Heads.{cut, values_of}
use Rattle.pec_heads.specs.Views.{fields_at, fields_shown}
use Rattle.pec_heads.proofs.lookups.count.Given as goal

abbrev pub invariant-loop-rest : goal.invariant-loop-rest
invariant-loop-rest l = record {
  counted : l.count + length (values_of l.name (map cut (fields_at l.bytes l.rest))) ≡ length (values_of l.name (fields_shown l.fields));
  within : l.count + length l.rest ≤ length l.fields.starts.items;
}

abbrev pub decreases-loop-rest : goal.decreases-loop-rest
decreases-loop-rest l = length l.rest
