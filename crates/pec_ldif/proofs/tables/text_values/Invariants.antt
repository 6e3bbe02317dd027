-- The values that were taken and those of the attributes that are left are together all of them.
use Rattle.std.proofs.Common.{◌≡◌, ◌++◌, length, map}
use Rattle.toml.specs.Data.{string}
use Rattle.toml.specs.View.{view}
use Rattle.pec_ldif.specs.Tables.{values_named}
use Rattle.pec_ldif.proofs.tables.text_values.Given as goal

abbrev pub invariant-loop-rest : goal.invariant-loop-rest
invariant-loop-rest l = map view l.values.items ++ map string (values_named l.name l.rest) ≡ map string (values_named l.name l.attributes)

abbrev pub decreases-loop-rest : goal.decreases-loop-rest
decreases-loop-rest l = length l.rest
