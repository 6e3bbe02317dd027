-- The first value is among the attributes that are left.
use Rattle.std.proofs.Common.{◌≡◌, length}
use Rattle.pec_ldif.specs.Tables.{first_value}
use Rattle.pec_ldif.proofs.tables.first_value.Given as goal

abbrev pub invariant-loop-rest : goal.invariant-loop-rest
invariant-loop-rest l = first_value l.name l.rest ≡ first_value l.name l.attributes

abbrev pub decreases-loop-rest : goal.decreases-loop-rest
decreases-loop-rest l = length l.rest
