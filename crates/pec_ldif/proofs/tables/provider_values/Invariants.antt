-- The tables that were made and those of the records that are left are together all of them.
use Rattle.std.proofs.Common.{◌≡◌, ◌++◌, length, map}
use Rattle.toml.specs.View.{view}
use Rattle.pec_ldif.specs.Tables.{provider_tables}
use Rattle.pec_ldif.proofs.tables.provider_values.Given as goal

abbrev pub invariant-loop-rest : goal.invariant-loop-rest
invariant-loop-rest l = map view l.values.items ++ provider_tables l.rest ≡ provider_tables l.entries

abbrev pub decreases-loop-rest : goal.decreases-loop-rest
decreases-loop-rest l = length l.rest
