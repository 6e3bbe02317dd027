-- The attributes that were read and those of the lines that are left are together all of them.
use Rattle.std.proofs.Common.{◌≡◌, [], drop}
use Rattle.pec_ldif.specs.RecordsReading.{attributes_from}
use Rattle.pec_ldif.proofs.records.read_attributes.Given as goal

abbrev pub invariant-loop-line : goal.invariant-loop-line
invariant-loop-line l = attributes_from l.attributes.items (drop l.line-index l.lines) ≡ attributes_from [] l.lines
