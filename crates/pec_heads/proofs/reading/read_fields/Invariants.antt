-- What was read so far and what is still to be read are together what the whole message reads as.
use Rattle.std.proofs.Common.{◌≡◌, ◌+◌, [], length}
use Rattle.pec_heads.specs.Lines.{whole_lines}
use Rattle.pec_heads.specs.HeadReading.{head_from}
use Rattle.pec_heads.specs.Views.{AreStored, raw_fields}
use Rattle.pec_heads.proofs.reading.read_fields.Given as goal

abbrev pub invariant-loop-line : goal.invariant-loop-line
invariant-loop-line l = record {
  read : head_from (raw_fields l.fields) l.place (whole_lines l.rest) ≡ head_from [] 0 (whole_lines l.message);
  place : l.place + length l.rest ≡ length l.message;
  stored : AreStored l.fields;
}

abbrev pub decreases-loop-line : goal.decreases-loop-line
decreases-loop-line l = length l.rest
