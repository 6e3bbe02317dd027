-- Where no byte is a control byte, none is the first.
use Rattle.std.proofs.Common.{sym}
use Rattle.pec_heads.specs.Heads.{is_control}
use Rattle.pec_heads.proofs.Places.{no_place}
use Rattle.pec_heads.proofs.reading.control.Goals as goal

pub returns-then-is_plain-clause-value : goal.returns-then-is_plain-clause-value
returns-then-is_plain-clause-value c = sym (no_place is_control c.args.line.now (sym c.if-is_plain.ensures))
