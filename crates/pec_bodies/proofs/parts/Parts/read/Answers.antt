-- What was read is what `parts_of` gives, and so what the body is.
use Rattle.pec_types.specs.Answers.{told_is_read}
use Rattle.pec_bodies.specs.Multiparts.{IsBodyFault, IsParts}
use Rattle.pec_bodies.specs.PartsReading.{parts_of}
use Rattle.pec_bodies.specs.declared.faults.BodyFault.TheVariants as faults
use Rattle.pec_bodies.proofs.parts.Parts.read.Goals as goal

pub returns : goal.returns
returns c =
    let head = c.args.head.now
    in let body = c.args.body.now
    in record {
      reads = told_is_read (IsParts head body) (IsBodyFault head body) faults.NoMemory c.cut.result (parts_of head body) (c.a_body_has_one_reading.ensures.told head body) c.cut.ensures;
      exact = c.cut.ensures;
    }
