-- What was read is what `attribute_of` tells, and so what the line says.
use Rattle.pec_types.specs.Answers.{told_is_read}
use Rattle.pec_ldif.specs.Attributes.{IsAttribute, IsAttributeFault}
use Rattle.pec_ldif.specs.AttributesReading.{attribute_of}
use Rattle.pec_ldif.specs.declared.faults.LdifFault.TheVariants.{NoMemory}
use Rattle.pec_ldif.proofs.attributes.read_attribute.Goals as goal

pub returns : goal.returns
returns c = record {
  reads = told_is_read (IsAttribute c.args.line.now) (IsAttributeFault c.args.line.now) NoMemory c.read_named.result (attribute_of c.args.line.now)
      (c.a_line_is_one_attribute.ensures c.args.line.now) c.read_named.ensures;
  exact = c.read_named.ensures;
}
