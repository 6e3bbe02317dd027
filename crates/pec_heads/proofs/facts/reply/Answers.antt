-- An address is printable.
use Rattle.pec_heads.proofs.FactSteps.{address_printable}
use Rattle.pec_heads.proofs.facts.reply.Goals as goal

pub of_printable-requires : goal.of_printable-requires
of_printable-requires c = rw c.bytes.ensures.value (address_printable c.args.sender.now c.bytes.ensures.is)
