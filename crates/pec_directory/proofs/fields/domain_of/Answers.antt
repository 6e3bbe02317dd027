use Rattle.pec_directory.proofs.FormLemmas.{domain_printable}
use Rattle.pec_directory.proofs.fields.domain_of.Goals as goal

pub of_printable-requires : goal.of_printable-requires
of_printable-requires c =
    domain_printable record { each = c.printable_is_said_of_each_byte.ensures.each; address = c.printable_is_said_of_each_byte.ensures.address }
    c.args.address c.domain.result.now (rw c.address.view_is at c.address.invariant) c.domain.ensures.domain
