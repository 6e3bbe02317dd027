-- The law of printable texts, from the lemmas.
use Rattle.pec_types.proofs.TextLaws.{all_printable, printable_all, printable_address}
use Rattle.pec_types.proofs.texts.printable_is_said_of_each_byte.Goals as goal

pub returns-clause-each : goal.returns-clause-each
returns-clause-each c = λ bytes. (all_printable bytes, printable_all bytes)

pub returns-clause-address : goal.returns-clause-address
returns-clause-address c = printable_address
