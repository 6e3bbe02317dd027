-- Values are printable and short, and addresses are.
use Rattle.pec_letter_facts.proofs.LineLemmas.{angled_line, printable_append, subject_line, text_line}
use Rattle.pec_letter_facts.proofs.read_back.a_value_is_one_line.Goals as goal

pub returns-clause-angled : goal.returns-clause-angled
returns-clause-angled c = λ name printable short. angled_line c.printable_is_said_of_each_byte.ensures.each name printable short

pub returns-clause-text : goal.returns-clause-text
returns-clause-text c = λ text is. text_line c.blanks_are_cut_at_both_ends.ensures.kept text is

pub returns-clause-subject : goal.returns-clause-subject
returns-clause-subject c = λ prefix subject printable short is. subject_line c.printable_is_said_of_each_byte.ensures.each prefix subject printable short is

pub returns-clause-address : goal.returns-clause-address
returns-clause-address c = λ address is. (c.printable_is_said_of_each_byte.ensures.address address is, is.address.short)

pub returns-clause-joined : goal.returns-clause-joined
returns-clause-joined c = λ front back a b. printable_append c.printable_is_said_of_each_byte.ensures.each front back a b
