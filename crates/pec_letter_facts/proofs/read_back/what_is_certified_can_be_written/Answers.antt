-- Names are printable, and so is all that facts say.
use Rattle.pec_letter_facts.proofs.CertLemmas.{called_printable, can_be_written, facts_printable}
use Rattle.pec_letter_facts.proofs.read_back.what_is_certified_can_be_written.Goals as goal

pub returns-clause-written : goal.returns-clause-written
returns-clause-written c = λ providers issuer id stamp facts report lawful within called printable some reported.
    can_be_written providers issuer id stamp facts report (c.a_name_is_one_short_line.ensures.printable providers id lawful within) called printable some reported

pub returns-clause-issuer : goal.returns-clause-issuer
returns-clause-issuer c = λ providers number provider lawful is. called_printable c.printable_is_said_of_each_byte.ensures.each providers number provider lawful is

pub returns-clause-facts : goal.returns-clause-facts
returns-clause-facts c = λ facts bounded. facts_printable facts bounded
