-- The law of texts, from the lemmas.
use Rattle.pec_ldif.proofs.LdifLaws.{ldif_told}
use Rattle.pec_ldif.proofs.reading.a_text_is_one_ldif.Goals as goal

pub returns : goal.returns
returns c = ldif_told
