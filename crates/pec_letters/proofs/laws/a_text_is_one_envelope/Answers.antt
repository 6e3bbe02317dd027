-- Letters are told exactly, and so is what the table says of them.
use Rattle.pec_letter_parts.specs.Letters.{IsLetter, IsUnread}
use Rattle.pec_letter_parts.specs.LettersReading.{letter_of}
use Rattle.pec_letters.proofs.RowLemmas.{names_passed}
use Rattle.pec_letter_parts.specs.Told.{table_told}
use Rattle.pec_letters.specs.Seen.{seen_of}
use Rattle.pec_letters.specs.SeenReading.{view}
use Rattle.pec_letters.proofs.laws.a_text_is_one_envelope.Goals as goal

pub returns-clause-told : goal.returns-clause-told
unfolding view
returns-clause-told g c = λ sealer providers text.
    let seals = g.S.Sealer.seals sealer
    in table_told (IsLetter seals text) (IsUnread seals text) (seen_of providers) (letter_of seals text) (c.a_text_is_one_letter.ensures.letter sealer text)

pub returns-clause-names : goal.returns-clause-names
unfolding view
returns-clause-names g c = λ sealer providers text seen e.
    let seals = g.S.Sealer.seals sealer
    in let told = table_told (IsLetter seals text) (IsUnread seals text) (seen_of providers) (letter_of seals text) (c.a_text_is_one_letter.ensures.letter sealer text)
    in let found = (told.value seen).0 e
    in (found.0, (found.1.0, names_passed providers found.0 seen found.1.1))
