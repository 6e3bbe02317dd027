-- The lines are those of the text for people.
use Rattle.std.proofs.Common.{◌≡◌, ◌++◌, codes, ap, ◌∙◌}
use Rattle.pec_types.specs.Bytes.{Bytes}
use Rattle.pec_cert.specs.HeaderDate.{day_line_of}
use Rattle.pec_directory.specs.Directory.{providers_of}
use Rattle.pec_letter_facts.proofs.MadeLemmas.{lines_alike}
use Rattle.pec_letter_facts.specs.Certifying.{name_of, told_text, with_subject}
use Rattle.pec_letter_facts.proofs.certifying.told_text.Goals as goal

pub returns : goal.returns
unfolding told_text
returns c =
    let name : c.in_ok-name-2.name.items ≡ codes "Identificativo: " ++ name_of (providers_of c.args.directory.now) c.args.id =
    c.in_ok-name-2.ensures ∙ ap (λ (x : Bytes). codes "Identificativo: " ++ x) (c.bytes-2.ensures.value ∙ c.in_ok-name.ensures)
    in c.in_ok-text.ensures
    ∙ lines_alike c.as_slice.result.now (day_line_of c.args.stamp) c.as_slice-2.result.now (codes "Mittente: " ++ c.args.facts.now.sender)
    c.as_slice-3.result.now (with_subject (codes "Oggetto: ") c.args.facts.now.subject) c.as_slice-4.result.now
    (codes "Identificativo: " ++ name_of (providers_of c.args.directory.now) c.args.id) c.args.phrase.now
    (c.as_slice.ensures.value ∙ c.in_ok-day.ensures)
    (c.as_slice-2.ensures.value ∙ c.in_ok-sender.ensures ∙ ap (λ (x : Bytes). codes "Mittente: " ++ x) c.bytes.ensures.value)
    (c.as_slice-3.ensures.value ∙ c.in_ok-subject.ensures)
    (c.as_slice-4.ensures.value ∙ name)
