-- The certificate is made of copies.
use Rattle.std.proofs.Common.{map, ap, ◌∙◌}
use Rattle.pec_directory.specs.Directory.{providers_of}
use Rattle.pec_letter_facts.proofs.MadeLemmas.{copied, copied_alike, made_alike}
use Rattle.pec_letter_facts.specs.Certifying.{certificate_of, name_of, typed}
use Rattle.pec_letter_facts.proofs.certifying.certificate.Goals as goal

pub returns : goal.returns
unfolding certificate_of
returns c =
    let providers = providers_of c.args.directory.now
    in let facts = c.args.facts.now
    in made_alike c.args.report c.args.stamp c.in_ok-provider.provider c.args.issuer.now c.in_ok-id.id (name_of providers c.args.id) c.of.result (map (typed providers) facts.recipients)
    (copied facts c.in_ok-sender.sender c.in_ok-reply.reply c.in_ok-subject.subject c.in_ok-reference.reference) facts
    c.in_ok-provider.ensures c.in_ok-id.ensures
    (c.of.ensures ∙ c.in_ok-recipients.ensures ∙ ap (map (typed providers)) c.as_slice.ensures)
    (copied_alike facts c.in_ok-sender.sender c.in_ok-reply.reply c.in_ok-subject.subject c.in_ok-reference.reference
    c.in_ok-sender.ensures c.in_ok-reply.ensures c.in_ok-subject.ensures c.in_ok-reference.ensures)
