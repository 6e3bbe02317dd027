-- The provider that writes is that of the message.
use Rattle.std.proofs.Common.{ap, ◌∙◌}
use Rattle.pec_types.specs.Bytes.{Bytes}
use Rattle.pec_types.specs.Message.{Id}
use Rattle.pec_directory.specs.Directory.{first_domain, providers_of}
use Rattle.pec_directory.specs.Fields.{service_at}
use Rattle.pec_letters.specs.Envelopes.{on_behalf}
use Rattle.pec_letters.proofs.envelopes.put_words.Goals as goal

pub returns-clause-from : goal.returns-clause-from
returns-clause-from c =
    c.in_ok-from.ensures
    ∙ ap (λ (d : Bytes). on_behalf c.args.facts.now.sender (service_at d))
    (c.first_domain.ensures ∙ ap (λ (i : Id). first_domain (providers_of c.args.directory.now) i.provider) c.id.view_is)
