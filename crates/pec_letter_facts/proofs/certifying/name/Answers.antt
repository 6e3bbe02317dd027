-- The name of a message of the directory is printable.
use Rattle.std.proofs.Common.{◌≡◌, ◌<◌, length, subst, sym, ap, ◌∙◌, arith}
use Rattle.std.proofs.lemmas.List.{length-map}
use Rattle.pec_types.specs.Bytes.{Bytes}
use Rattle.pec_types.specs.Message.{Id}
use Rattle.pec_types.specs.Text.{AllPrintable}
use Rattle.pec_types.specs.Words.{id_text}
use Rattle.pec_directory.specs.Directory.{Kept, first_domain, providers_of}
use Rattle.pec_letter_facts.specs.Certifying.{name_of}
use Rattle.pec_letter_facts.proofs.certifying.name.Goals as goal

pub of_printable-requires : goal.of_printable-requires
of_printable-requires c =
    let id = c.args.id
    in let providers = providers_of c.args.directory.now
    in let within : id.provider < length providers = omega (arith, length-map c.args.directory.now (λ (one : Kept). one.provider), c.requires)
    in let domain : c.first_domain.result.now ≡ first_domain providers id.provider = c.first_domain.ensures ∙ ap (λ (i : Id). first_domain providers i.provider) c.id.view_is
    in let name : c.as_slice.result.now ≡ name_of providers id =
    c.as_slice.ensures.value ∙ c.in_ok-bytes.ensures ∙ ap (λ (d : Bytes). id_text d c.id.inside.number) domain
    ∙ ap (λ (i : Id). id_text (first_domain providers id.provider) i.number) c.id.view_is
    in subst AllPrintable (sym name) (c.a_name_is_one_short_line.ensures.printable providers id c.count.ensures.lawful within)
