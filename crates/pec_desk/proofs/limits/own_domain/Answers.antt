use Rattle.std.proofs.Common.{◌<◌, ◌≤◌, length, sym, subst, arith}
use Rattle.pec_types.specs.Bytes.{Bytes}
use Rattle.pec_directory.specs.Directory.{first_domain, providers_of}
use Rattle.std.proofs.lemmas.List.{length-map}
use Rattle.pec_directory.specs.Directory.{Kept}
use Rattle.pec_desk.proofs.limits.own_domain.Goals as goal

pub returns-clause-short : goal.returns-clause-short
returns-clause-short c =
    let providers = providers_of c.args.directory.now in
    let within : c.args.number < length providers =
    omega (arith, c.requires, length-map c.args.directory.now (λ (one : Kept). one.provider)) in
    subst (λ (b : Bytes). length b ≤ 236) (sym c.first_domain.ensures)
    (c.a_first_domain_is_one_providers.ensures.short providers (first_domain providers c.args.number) c.count.ensures.lawful
    (c.a_first_domain_is_one_providers.ensures.own providers c.args.number c.count.ensures.lawful within))
