use Rattle.std.proofs.Common.{◌≡◌, sym, ◌∙◌, ap, subst}
use Rattle.pec_types.specs.Address.{HasDomain, IsAddress}
use Rattle.pec_types.specs.AddressReading.{domain_of}
use Rattle.pec_types.proofs.AddressLaws.{domain_is}
use Rattle.pec_types.proofs.addresses.Address.domain.Goals as goal

pub returns-clause-domain : goal.returns-clause-domain
returns-clause-domain c =
    subst (λ domain. HasDomain c.args.self.now domain) (sym (c.behind_sign.ensures ∙ ap domain_of c.bytes.ensures.value))
    (domain_is c.args.self.now c.bytes.ensures.is.address)
