-- A target's route, by the pattern that spells it.
use Rattle.std.proofs.Common.{◌≡◌, ◌∙◌, refl, sym, None, Some}
use Rattle.pec_http_head.specs.Patterns.{call_as}
use Rattle.pec_http_head.specs.Routes.{account_in}
use Rattle.pec_http_head.proofs.PatternLemmas.{spelled_route}
use Rattle.pec_http_head.proofs.routes.Route.read.Goals as goal

pub returns-in_default-call_of : goal.returns-in_default-call_of
returns-in_default-call_of c =
    let none : call_as c.in-Some.found.asked c.in-Some.found.place.now ≡ None = sym c.call_of.ensures ∙ c.in_default-call_of.is in
    sym (spelled_route c.args.target.now _ _ _ c.in-Some.ensures ∙ rw none refl)

pub returns-in_default-2 : goal.returns-in_default-2
returns-in_default-2 c =
    let call : call_as c.in-Some.found.asked c.in-Some.found.place.now ≡ Some c.in-Some-call_of.call = sym c.call_of.ensures ∙ c.in-Some-call_of.is in
    let none : account_in c.in-Some.found.account.now ≡ None = sym c.in_ok-address.ensures ∙ c.in_default-2.is in
    sym (spelled_route c.args.target.now _ _ _ c.in-Some.ensures ∙ rw (call, none) refl)

pub returns : goal.returns
returns c =
    let call : call_as c.in-Some.found.asked c.in-Some.found.place.now ≡ Some c.in-Some-call_of.call = sym c.call_of.ensures ∙ c.in-Some-call_of.is in
    let address : account_in c.in-Some.found.account.now ≡ Some c.in-Some-2.address = sym c.in_ok-address.ensures ∙ c.in-Some-2.is in
    sym (spelled_route c.args.target.now _ _ _ c.in-Some.ensures ∙ rw (call, address) refl)
