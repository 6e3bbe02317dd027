use Rattle.std.proofs.Common.{subst}
use Rattle.pec_grammar.specs.Reading.{standing}
use Rattle.pec_cert.proofs.CheckLemmas.{Found}
use Rattle.pec_cert.proofs.FrontLaws.{address_is, address_isnt}
use Rattle.pec_cert.proofs.wrong.address.Goals as goal

pub returns-in-Some : goal.returns-in-Some
returns-in-Some c =
    let e = rw c.new.ensures at c.in-Ok.ensures in
    let found = subst (λ o. Found o c.bytes-2.result.now) c.in-Some.is c.in_ok-lower_address.ensures in
    let right = rw c.bytes-2.ensures.value at found.1 in
    address_is c.an_address_is_told_exactly.ensures c.args.size c.args.text.now (c.in-Ok.taken.0, standing c.in-Ok.taken.1) e right

pub returns : goal.returns
returns c =
    let e = rw c.new.ensures at c.in-Ok.ensures in
    let found = subst (λ o. Found o c.bytes-2.result.now) c.in-None.is c.in_ok-lower_address.ensures in
    let wrong = rw c.bytes-2.ensures.value at found in
    rw c.saturating_sub-place.ensures (address_isnt c.an_address_is_told_exactly.ensures c.args.size c.args.text.now (c.in-Ok.taken.0, standing c.in-Ok.taken.1) e wrong)
