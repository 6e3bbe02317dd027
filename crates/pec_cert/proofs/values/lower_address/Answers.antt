use Rattle.pec_cert.proofs.LowerAddressLemmas.{none_lower, other_lower, same_lower}
use Rattle.pec_cert.proofs.values.lower_address.Goals as goal

pub returns-in_default : goal.returns-in_default
returns-in_default c = none_lower c.an_address_is_told_exactly.ensures c.args.bytes.now c.in_ok-address.field-0 c.in_ok-address.ensures c.in_default.is

pub returns-then-ne : goal.returns-then-ne
returns-then-ne c =
    other_lower c.an_address_is_told_exactly.ensures c.args.bytes.now c.in_ok-address.field-0 c.in_ok-address.ensures c.in-Some.address c.bytes.result.now c.in-Some.is c.bytes.ensures.value c.if-ne.ensures

pub returns : goal.returns
returns c = same_lower c.args.bytes.now c.in-Some.address c.bytes.result.now c.bytes.ensures.value c.if-ne.ensures c.bytes.ensures.is
