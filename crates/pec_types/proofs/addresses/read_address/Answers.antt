use Rattle.std.proofs.Common.{arith}
use Rattle.std.proofs.lemmas.List.{take_rest}
use Rattle.pec_types.proofs.AddressLaws.{read_through}
use Rattle.pec_types.proofs.LowerCase.{kept_address}
use Rattle.pec_types.proofs.addresses.read_address.Goals as goal

pub of_lower-requires : goal.of_lower-requires
of_lower-requires c =
    kept_address _ _
    (read_through c.args.text.now c.in-Some.sign c.if-is_empty.ensures (omega arith) c.in-Some.ensures.sign
    c.in_default-stop.ensures.stop (rw take_rest at c.in_default-stop-2.ensures.stop))
    c.in_ok-bytes.ensures
