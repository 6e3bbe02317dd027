use Rattle.pec_grammar.specs.Reading.{standing}
use Rattle.pec_records.proofs.AddressLoopLemmas.{read_is_lower}
use Rattle.pec_records.proofs.addresses.read_address.Goals as goal

pub of_lower-requires : goal.of_lower-requires
of_lower-requires c =
    read_is_lower c.lower_addresses_pass.ensures c.in_ok-length.length (standing c.args.at) (standing c.in_ok-length.after_length) (standing c.in_ok-bytes.after) _
    c.in_ok-length.ensures c.in_ok-bytes.ensures
