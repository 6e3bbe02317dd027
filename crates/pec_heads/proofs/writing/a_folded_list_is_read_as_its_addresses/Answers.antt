-- The law of a folded list, from the lemmas.
use Rattle.pec_heads.proofs.AddressListLaws.{list_stands, list_shown, folded_list}
use Rattle.pec_heads.proofs.writing.a_folded_list_is_read_as_its_addresses.Goals as goal

pub returns : goal.returns
returns c = record { stands = list_stands; shown = list_shown; list = folded_list }
