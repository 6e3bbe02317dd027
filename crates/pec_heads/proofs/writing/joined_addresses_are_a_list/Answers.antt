-- The law of joined addresses, from the lemmas.
use Rattle.pec_heads.proofs.AddressListLaws.{joined_list, text_list}
use Rattle.pec_heads.proofs.writing.joined_addresses_are_a_list.Goals as goal

pub returns : goal.returns
returns c = record { bare = joined_list; lower = text_list }
