-- The law of facts, from the lemmas.
use Rattle.pec_heads.proofs.FactLaws.{one_facts}
use Rattle.pec_heads.proofs.ReadingLaws.{facts_told}
use Rattle.pec_heads.proofs.heads.a_head_has_one_account.Goals as goal

pub returns : goal.returns
returns c = let told = c.an_address_is_told_exactly.ensures in record { one = one_facts told; told = facts_told told }
