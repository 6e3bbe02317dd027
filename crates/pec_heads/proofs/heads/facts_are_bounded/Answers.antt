-- The law of bounds, from the lemmas.
use Rattle.pec_heads.proofs.BoundLaws.{bounded, first_short, gathered, recipients_are_both}
use Rattle.pec_heads.specs.FactsOfHeads.{first_value}
use Rattle.pec_heads.proofs.heads.facts_are_bounded.Goals as goal

pub returns : goal.returns
returns c = record { texts = bounded c.what_is_read_is_in_lower_case.ensures; gathered = gathered; recipients = recipients_are_both c.an_address_is_told_exactly.ensures; short = λ name fields. first_short (first_value name fields) }
