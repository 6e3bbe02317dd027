-- A kind certifies something, or it is that of acknowledgements.
use Rattle.std.proofs.Common.{◌≡◌, Option, None, Some, refl}
use Rattle.pec_receipts.proofs.AgainLemmas.{none_said}
use Rattle.pec_receipts.proofs.laws.what_is_given_is_seen.Goals as goal
use Rattle.pec_receipts.specs.Kinds.{Said, row_of}

by_row : {Seen : Type 0} (found : Option Said) → ((said : Said) → found ≡ Some said → Seen) → (found ≡ None → Seen) → Seen
by_row None certified acknowledged = acknowledged refl
by_row (Some said) certified acknowledged = certified said refl

pub returns : goal.returns
returns g c = λ sealer kept r original text lawful given facts below before few is.
    by_row (row_of r.kind).said
    (λ said says. c.what_is_certified_is_seen.ensures sealer kept r said original text lawful given facts below before few says is)
    (λ none. c.an_acknowledgement_is_seen.ensures sealer kept r original text lawful given facts below before few (none_said r.kind none) is)
