-- The law of places, from the lemmas.
use Rattle.pec_bodies.proofs.LineFacts.{Sizes}
use Rattle.pec_bodies.proofs.OrderLaws.{parts_in_order, unchanged}
use Rattle.pec_bodies.proofs.parts.parts_stand_in_order.Goals as goal

pub returns : goal.returns
returns c =
    let law = c.lines_have_their_size.ensures
    in let sizes : Sizes = record { several = law.several; text = law.text }
    in record { order = parts_in_order sizes; unchanged = unchanged sizes }
