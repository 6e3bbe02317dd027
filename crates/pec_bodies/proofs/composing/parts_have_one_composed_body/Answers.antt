-- The law of composed bodies, from the lemmas.
use Rattle.pec_bodies.proofs.FreeLaws.{body_is, number_is, number_there}
use Rattle.pec_bodies.proofs.composing.parts_have_one_composed_body.Goals as goal

pub returns : goal.returns
returns c =
    let law = c.lines_have_their_size.ensures
    in record { number = number_is; body = body_is; there = number_there (record { several = law.several; text = law.text }) }
