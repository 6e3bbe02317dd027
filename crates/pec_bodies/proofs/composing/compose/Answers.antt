-- What is composed is what the functions give.
use Rattle.pec_bodies.proofs.composing.compose.Goals as goal

pub returns-clause-number : goal.returns-clause-number
returns-clause-number c = ((c.parts_have_one_composed_body.ensures.body c.args.parts.now c.in_ok-made.made.0 c.in_ok-made.made.1.items).1 c.in_ok-made.ensures).0

pub returns-clause-body : goal.returns-clause-body
returns-clause-body c = ((c.parts_have_one_composed_body.ensures.body c.args.parts.now c.in_ok-made.made.0 c.in_ok-made.made.1.items).1 c.in_ok-made.ensures).1
