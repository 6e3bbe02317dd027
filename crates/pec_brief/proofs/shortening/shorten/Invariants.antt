-- What was put, and what is left of the body with something in the place of each attachment, are the whole.
use Rattle.pec_brief.proofs.ShorteningLemmas.{Underway}
use Rattle.pec_brief.proofs.shortening.shorten.Given as goal

abbrev pub invariant-loop-i : goal.invariant-loop-i
invariant-loop-i l = Underway l.fn.original l.place l.parts l.i l.past l.out.items
