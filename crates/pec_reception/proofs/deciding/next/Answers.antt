-- The shelf's next undecided pair is the first of the journal's.
use Rattle.pec_reception.proofs.NextLemmas.{is_next}
use Rattle.pec_reception.proofs.deciding.next.Goals as goal

pub returns : goal.returns
returns c = λ trade. λ journal. λ steps. λ is.
    is_next trade c.args.shelf.now.me journal steps c.args.shelf.now.half _ is c.next_undecided-found.ensures
