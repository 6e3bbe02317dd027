-- What is to be done is the decision.
use Rattle.pec_ledger.specs.Pairs.{pair_of}
use Rattle.pec_reception.proofs.NextLemmas.{shows_decision}
use Rattle.pec_reception.proofs.deciding.decide.Goals as goal

pub returns-clause-exact : goal.returns-clause-exact
returns-clause-exact c = λ trade. λ of. λ journal. λ is.
    shows_decision trade c.args.shelf.now.me c.args.moment c.args.virus journal
    (pair_of c.args.id c.args.recipient.now) c.args.shelf.now.half is c.in_ok-received.received
    (c.in_ok-received.ensures.exact trade of)
