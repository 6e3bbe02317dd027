use Rattle.std.proofs.Common.{arith}
use Rattle.pec_shelf.specs.Still.{IsHeard}
use Rattle.pec_shelf.proofs.UndecidedLemmas.{closed_less, closed_within}
use Rattle.pec_shelf.proofs.inbox.Inbox.close_outcome.Goals as goal

pub remove-requires : goal.remove-requires
remove-requires c =
    closed_within (IsHeard c.self.inside.acked.rows) c.self.inside.decided.rows c.self.inside.unheard.places c.in-Some-heard_index.index c.in-Some-heard_index.ensures

pub invariant_of-self : goal.invariant_of-self
invariant_of-self c = record {
  taken = omega arith;
  decided = omega arith;
  acked = omega arith;
  places = omega arith;
  outcomes = omega arith;
  undecided = c.self.invariant.undecided;
  unheard = closed_less (IsHeard c.self.inside.acked.rows) c.self.inside.decided.rows c.self.inside.unheard.places c.remove.new.self.places c.in-Some-heard_index.index
      c.self.invariant.unheard c.in-Some-heard_index.ensures c.remove.ensures.places;
}
