use Rattle.std.proofs.Common.{arith}
use Rattle.pec_shelf.specs.Undecided.{IsDecided}
use Rattle.pec_shelf.proofs.UndecidedLemmas.{closed_less, closed_within}
use Rattle.pec_shelf.proofs.inbox.Inbox.close.Goals as goal

pub remove-requires : goal.remove-requires
remove-requires c =
    closed_within (IsDecided c.self.inside.decided.rows) c.self.inside.taken.rows c.self.inside.undecided.places c.in-Some-decided_index.index c.in-Some-decided_index.ensures

pub invariant_of-self : goal.invariant_of-self
invariant_of-self c = record {
  taken = omega arith;
  decided = omega arith;
  acked = omega arith;
  places = omega arith;
  outcomes = omega arith;
  undecided = closed_less (IsDecided c.self.inside.decided.rows) c.self.inside.taken.rows c.self.inside.undecided.places c.remove.new.self.places c.in-Some-decided_index.index
      c.self.invariant.undecided c.in-Some-decided_index.ensures c.remove.ensures.places;
  unheard = c.self.invariant.unheard;
}
