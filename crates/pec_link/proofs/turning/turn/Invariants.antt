use Rattle.std.proofs.Common.{◌≡◌, ◌++◌, take, drop}
use Rattle.pec_link.specs.Ends.{AreSettled}
use Rattle.pec_link.proofs.turning.turn.Given as goal

abbrev pub invariant-loop : goal.invariant-loop
invariant-loop l = record {
  settled : AreSettled l.putter l.taker;
  ring : l.putter.ring ≡ l.fn.putter.ring;
  waiting : l.taker.waiting ≡ drop l.counter l.fn.taker.waiting ++ take l.counter l.fn.taker.waiting;
  taken : l.taker.taken ≡ l.fn.taker.taken ++ take l.counter l.fn.taker.waiting;
}
