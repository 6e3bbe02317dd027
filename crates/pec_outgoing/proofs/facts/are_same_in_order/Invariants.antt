use Rattle.std.proofs.Common.{◌≡◌, ◌↔◌, take, IsTrue}
use Rattle.pec_outgoing.proofs.facts.are_same_in_order.Given as goal

abbrev pub invariant-loop-place : goal.invariant-loop-place
invariant-loop-place l = IsTrue l.same ↔ (take l.place l.one ≡ take l.place l.other)
