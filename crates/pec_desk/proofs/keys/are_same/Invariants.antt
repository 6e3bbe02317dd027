use Rattle.std.proofs.Common.{◌≡◌, ◌↔◌, take, IsTrue}
use Rattle.pec_desk.proofs.keys.are_same.Given as goal

abbrev pub invariant-loop-place : goal.invariant-loop-place
invariant-loop-place l = IsTrue l.same ↔ (take l.place l.given ≡ take l.place l.own)
