use Rattle.std.proofs.Common.{◌≡◌, length}
use Rattle.std.specs.Prelude.{vec_capacity}
use Rattle.pec_posts.proofs.PartLemmas.{AllPartedSoFar}
use Rattle.pec_posts.proofs.parting.part.Given as goal

abbrev pub invariant-loop-tray : goal.invariant-loop-tray
invariant-loop-tray l = record {
  parted : AllPartedSoFar (length l.fn.arrivals.items) l.fn.arrivals.items l.rows l.takers l.arrivals.items l.tray-iterator.rest.items;
  room : vec_capacity l.arrivals ≡ vec_capacity l.fn.arrivals;
}
