use Rattle.std.proofs.Common.{length, refl, ap, arith}
use Rattle.pec_shelf.specs.Sides.{Sent, Standing}
use Rattle.pec_shelf.proofs.WatchLemmas.{watched_new}
use Rattle.pec_shelf.proofs.shelf.Shelf.new.Goals as goal

pub invariant_of-result : goal.invariant_of-result
invariant_of-result c = record {
  own = ap (λ (s : Sent). s.me) c.new.ensures;
  few = omega (arith, ap (λ (s : Sent). length s.messages) c.new.ensures);
  full = rw (ap (λ (s : Sent). s.messages) c.new.ensures) (omega arith);
  placed = ap (λ (s : Standing). length s.places) c.new-5.ensures;
  watched = watched_new c.new-4.result 0 c.new.result c.args.me c.new-4.ensures refl c.new.ensures;
}
