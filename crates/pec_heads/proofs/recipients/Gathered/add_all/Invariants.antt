-- The recipients so far with the addresses that are left are all.
use Rattle.std.proofs.Common.{◌≡◌}
use Rattle.std.specs.Vec.Iter.{into_iter_items}
use Rattle.pec_heads.specs.FactsReading.{with_recipients}
use Rattle.pec_heads.specs.Views.{AreKnown}
use Rattle.pec_heads.proofs.recipients.Gathered.add_all.Given as goal

abbrev pub invariant-loop-address : goal.invariant-loop-address
invariant-loop-address l = record {
  added : with_recipients l.class l.self.all.items (into_iter_items l.address-iterator) ≡ with_recipients l.class l.fn.self.all.items l.fn.addresses.items;
  known : AreKnown l.self;
}
