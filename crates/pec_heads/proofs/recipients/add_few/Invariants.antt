-- The recipients so far with the addresses that are left are all.
use Rattle.std.proofs.Common.{◌≡◌}
use Rattle.std.specs.Vec.Iter.{into_iter_items}
use Rattle.pec_heads.specs.FactsReading.{with_recipients}
use Rattle.pec_heads.proofs.recipients.add_few.Given as goal

abbrev pub invariant-loop-address : goal.invariant-loop-address
invariant-loop-address l =
    with_recipients l.class l.all.items (into_iter_items l.address-iterator) ≡ with_recipients l.class l.fn.all.items l.fn.addresses.items
