-- One address more is known.
use Rattle.pec_types.specs.Bytes.{Bytes}
use Rattle.pec_points.proofs.KnownLemmas.{one_more}
use Rattle.pec_points.proofs.paths.known_of.Goals as goal

pub loop-address-preserved : goal.loop-address-preserved
loop-address-preserved c =
    one_more (λ (address : Bytes). address) c.args.path.now c.loop-address.address-index c.address-item.result
    c.loop-address.known c.add.new.known c.loop-address-test.true c.address-item.is c.loop-address.invariant
    c.in_ok-add.ensures
