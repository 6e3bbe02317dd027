use Rattle.pec_shelf.proofs.SizeLemmas.{sizes_more}
use Rattle.pec_shelf.proofs.sizes.addresses_bytes.Goals as goal

pub loop-address-preserved : goal.loop-address-preserved
loop-address-preserved c =
    sizes_more c.args.addresses.now c.loop-address.address-index c.address-item.result c.loop-address.bytes c.in_ok-bytes.bytes c.address_bytes.result c.loop-address-test.true
    c.address-item.is c.loop-address.invariant c.in_ok-bytes.ensures c.address_bytes.ensures.bytes
