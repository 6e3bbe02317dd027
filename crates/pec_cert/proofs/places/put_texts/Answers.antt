use Rattle.std.specs.Prelude.{codes}
use Rattle.pec_cert.specs.Markup.{element}
use Rattle.pec_cert.proofs.PutLemmas.{line_taken}
use Rattle.pec_cert.proofs.places.put_texts.Goals as goal

pub loop-address-preserved : goal.loop-address-preserved
loop-address-preserved c =
    line_taken (element (codes "ricezione")) c.args.received.now c.loop-address.address-index c.address-item.result c.args.out.now.items c.loop-address.out.items
    c.put_element.new.out.items c.loop-address-test.true c.address-item.is c.loop-address.invariant (rw c.bytes.ensures.value at c.in_ok-put_element.ensures)
