use Rattle.std.specs.Prelude.{codes}
use Rattle.pec_types.specs.Address.{IsLowerAddress}
use Rattle.pec_cert.specs.Markup.{element}
use Rattle.pec_cert.proofs.PutLemmas.{line_taken, all_taken}
use Rattle.pec_cert.proofs.writing.put_received.Goals as goal

pub loop-address-preserved : goal.loop-address-preserved
loop-address-preserved c = record {
  lines = line_taken (element (codes "ricezione")) c.args.received.now c.loop-address.address-index c.address-item.result c.args.out.now.items c.loop-address.out.items
      c.put_element.new.out.items c.loop-address-test.true c.address-item.is c.loop-address.invariant.lines (rw c.bytes.ensures.value at c.in_ok-put_element.ensures);
  lower = all_taken IsLowerAddress c.args.received.now c.loop-address.address-index c.address-item.result c.loop-address-test.true c.address-item.is c.loop-address.invariant.lower c.bytes.ensures.is;
}
