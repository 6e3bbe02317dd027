use Rattle.pec_cert.specs.Lines.{addressee_text}
use Rattle.pec_cert.proofs.PutLemmas.{line_taken}
use Rattle.pec_cert.proofs.places.put_addressees.Goals as goal

pub loop-r-preserved : goal.loop-r-preserved
loop-r-preserved c =
    line_taken addressee_text c.args.addressees.now c.loop-r.r-index c.r-item.result c.args.out.now.items c.loop-r.out.items
    c.put_addressee.new.out.items c.loop-r-test.true c.r-item.is c.loop-r.invariant (rw c.bytes.ensures.value at c.in_ok-put_addressee.ensures)
