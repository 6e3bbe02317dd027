use Rattle.pec_types.specs.Address.{IsLowerAddress}
use Rattle.pec_cert.specs.Certificate.{addressee}
use Rattle.pec_cert.specs.Lines.{addressee_text}
use Rattle.pec_cert.specs.declared.certificates.CertRecipient.{CertRecipient}
use Rattle.pec_cert.proofs.PutLemmas.{lines_taken, all_taken}
use Rattle.pec_cert.proofs.writing.put_recipients.Goals as goal

pub loop-r-preserved : goal.loop-r-preserved
loop-r-preserved c = record {
  lines = lines_taken addressee_text addressee c.args.recipients.now c.loop-r.r-index c.r-item.result c.args.out.now.items c.loop-r.out.items c.put_addressee.new.out.items
      c.loop-r-test.true c.r-item.is c.loop-r.invariant.lines (rw c.bytes.ensures.value at c.in_ok-put_addressee.ensures);
  lower = all_taken (λ (r : CertRecipient). IsLowerAddress r.address) c.args.recipients.now c.loop-r.r-index c.r-item.result c.loop-r-test.true c.r-item.is c.loop-r.invariant.lower c.bytes.ensures.is;
}
