use Rattle.std.proofs.Common.{◌≡◌, ◌++◌, take, map}
use Rattle.std.specs.List.{flat_map, AllByRecursion}
use Rattle.pec_types.specs.Address.{IsLowerAddress}
use Rattle.pec_cert.specs.Certificate.{addressee}
use Rattle.pec_cert.specs.Lines.{addressee_text}
use Rattle.pec_cert.specs.declared.certificates.CertRecipient.{CertRecipient}
use Rattle.pec_cert.proofs.writing.put_recipients.Given as goal

abbrev pub invariant-loop-r : goal.invariant-loop-r
invariant-loop-r l = record {
  lines : l.out.items ≡ l.fn.out.items ++ flat_map addressee_text (map addressee (take l.r-index l.recipients));
  lower : AllByRecursion (λ (r : CertRecipient). IsLowerAddress r.address) (take l.r-index l.recipients);
}
