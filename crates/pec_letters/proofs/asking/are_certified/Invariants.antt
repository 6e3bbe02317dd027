-- What is left of both is alike where all of both is.
use Rattle.std.proofs.Common.{◌≡◌, map, length}
use Rattle.pec_heads.specs.BoundedFacts.{addresses_of}
use Rattle.pec_cert.specs.declared.certificates.CertRecipient.{CertRecipient}
use Rattle.pec_letters.specs.Seen.{is_path}
use Rattle.pec_letters.proofs.asking.are_certified.Given as goal

abbrev pub invariant-loop-rest : goal.invariant-loop-rest
invariant-loop-rest l = is_path (map (λ (r : CertRecipient). r.address) l.rest) (addresses_of l.others) ≡ is_path (map (λ (r : CertRecipient). r.address) l.certified) (addresses_of l.recipients)

abbrev pub decreases-loop-rest : goal.decreases-loop-rest
decreases-loop-rest l = length l.rest
