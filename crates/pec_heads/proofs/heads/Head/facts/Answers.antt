-- What was found is what `facts_of` tells, and so what the head says.
use Rattle.std.proofs.Common.{refl}
use Rattle.pec_heads.proofs.ReadingLaws.{facts_reads}
use Rattle.pec_heads.proofs.heads.Head.facts.Goals as goal

pub returns : goal.returns
returns c =
    let exact = rw c.self.view_is at c.read_facts.ensures
    in record { reads = facts_reads c.an_address_is_told_exactly.ensures c.args.self.now (record {}) c.read_facts.result (λ fault. refl) exact; exact = exact }
