-- What was read is what `list_of` tells, and so what the joined values are.
use Rattle.pec_heads.specs.Heads.{joined_values}
use Rattle.pec_heads.proofs.ReadingLaws.{list_reads}
use Rattle.pec_heads.proofs.heads.Head.addresses.Goals as goal

pub returns : goal.returns
returns c =
    let exact = rw c.self.view_is at c.list_named.ensures
    in record { reads = list_reads c.an_address_is_told_exactly.ensures (λ v. v.items) (joined_values c.args.name.now c.args.self.now) c.list_named.result exact; exact = exact }
