use Rattle.std.proofs.Common.{arith}
use Rattle.pec_reception.proofs.PathLemmas.{alone}
use Rattle.pec_reception.proofs.paths.is_alone.Goals as goal

pub returns : goal.returns
returns c =
    alone c.args.path.now c.one-item.result c.args.address.now c.is_empty.result (omega arith) c.one-item.is
    (rw c.bytes.ensures.value at c.if-ne.ensures) c.is_empty.ensures
