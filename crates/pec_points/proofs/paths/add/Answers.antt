-- The index has the address and what it had before.
use Rattle.pec_points.proofs.KnownLemmas.{one_added}
use Rattle.pec_points.proofs.paths.add.Goals as goal

pub returns : goal.returns
returns c = λ key.
    rw (← c.bytes.ensures.value)
    (one_added c.in_ok-add.field-0 c.args.known.now c.add.new.self c.bytes.result.now c.in_ok-add.ensures.added
    c.in_ok-add.ensures.kept key)
