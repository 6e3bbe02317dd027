use Rattle.std.proofs.Common.{◌<◌, arith, sym}
use Rattle.pec_shelf.proofs.DueLemmas.{due_before}
use Rattle.pec_shelf.proofs.marking.due_at.Goals as goal

pub returns-then-seconds : goal.returns-then-seconds
returns-then-seconds c =
    let before : c.args.now < c.args.accepted = omega (arith, c.if-seconds.true, c.seconds.ensures.value, c.seconds-2.ensures.value) in
    sym (due_before (record { at = c.args.now; accepted = c.args.accepted; charged = c.args.charged; warned = c.args.warned; noticed = c.args.noticed; known = c.args.known }) before)
