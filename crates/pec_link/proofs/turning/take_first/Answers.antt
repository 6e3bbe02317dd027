use Rattle.std.proofs.Common.{List, length, drop, ap, ◌∙◌}
use Rattle.pec_types.specs.Bytes.{Bytes}
use Rattle.pec_link.proofs.Turns.{taken_first}
use Rattle.pec_link.proofs.turning.take_first.Goals as goal

pub returns-clause-waiting : goal.returns-clause-waiting
returns-clause-waiting c =
    let put : List Bytes = c.args.putter.now.put in
    taken_first c.args.taker.now.taken c.args.taker.now.waiting put c.waiting.new.taker.waiting c.take.new.self.waiting c.in-Some.frame
    c.requires.settled.fifo c.in-Some.ensures.waiting
    (c.waiting.ensures.frames ∙ ap (λ (taken : List Bytes). drop (length taken) put) c.in-Some.ensures.taken)
