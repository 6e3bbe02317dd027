use Rattle.std.proofs.Common.{List, length, drop, ap, ◌∙◌}
use Rattle.pec_types.specs.Bytes.{Bytes}
use Rattle.pec_link.proofs.Turns.{put_behind}
use Rattle.pec_link.proofs.turning.put_last.Goals as goal

pub returns-clause-waiting : goal.returns-clause-waiting
returns-clause-waiting c =
    let taken : List Bytes = c.args.taker.now.taken in
    put_behind taken c.args.taker.now.waiting c.args.putter.now.put c.waiting.new.taker.waiting c.args.frame c.requires.settled.fifo
    (c.waiting.ensures.frames ∙ ap (drop (length taken)) c.in-Ok.ensures.put)
