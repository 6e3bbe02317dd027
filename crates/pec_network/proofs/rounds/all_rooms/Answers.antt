use Rattle.std.proofs.Common.{◌∙◌}
use Rattle.pec_network.proofs.PassLemmas.{rooms_more}
use Rattle.pec_network.proofs.rounds.all_rooms.Goals as goal

pub loop-from-preserved : goal.loop-from-preserved
loop-from-preserved c =
    rw c.in_ok-push.ensures.items
    (rooms_more c.loop-from.from c.args.arrivals.now c.loop-from.all.items c.of.result c.loop-from.invariant
    (c.of.ensures ∙ c.in_ok-frames.ensures.rooms) c.in_ok-frames.ensures.short)
