use Rattle.pec_reception.specs.OfTrades.{world_at}
use Rattle.pec_provider.proofs.ComposeLemmas.{FramesSoFar}
use Rattle.pec_provider.proofs.composing.frames_of.Given as goal

abbrev pub invariant-loop-letter : goal.invariant-loop-letter
invariant-loop-letter g l =
    FramesSoFar g.D.Disk.tells g.D.Disk.sight g.D.Counted.faults (world_at l.house) l.house.me l.fn.chronicle l.letters
    l.letter-index l.chronicle l.frames.items
