use Rattle.std.proofs.Common.{length}
use Rattle.pec_grammar.specs.Grammar.{many_at}
use Rattle.pec_grammar.specs.Reading.{standing}
use Rattle.pec_grammar.proofs.Repeats.{SoFar}
use Rattle.pec_cert.specs.LinesReading.{received_at}
use Rattle.pec_cert.proofs.shape.all_received.Given as goal

abbrev pub invariant-others : goal.invariant-others
invariant-others l = SoFar received_at l.all.items (standing l.at) (many_at received_at (standing l.fn.at))

abbrev pub decreases-others : goal.decreases-others
decreases-others l = length l.at.rest.now
