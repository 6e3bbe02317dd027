use Rattle.std.proofs.Common.{length}
use Rattle.pec_grammar.specs.Grammar.{several_at}
use Rattle.pec_grammar.specs.Reading.{standing}
use Rattle.pec_grammar.proofs.Repeats.{SoFar}
use Rattle.pec_cert.specs.LinesReading.{addressee_at}
use Rattle.pec_cert.proofs.shape.addressees.Given as goal

abbrev pub invariant-others : goal.invariant-others
invariant-others l = SoFar addressee_at l.all.items (standing l.at) (several_at addressee_at (standing l.fn.at))

abbrev pub decreases-others : goal.decreases-others
decreases-others l = length l.at.rest.now
