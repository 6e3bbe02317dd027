use Rattle.std.proofs.Common.{◌≡◌, drop, map}
use Rattle.pec_grammar.specs.Grammar.{choice_at}
use Rattle.pec_grammar.specs.Reading.{entry, standing}
use Rattle.pec_grammar.proofs.words.one_of.Given as goal

abbrev pub invariant-loop-bytes : goal.invariant-loop-bytes
invariant-loop-bytes g l = choice_at (map entry l.table) (standing l.fn.at) ≡ choice_at (map entry (drop l.bytes-index l.table)) (standing l.at)
