use Rattle.std.proofs.Common.{◌≡◌, drop}
use Rattle.pec_grammar.specs.Grammar.{word_at}
use Rattle.pec_grammar.specs.Reading.{standing}
use Rattle.pec_grammar.proofs.words.word.Given as goal

abbrev pub invariant-loop-b : goal.invariant-loop-b
invariant-loop-b l = word_at l.bytes (standing l.fn.at) ≡ word_at (drop l.b-index l.bytes) (standing l.at)
