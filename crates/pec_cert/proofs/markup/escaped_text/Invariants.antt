use Rattle.std.proofs.Common.{length}
use Rattle.pec_types.specs.Text.{AllPrintable}
use Rattle.pec_grammar.specs.Grammar.{many_at}
use Rattle.pec_grammar.specs.Reading.{standing}
use Rattle.pec_grammar.proofs.Repeats.{SoFar}
use Rattle.pec_cert.specs.LinesReading.{char_at}
use Rattle.pec_cert.proofs.markup.escaped_text.Given as goal

abbrev pub invariant-bytes : goal.invariant-bytes
invariant-bytes l = record {
  read : SoFar char_at l.bytes.items (standing l.at) (many_at char_at (standing l.fn.at));
  printable : AllPrintable l.bytes.items;
}

abbrev pub decreases-bytes : goal.decreases-bytes
decreases-bytes l = length l.at.rest.now
