-- The law of delimiters, from the lemmas.
use Rattle.pec_bodies.proofs.MarkLaws.{closing_again, closing_says, delimiter_again, delimiter_says}
use Rattle.pec_bodies.proofs.marks.delimiters_are_dashes_and_the_boundary.Goals as goal

pub returns : goal.returns
returns c = record {
  delimiter = λ boundary line. (delimiter_says boundary line, delimiter_again boundary line);
  closing = λ boundary line. (closing_says boundary line, closing_again boundary line);
}
