-- What is seen behind the head is what is seen of the text.
use Rattle.std.proofs.Common.{Result, subst, sym}
use Rattle.pec_types.specs.Answers.{Gives}
use Rattle.pec_types.specs.declared.disputes.LetterFault.{LetterFault}
use Rattle.pec_types.specs.declared.disputes.LetterFault.TheVariants.{NoMemory}
use Rattle.pec_directory.specs.Directory.{providers_of}
use Rattle.pec_letter_parts.specs.Views.{headed_shown}
use Rattle.pec_letters.proofs.BehindLemmas.{behind_head}
use Rattle.pec_letters.specs.Seen.{Seen}
use Rattle.pec_letters.specs.Views.{view_shown}
use Rattle.pec_letters.proofs.reading.envelope_in.Goals as goal

pub returns : goal.returns
returns c = record {
  exact = λ seals text read.
      subst (λ (given : Result Seen LetterFault). Gives NoMemory view_shown c.see_behind.result given)
      (sym (behind_head seals (providers_of c.args.directory.now) text (headed_shown c.args.headed) read))
      c.see_behind.ensures;
}
