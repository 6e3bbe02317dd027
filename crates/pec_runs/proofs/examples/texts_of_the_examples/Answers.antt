-- The texts are computed.
use Rattle.std.proofs.Common.{refl}
use Rattle.std.specs.Fmt.{digits}
use Rattle.pec_directory.specs.Directory.{named}
use Rattle.pec_script.specs.LinesReading.{command_of, next_of, or_fault, verb_of, word_of}
use Rattle.pec_script.specs.Texts.{answer_text as one_line, fault_text, line_of, name_of, turn_rows, turns_text}
use Rattle.pec_runs.specs.AnswerLines.{answer_text}
use Rattle.pec_runs.specs.Endings.{end_text}
use Rattle.pec_input.specs.Lines.{content_of}
use Rattle.pec_runs.specs.ScriptLines.{said_by}
use Rattle.pec_runs.proofs.examples.texts_of_the_examples.Goals as goal

pub returns : goal.returns
unfolding digits named command_of next_of or_fault verb_of word_of one_line fault_text line_of name_of turn_rows turns_text answer_text end_text content_of said_by
returns c = record {
  words = refl;
  marked = refl;
  not_marked = refl;
  script = refl;
  too_many = refl;
  answers = refl;
  ends = refl;
}
