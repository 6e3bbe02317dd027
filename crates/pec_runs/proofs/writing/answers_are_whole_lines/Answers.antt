-- From the lemmas.
use Rattle.pec_runs.proofs.StatusLemmas.{answers_count}
use Rattle.pec_runs.proofs.TextLemmas.{answers_lines, end_lines}
use Rattle.pec_runs.proofs.writing.answers_are_whole_lines.Goals as goal

pub returns : goal.returns
returns c = record { answers = answers_lines; ends = end_lines; count = answers_count }
