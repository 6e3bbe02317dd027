-- The law of a field of one line, from the lemmas.
use Rattle.pec_heads.proofs.WrittenLaws.{one_line_stands, printable_plain, one_line_shown}
use Rattle.pec_heads.proofs.writing.a_line_is_read_as_its_value.Goals as goal

pub returns : goal.returns
returns c = record { stands = one_line_stands; printable = printable_plain; shown = one_line_shown }
