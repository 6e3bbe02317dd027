-- The law of written heads, from the lemmas.
use Rattle.pec_heads.proofs.WrittenLaws.{written_head, written_read, body_behind, next_field}
use Rattle.pec_heads.proofs.writing.what_is_written_is_read.Goals as goal

pub returns : goal.returns
returns c = record { head = written_head; given = written_read; body = body_behind; next = next_field }
