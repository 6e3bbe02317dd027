-- The value that was made is put.
use Rattle.pec_brief.proofs.attachments.put_type.Goals as goal

pub returns : goal.returns
returns c = rw (c.as_slice.ensures.value, c.in_ok-value.ensures) at c.in_ok-put_field.ensures
