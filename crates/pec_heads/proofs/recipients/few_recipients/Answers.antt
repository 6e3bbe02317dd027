-- Both classes were added one after another.
use Rattle.pec_heads.proofs.RecipientLaws.{recipients_are}
use Rattle.pec_heads.proofs.recipients.few_recipients.Goals as goal

pub returns : goal.returns
returns c = rw (c.in_ok-add_few-2.ensures, c.in_ok-add_few.ensures, c.new-all.ensures.items) (recipients_are c.args.to.items c.args.copies.items)
