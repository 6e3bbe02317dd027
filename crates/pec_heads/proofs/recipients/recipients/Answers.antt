-- Both classes were added one after another.
use Rattle.pec_heads.proofs.RecipientLaws.{recipients_are}
use Rattle.pec_heads.proofs.recipients.recipients.Goals as goal

pub returns : goal.returns
returns c =
    rw (c.in_ok-add_all-2.ensures.added, c.in_ok-add_all.ensures.added, c.new-gathered.ensures.none) (recipients_are c.args.to.items c.args.copies.items)
