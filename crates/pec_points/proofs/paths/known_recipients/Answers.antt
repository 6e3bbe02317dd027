-- One recipient more is known.
use Rattle.pec_types.specs.declared.messages.Recipient.{Recipient}
use Rattle.pec_points.proofs.KnownLemmas.{one_more}
use Rattle.pec_points.proofs.paths.known_recipients.Goals as goal

pub loop-recipient-preserved : goal.loop-recipient-preserved
loop-recipient-preserved c =
    one_more (λ (r : Recipient). r.address) c.args.recipients.now c.loop-recipient.recipient-index
    c.recipient-item.result c.loop-recipient.known c.add.new.known c.loop-recipient-test.true c.recipient-item.is
    c.loop-recipient.invariant c.in_ok-add.ensures
