use Rattle.std.specs.Option.{option_map}
use Rattle.pec_types.specs.declared.messages.Recipient.{Recipient}
use Rattle.pec_directory.specs.Directory.{home_of, providers_of}
use Rattle.pec_shelf.specs.Seen.{certified_at}
use Rattle.pec_shelf.proofs.LoopLemmas.{filter_more}
use Rattle.pec_shelf.proofs.reading.certified.Goals as goal

pub loop-recipient-preserved : goal.loop-recipient-preserved
loop-recipient-preserved c =
    filter_more (λ (recipient : Recipient). option_map (certified_at recipient) (home_of (providers_of c.args.directory.now) recipient.address)) c.args.recipients.now
    c.loop-recipient.recipient-index c.recipient-item.result c.loop-recipient.all.items c.push_certified.new.all.items c.loop-recipient-test.true c.recipient-item.is
    c.loop-recipient.invariant c.in_ok-push_certified.ensures
