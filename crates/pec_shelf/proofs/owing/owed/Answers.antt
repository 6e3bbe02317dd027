use Rattle.pec_shelf.proofs.StillLemmas.{owed_is}
use Rattle.pec_shelf.proofs.owing.owed.Goals as goal

pub returns : goal.returns
returns c =
    owed_is c.args.shelf.now.half c.args.outbox.now.me c.args.to c.args.outbox.now.messages c.args.inbox.now.decided c.all_decided.result.now c.args.inbox.now.acked
    c.args.outbox.now.charged c.args.outbox.now.known c.unheard.result.now c.unanswered.result.now c.new-letters.result.items c.push_outcomes.new.letters.items
    c.push_envelopes.new.letters.items c.requires.decided c.requires.acked c.requires.charged c.requires.known c.all_decided.ensures c.unheard.ensures c.unanswered.ensures
    c.new-letters.ensures.items c.in_ok-push_outcomes.ensures c.in_ok-push_envelopes.ensures
