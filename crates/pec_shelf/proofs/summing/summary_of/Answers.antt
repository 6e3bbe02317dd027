-- Row by row.
use Rattle.std.proofs.Common.{ap, arith, length, sym}
use Rattle.pec_shelf.proofs.DrawerLemmas.{past_none}
use Rattle.pec_shelf.proofs.SummaryLemmas.{message_more, messages_done}
use Rattle.pec_shelf.proofs.summing.summary_of.Goals as goal

pub loop-number-preserved : goal.loop-number-preserved
loop-number-preserved c =
    message_more c.args.me c.args.shelf.now.half c.args.outbox.now.messages c.loop-number.number c.in-Some.row.now c.loop-number.summary
    c.with_message-summary.result _ c.in-Some.ensures c.with_message-summary.ensures c.loop-number.invariant

pub returns-in_default : goal.returns-in_default
returns-in_default c =
    messages_done c.args.me c.args.shelf.now.half c.args.outbox.now.messages c.loop-number.number c.loop-number.summary _
    (past_none c.args.outbox.now.messages c.loop-number.number (sym c.in_default.ensures)) c.loop-number.invariant

pub returns : goal.returns
returns c =
    messages_done c.args.me c.args.shelf.now.half c.args.outbox.now.messages c.loop-number.number c.loop-number.summary _
    (omega (arith, c.len-number-end.ensures.value, ap length c.messages.ensures)) c.loop-number.invariant
