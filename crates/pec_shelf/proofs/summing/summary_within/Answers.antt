-- Row by row, those of the range.
use Rattle.std.proofs.Common.{ap, arith, length, map, sym}
use Rattle.std.proofs.lemmas.List.{length-map}
use Rattle.pec_shelf.specs.SummariesReading.{kept_within}
use Rattle.pec_shelf.proofs.DrawerLemmas.{past_none}
use Rattle.pec_shelf.proofs.SummaryLemmas.{messages_done, range_more}
use Rattle.pec_shelf.proofs.summing.summary_within.Goals as goal

pub loop-number-preserved : goal.loop-number-preserved
loop-number-preserved c =
    range_more c.args.me c.args.shelf.now.half c.args.from c.args.upto c.args.outbox.now.messages c.loop-number.number c.in-Some.row.now
    c.loop-number.summary c.with_message_within-summary.result _ c.in-Some.ensures c.with_message_within-summary.ensures
    c.loop-number.invariant

pub returns-in_default : goal.returns-in_default
returns-in_default c =
    messages_done c.args.me c.args.shelf.now.half (map (kept_within c.args.from c.args.upto) c.args.outbox.now.messages)
    c.loop-number.number c.loop-number.summary _
    (omega (
      arith,
      length-map c.args.outbox.now.messages (kept_within c.args.from c.args.upto),
      past_none c.args.outbox.now.messages c.loop-number.number (sym c.in_default.ensures),
    )) c.loop-number.invariant

pub returns : goal.returns
returns c =
    messages_done c.args.me c.args.shelf.now.half (map (kept_within c.args.from c.args.upto) c.args.outbox.now.messages)
    c.loop-number.number c.loop-number.summary _
    (omega (
      arith,
      length-map c.args.outbox.now.messages (kept_within c.args.from c.args.upto),
      c.len-number-end.ensures.value,
      ap length c.messages.ensures,
    )) c.loop-number.invariant
