use Rattle.std.proofs.Common.{◌≡◌, drop, map}
use Rattle.pec_shelf.specs.Summaries.{nothing_yet}
use Rattle.pec_shelf.specs.SummariesReading.{kept_within, with_messages}
use Rattle.pec_shelf.proofs.summing.summary_within.Given as goal

abbrev pub invariant-loop-number : goal.invariant-loop-number
invariant-loop-number l =
    with_messages l.me l.shelf.half l.summary l.number (drop l.number (map (kept_within l.from l.upto) l.outbox.messages))
    ≡ with_messages l.me l.shelf.half nothing_yet 0 (map (kept_within l.from l.upto) l.outbox.messages)
