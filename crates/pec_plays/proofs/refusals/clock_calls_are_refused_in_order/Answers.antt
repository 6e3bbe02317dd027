-- Refusals of clock calls, from the lemmas.
use Rattle.pec_plays.proofs.RefusalLemmas.{ticks, ticks_back, ticks_down, ticks_no_room}
use Rattle.pec_plays.proofs.refusals.clock_calls_are_refused_in_order.Goals as goal

pub returns : goal.returns
returns c = record { down = ticks_down; clock_back = ticks_back; journal_full = ticks_no_room; done = ticks }
