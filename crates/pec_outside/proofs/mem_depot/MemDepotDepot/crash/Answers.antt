use Rattle.pec_outside.proofs.StepLemmas.{crash_left, crash_durable, crash_elapses}
use Rattle.pec_outside.proofs.mem_depot.MemDepotDepot.crash.Goals as goal

pub returns-clause-left : goal.returns-clause-left
returns-clause-left c = rw c.crash.ensures (crash_left c.args.old.log c.unwrap_or-kept.result)

pub returns-clause-durable : goal.returns-clause-durable
returns-clause-durable c = rw c.crash.ensures (crash_durable c.args.old.log c.unwrap_or-kept.result)

pub returns-clause-time : goal.returns-clause-time
returns-clause-time c = rw c.crash.ensures (crash_elapses c.args.old.log c.unwrap_or-kept.result)
