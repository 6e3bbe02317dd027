-- It is the original of the message that the entry tells.
use Rattle.pec_extract.proofs.logging.remember_for.Goals as goal

pub returns-in-Some-clause-known : goal.returns-in-Some-clause-known
returns-in-Some-clause-known g c = rw (← c.in-Some.ensures) c.remember.ensures.known

pub returns-in-Some-clause-original : goal.returns-in-Some-clause-original
returns-in-Some-clause-original g c = rw (← c.in-Some.ensures) c.remember.ensures.original
