-- One message more is remembered, or none.
use Rattle.pec_extract.proofs.RememberLemmas.{known_then, taken_then}
use Rattle.pec_extract.proofs.reading.note.Goals as goal

pub returns-in-Some-clause-known : goal.returns-in-Some-clause-known
returns-in-Some-clause-known c =
    rw c.in-Some.is
    (known_then c.add.result c.args.remembered.now c.add.new.self c.args.id c.in-Some.facts c.requires.fresh
    c.add.ensures.ok)

pub returns-in-Some-clause-taken : goal.returns-in-Some-clause-taken
returns-in-Some-clause-taken c =
    rw c.in-Some.is
    (λ trade me journal is taken.
    taken_then c.add.result c.args.remembered.now c.add.new.self c.args.id c.in-Some.facts c.add.ensures.ok
    c.add.ensures.err trade me journal is taken)

pub returns-in-None-clause-known : goal.returns-in-None-clause-known
returns-in-None-clause-known c = rw c.in-None.is c.requires.fresh
