-- What is seen of an envelope has its original's facts.
use Rattle.pec_directory.specs.Directory.{providers_of}
use Rattle.pec_letters.specs.Views.{view_shown}
use Rattle.pec_outgoing.proofs.originals.envelope_seen.Goals as goal

pub returns-in-Ok-clause-facts : goal.returns-in-Ok-clause-facts
returns-in-Ok-clause-facts g c =
    c.an_envelope_is_seen_with_its_facts.ensures c.args.desk.now.house.now.sealer.now (providers_of
    c.args.desk.now.house.now.directory.now) c.args.text.now
    (view_shown c.in-Ok.seen) c.in-Ok.ensures.exact
