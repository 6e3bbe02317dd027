-- Where the facts are told the entry holds an envelope of the message, and where there are none it wasn't taken.
use Rattle.pec_provider.specs.OfTrades.{world_at}
use Rattle.pec_extract.proofs.reading.read_taken.Goals as goal

pub returns-in-Ok-clause-original : goal.returns-in-Ok-clause-original
returns-in-Ok-clause-original g c = λ tells stands.
    c.facts_are_told_of_an_envelope.ensures.told (world_at c.args.house.now) c.args.house.now.me
    c.args.provider.now.chronicle.entries c.args.id c.in-Ok.facts (c.in-Ok.ensures.told tells stands)

pub returns-in-Err-NoItem-clause-original : goal.returns-in-Err-NoItem-clause-original
returns-in-Err-NoItem-clause-original g c = λ tells stands.
    let refused = rw c.in-Err-NoItem.field-0-is at c.in-Err-NoItem.ensures.refused in
    c.facts_are_told_of_an_envelope.ensures.untaken (world_at c.args.house.now) c.args.house.now.me
    c.args.provider.now.chronicle.entries c.args.id refused.1
