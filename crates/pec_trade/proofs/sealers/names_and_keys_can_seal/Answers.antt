-- Each directory is lawful.
use Rattle.pec_directory.specs.Directory.{providers_of}
use Rattle.pec_trade.proofs.LawfulLemmas.{keys_are, names_differ}
use Rattle.pec_trade.proofs.sealers.names_and_keys_can_seal.Goals as goal

pub returns-clause-different : goal.returns-clause-different
returns-clause-different c = names_differ (providers_of c.args.directory.now) c.count.ensures.lawful

pub returns-clause-sizes : goal.returns-clause-sizes
returns-clause-sizes c = keys_are (providers_of c.args.directory.now) c.count.ensures.lawful
