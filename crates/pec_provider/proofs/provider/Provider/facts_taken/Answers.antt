-- The provider runs as it did, over what the read left.
use Rattle.pec_provider.proofs.RunLemmas.{runs_read}
use Rattle.pec_provider.proofs.provider.Provider.facts_taken.Goals as goal

pub returns-clause-runs : goal.returns-clause-runs
returns-clause-runs g c =
    runs_read c.args.house.now.directory.now c.args.house.now.me _ c.args.self.now c.self.view_is
    c.facts_taken.new.chronicle _ c.facts_taken.result c.facts_taken.ensures.reads c.requires.runs
