use Rattle.pec_provider.proofs.FollowLemmas.{goes_on}
use Rattle.pec_provider.proofs.laws.what_follows_goes_on.Goals as goal

pub returns : goal.returns
returns c = goes_on
