use Rattle.pec_ledger.specs.Network.{interrupted_at, journal_at, journals_of}
use Rattle.pec_network.proofs.laws.images_follow.Goals as goal

pub returns : goal.returns
returns c = λ trade state number bytes is. (
  is.0,
  c.what_follows_goes_on.ensures trade (journals_of state) number (journal_at state number) (interrupted_at state number) is.0 is.1,
  is.2,
)
