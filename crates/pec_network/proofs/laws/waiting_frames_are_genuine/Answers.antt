use Rattle.pec_ledger.specs.Network.{journals_of, site_at}
use Rattle.pec_network.proofs.RoundLemmas.{all_waiting}
use Rattle.pec_network.proofs.laws.waiting_frames_are_genuine.Goals as goal

pub returns : goal.returns
returns c = λ trade state sound to.
    all_waiting trade (journals_of state) (site_at state to).waiting (λ from. sound.genuine from to)
