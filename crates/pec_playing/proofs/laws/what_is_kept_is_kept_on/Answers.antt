use Rattle.pec_playing.proofs.KeptLemmas.{keeps_all, keeps_on}
use Rattle.pec_playing.proofs.laws.what_is_kept_is_kept_on.Goals as goal

pub returns : goal.returns
returns g c = record {
  none = λ network. keeps_all g.D.Disk.sight g.D.Counted.faults g.D.Disk.tells network;
  one = λ old mid new first second.
      keeps_on g.D.Disk.sight g.D.Counted.faults g.D.Disk.tells old mid new first second;
}
