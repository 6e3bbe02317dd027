-- Acts one after another: from the lemmas.
use Rattle.std.proofs.Common.{[], refl}
use Rattle.pec_runs.proofs.GoingLemmas.{climbs_end, climbs_on, climbs_stop, goes_nowhere, goes_on, stops_before}
use Rattle.pec_runs.proofs.steps.acts_are_joined.Goals as goal

pub returns : goal.returns
returns g c = record {
  starts = λ trade providers acts first.
      record { done = []; acts_are = refl; goes = goes_nowhere trade providers _ g.P.D.Disk.sight g.P.D.Counted.faults first };
  on = λ trade providers acts some left first here there climbs goes.
      climbs_on trade providers _ g.P.D.Disk.sight g.P.D.Counted.faults acts some left first here there climbs goes;
  stops = λ trade providers acts some left first here there stop climbs goes.
      climbs_stop trade providers _ g.P.D.Disk.sight g.P.D.Counted.faults acts some left first here there stop climbs goes;
  ends = λ trade providers acts first here climbs. climbs_end trade providers _ g.P.D.Disk.sight g.P.D.Counted.faults acts first here climbs;
  goes_on = λ trade providers done acts first here there stop went goes.
      goes_on trade providers _ g.P.D.Disk.sight g.P.D.Counted.faults done acts first here there stop went goes;
  stops_before = λ trade providers some left here there stop goes.
      stops_before trade providers _ g.P.D.Disk.sight g.P.D.Counted.faults some left here there stop goes;
}
