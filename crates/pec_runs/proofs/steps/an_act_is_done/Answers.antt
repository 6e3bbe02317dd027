-- One act: from the lemmas.
use Rattle.pec_runs.proofs.GoingLemmas.{halts, one_played, one_stopped, one_strayed, one_written}
use Rattle.pec_runs.proofs.steps.an_act_is_done.Goals as goal

pub returns : goal.returns
returns g c = record {
  played = λ trade providers command luck here there stop is handed counted moment later wrote.
      one_played trade providers _ g.P.D.Disk.sight g.P.D.Counted.faults command luck here there stop is handed counted moment later wrote;
  stopped = λ trade providers command here there left moment later same.
      one_stopped trade providers _ g.P.D.Disk.sight g.P.D.Counted.faults command here there left moment later same;
  strayed = λ trade providers command here there text stop strays later held blame.
      one_strayed trade providers _ g.P.D.Disk.sight g.P.D.Counted.faults command here there text stop strays later held blame;
  written = λ trade providers text here there stop same later wrote.
      one_written trade providers _ g.P.D.Disk.sight g.P.D.Counted.faults text here there stop same later wrote;
  halted = λ trade providers acts here stop some other. halts trade providers _ g.P.D.Disk.sight g.P.D.Counted.faults acts here stop some
      other;
}
