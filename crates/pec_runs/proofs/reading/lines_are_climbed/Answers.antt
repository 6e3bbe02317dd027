-- A loop over the lines of a script: from the lemmas.
use Rattle.pec_runs.proofs.ReadingLemmas.{reads_ended, reads_halted, reads_on, reads_over, reads_start}
use Rattle.pec_runs.proofs.ReadingLemmas.{reads_stopped}
use Rattle.pec_runs.proofs.reading.lines_are_climbed.Goals as goal

pub returns : goal.returns
returns g c = record {
  starts = λ trade providers first. reads_start trade providers _ g.P.D.Disk.sight g.P.D.Counted.faults first;
  on = λ trade providers first here there spare line what behind said on read tell goes reads.
      reads_on trade providers _ g.P.D.Disk.sight g.P.D.Counted.faults first here there spare line what behind said on read tell goes reads;
  over = λ trade providers first here over reads. reads_over trade providers _ g.P.D.Disk.sight g.P.D.Counted.faults first here
      over reads;
  ended = λ trade providers first here there lines end stop is left goes reads.
      reads_ended trade providers _ g.P.D.Disk.sight g.P.D.Counted.faults first here there lines end stop is left goes reads;
  stopped = λ trade providers first here there spare line what behind stop said on read tell goes reads.
      reads_stopped trade providers _ g.P.D.Disk.sight g.P.D.Counted.faults first here there spare line what behind stop said on read tell
      goes reads;
  halted = λ trade providers first here stop other reads.
      reads_halted trade providers _ g.P.D.Disk.sight g.P.D.Counted.faults first here stop other reads;
}
