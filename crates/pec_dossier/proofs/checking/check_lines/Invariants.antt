-- What was told of the messages so far, and of the devices that no count fell.
use Rattle.std.proofs.Common.{◌+◌, ◌-◌, ◌≤◌}
use Rattle.pec_outside.specs.Flow.{behind}
use Rattle.pec_directory.specs.Directory.{providers_of}
use Rattle.pec_runs.specs.ScriptLines.{most_lines}
use Rattle.pec_dossier.proofs.LoopLemmas.{Reached}
use Rattle.pec_dossier.proofs.checking.check_lines.Given as goal

abbrev pub invariant-lines : goal.invariant-lines
invariant-lines g l = record {
  reached : Reached (providers_of l.directory) (behind l.fn.buffer (g.S.Stream.left l.fn.source))
      (g.W.Stream.held l.fn.out) l.number (behind l.buffer (g.S.Stream.left l.source)) (g.W.Stream.held l.out) l.tally;
  number : l.number ≤ most_lines + 1;
  source_later : g.S.Counted.faults l.fn.source ≤ g.S.Counted.faults l.source;
  sink_later : g.W.Counted.faults l.fn.out ≤ g.W.Counted.faults l.out;
}

abbrev pub decreases-lines : goal.decreases-lines
decreases-lines g l = most_lines + 1 - l.number
