use Rattle.std.proofs.Common.{◌≡◌, ◌+◌, ◌-◌, ◌≤◌, length, option_map}
use Rattle.pec_outside.specs.Flow.{behind}
use Rattle.pec_input.specs.Opening.{parts_left}
use Rattle.pec_input.specs.Parts.{onto_directory}
use Rattle.pec_input.specs.declared.opening.TheConstants.{LONGEST_DIRECTORY}
use Rattle.pec_input.proofs.opening.read_directory.Given as goal

abbrev pub invariant-lines : goal.invariant-lines
invariant-lines g l =
    let port = g.S.Stream in
    record {
      parts : parts_left (behind l.fn.buffer (port.left l.fn.source)) ≡ option_map
          (λ parts. onto_directory l.directory.items parts) (parts_left (behind l.buffer (port.left l.source)));
      later : g.S.Counted.faults l.fn.source ≤ g.S.Counted.faults l.source;
    }

abbrev pub decreases-lines : goal.decreases-lines
decreases-lines g l = LONGEST_DIRECTORY + 1 - length l.directory.items
