use Rattle.std.proofs.Common.{◌≡◌, ◌++◌, map}
use Rattle.pec_check.specs.Views.{finding_shown}
use Rattle.pec_check.proofs.dossiers.Dossier.lines.Given as goal

abbrev pub invariant-loop-pair : goal.invariant-loop-pair
invariant-loop-pair l = map finding_shown l.initial.pair-iterator ≡ l.lines.items ++ map finding_shown l.pair-iterator
