-- So many spares are there.
use Rattle.std.proofs.Common.{◌≡◌, map, replicate}
use Rattle.pec.specs.Screening.{other_pattern}
use Rattle.pec.proofs.screening.spares.Given as goal

abbrev pub invariant-loop : goal.invariant-loop
invariant-loop l = map (λ screen. screen.patterns.items) l.spares.items ≡ replicate l.counter other_pattern
