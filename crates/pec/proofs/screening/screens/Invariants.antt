-- So many providers have their screen.
use Rattle.std.proofs.Common.{◌≡◌, [], ◌∷◌, map, replicate}
use Rattle.pec.specs.Screening.{one_screen}
use Rattle.pec.proofs.screening.screens.Given as goal

abbrev pub invariant-loop : goal.invariant-loop
invariant-loop l = map (λ screen. screen.patterns.items ∷ []) l.screens.items ≡ replicate l.counter one_screen
