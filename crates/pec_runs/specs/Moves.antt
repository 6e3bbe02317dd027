-- How a network comes from one state to another, whatever is played and written on the way: `Moves`, by steps that keep it
-- Sound where disks tell what they hold, with what a crash may leave at any moment of them. This project's profile.
use Rattle.std.specs.Prelude.{◌≡◌, ℕ, List, [], ◌∷◌}
use Rattle.pec_outside.specs.DiskModel.{Sight}
use Rattle.pec_ledger.specs.Network.{Sound}
use Rattle.pec_ledger.specs.Trade.{Trade}
use Rattle.pec_ledger.specs.TradeLaws.{IsTrade}
use Rattle.pec_runs.specs.Steps.{AllCounted, AllMoments, AreCounted, State, Step, state_behind}

-- Behind each step the state is Sound where it was before it.
abbrev pub KeepSound : {D : Type 0} → Trade → State D → List (Step D) → Type 0
KeepSound trade here [] = Unit {0}
KeepSound trade here (step ∷ steps) =
    (IsTrade trade → Sound trade here.sites → Sound trade step.behind.sites) × KeepSound trade step.behind steps

-- `faults` is the count of faults that a disk itself tells.
module _ (trade : Trade) (tells : Type 0) {D : Type 0} (sight : D → Sight) (faults : D → ℕ) where
  -- It moved by these steps, and may have been stopped within a further one. Behind each the counts of faults are those of
  -- the disks, where they were as it began.
  pub record Moves (here there : State D) : Type 0 where
    pub steps : List (Step D)
    pub counted : AreCounted faults here → AllCounted faults steps
    pub sound : tells → KeepSound trade here steps
    pub moments : tells → AllMoments trade sight here there steps

  -- It moved by whole steps.
  pub record MovesOn (here there : State D) : Type 0 where
    pub moves : Moves here there
    pub whole : there ≡ state_behind here moves.steps
