-- Moves one behind another.
use Rattle.std.proofs.Common.{ℕ, List, [], ◌∷◌, ◌++◌, refl, ap, inl, sym, subst, ◌∙◌}
use Rattle.pec_outside.specs.DiskModel.{Sight}
use Rattle.pec_ledger.specs.Trade.{Trade}
use Rattle.pec_runs.specs.Moves.{KeepSound, Moves, MovesOn}
use Rattle.pec_runs.specs.Steps.{AreCounted, State, Step, state_behind}
use Rattle.pec_runs.proofs.GoingLemmas.{behind_append, counted_append, counted_behind, moments_joined}

sound_append : {D : Type 0} (trade : Trade) (here : State D) (steps more : List (Step D)) → KeepSound trade here steps
    → KeepSound trade (state_behind here steps) more → KeepSound trade here (steps ++ more)
sound_append trade here [] more keep then = then
sound_append trade here (step ∷ steps) more keep then = (keep.0, sound_append trade step.behind steps more keep.1 then)

module _ (trade : Trade) (tells : Type 0) {D : Type 0} (sight : D → Sight) (faults : D → ℕ) where
  pub moves_none : (here : State D) → MovesOn trade tells sight faults here here
  moves_none here = record {
    moves = record {
      steps = [];
      counted = λ first. tt;
      sound = λ told. tt;
      moments = λ told. record { each = tt; last = inl refl };
    };
    whole = refl;
  }

  pub moves_part : (first here there : State D) → MovesOn trade tells sight faults first here
      → Moves trade tells sight faults here there → Moves trade tells sight faults first there
  moves_part first here there went goes = record {
    steps = went.moves.steps ++ goes.steps;
    counted = λ first_so. counted_append faults went.moves.steps goes.steps (went.moves.counted first_so)
        (goes.counted (subst (AreCounted faults) (sym went.whole)
        (counted_behind faults first went.moves.steps first_so (went.moves.counted first_so))));
    sound = λ told. sound_append trade first went.moves.steps goes.steps (went.moves.sound told)
        (subst (λ (s : State D). KeepSound trade s goes.steps) went.whole (goes.sound told));
    moments = λ told. moments_joined trade sight first here there went.moves.steps goes.steps went.whole
        (went.moves.moments told) (goes.moments told);
  }

  pub moves_on : (first here there : State D) → MovesOn trade tells sight faults first here
      → MovesOn trade tells sight faults here there → MovesOn trade tells sight faults first there
  unfolding moves_part
  moves_on first here there went goes = record {
    moves = moves_part first here there went goes.moves;
    whole = goes.whole
        ∙ (ap (λ (s : State D). state_behind s goes.moves.steps) went.whole
        ∙ sym (behind_append first went.moves.steps goes.moves.steps));
  }

-- a premise that says more
pub moves_told : {D : Type 0} (trade : Trade) (tells more : Type 0) (sight : D → Sight) (faults : D → ℕ)
    (here there : State D) → (more → tells) → MovesOn trade tells sight faults here there
    → MovesOn trade more sight faults here there
moves_told trade tells more sight faults here there tells_so moves = record {
  moves = record {
    steps = moves.moves.steps;
    counted = moves.moves.counted;
    sound = λ told. moves.moves.sound (tells_so told);
    moments = λ told. moves.moves.moments (tells_so told);
  };
  whole = moves.whole;
}
