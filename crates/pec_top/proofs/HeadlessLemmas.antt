-- A disk that came to nothing, and whether it begins as a journal does.
use Rattle.std.proofs.Common.{◌≡◌, ℕ, ◌<◌, Bool, true, false, eqb, List, refl, sym, subst, ◌∙◌, length, Option, Some, None, Result, Ok, Err}
use Rattle.std.specs.Prelude.{IfOk, if◌then◌else◌}
use Rattle.pec_outside.specs.declared.streams.Failed.{Failed}
use Rattle.pec_types.specs.Bytes.{Bytes}
use Rattle.pec_outside.specs.DiskModel.{Sight}
use Rattle.pec_serving.specs.OfNetworks.reasons as reasons
use Rattle.pec_serving.specs.OfNetworks.{StartFault}
use Rattle.pec_serving.specs.OfNetworks.faults as faults
use Rattle.pec_script.specs.declared.answers.Unfit.TheVariants as unfits
use Rattle.pec_runs.specs.Openings.{Disks, Fails, Stops, Unfits, disks_at}
use Rattle.pec_runs.specs.Plays as plays
use Rattle.pec_directory.specs.Directory.{Provider}
use Rattle.pec_service.specs.Runs.{IsLookedAt, finish_at}
use Rattle.pec_top.specs.Opened.{Finishes, IsLookedAgain, MayHold, asked_again, next_by, provider_named}
use Rattle.pec_top.specs.Surveys.{HoldsSo}
use Rattle.pec_top.specs.declared.opening.Journals.{Journals}
use Rattle.pec_top.specs.declared.opening.Journals.TheVariants as journals
use Rattle.pec_top.specs.declared.opening.Refusal.{Refusal}
use Rattle.pec_top.specs.declared.opening.Refusal.TheVariants as refusals

-- what was seen of a disk at home is what it reads as
pub held_bytes : {D : Type 0} (home_tells reads : Type 0) (sight : D → Sight) (home : ℕ → Option D) (number : ℕ)
    (holds : Bool) → (home_tells → HoldsSo reads sight (home number) holds)
    → IsLookedAgain (Some number) (disks_at (home_tells × reads) sight home) holds
held_bytes home_tells reads sight home number true held bytes read =
    subst (λ (b : Bytes). 0 < length b) read.1.2 (held read.0.0 read.0.1 read.1.0 read.1.1)
held_bytes home_tells reads sight home number false held bytes read =
    sym read.1.2 ∙ held read.0.0 read.0.1 read.1.0 read.1.1

pub looked_held : {D : Type 0} (home_tells reads : Type 0) (sight : D → Sight) (home : ℕ → Option D) (number : ℕ)
    (result : Result Bool Failed) → (home_tells → IfOk result (HoldsSo reads sight (home number)))
    → IfOk result (IsLookedAgain (Some number) (disks_at (home_tells × reads) sight home))
looked_held home_tells reads sight home number (Ok holds) held = held_bytes home_tells reads sight home number holds held
looked_held home_tells reads sight home number (Err failed) held = tt

-- ---- what may be held of it

differ : false ≡ true → ⊥
differ e = cc

module _ (disks : Disks) (holds : Bool) where
  looked_place : (number place : ℕ) (zero : Bool) → eqb place 0 ≡ zero
      → IsLookedAgain (if zero then Some number else None) disks holds
      → IsLookedAt disks number holds (Unfits (unfits.Journal place))
  looked_place number place true is looked = λ headless. looked
  looked_place number place false is looked = λ headless. absurd (differ (sym is ∙ headless))

  -- the disk of the fault, if it was to be looked at
  pub held_known : (how : Journals) (fault : StartFault) → IsLookedAgain (asked_again how fault) disks holds
      → (other : ℕ) → MayHold how disks (provider_named other fault) holds (next_by fault)
  held_known (journals.As way) fault looked other = looked
  held_known journals.Chosen (faults.NotEmpty number) looked other = tt
  held_known journals.Chosen (faults.DiskFault number) looked other = tt
  held_known journals.Chosen (faults.NotFit number (reasons.Journal place)) looked other =
      looked_place number place (eqb place 0) refl looked
  held_known journals.Chosen (faults.NotFit number (reasons.OtherDirectory kept given)) looked other =
      λ headless. absurd (differ headless)
  held_known journals.Chosen (faults.NotFit number (reasons.BadEntry entry)) looked other =
      λ headless. absurd (differ headless)
  held_known journals.Chosen faults.NoMemory looked other = tt

-- a run fails at its start for a disk that failed
pub disk_failed : (fault : StartFault) (holds : Bool) (providers : List Provider) (refusal : Refusal)
    → refusal ≡ refusals.StartFault
    → Finishes providers refusal (finish_at holds (provider_named 0 fault) (next_by fault))
    → (number : ℕ) × (fault ≡ faults.DiskFault number)
disk_failed fault holds providers refusal is finishes =
    so fault (subst (λ (r : Refusal). Finishes providers r (finish_at holds (provider_named 0 fault) (next_by fault))) is
    finishes)
  where
    so : (why : StartFault) → finish_at holds (provider_named 0 why) (next_by why) ≡ plays.Fails
        → (number : ℕ) × (why ≡ faults.DiskFault number)
    so (faults.NotEmpty number) e = cc
    so (faults.DiskFault number) e = (number, refl)
    so (faults.NotFit number why) e = cc
    so faults.NoMemory e = cc

-- where it doesn't matter nothing is held
pub held_none : (how : Journals) (disks : Disks) (number : ℕ) → MayHold how disks number false Stops
held_none (journals.As way) disks number = refl
held_none journals.Chosen disks number = tt

pub held_fails : (how : Journals) (disks : Disks) (number : ℕ) → MayHold how disks number false Fails
held_fails (journals.As way) disks number = refl
held_fails journals.Chosen disks number = tt
