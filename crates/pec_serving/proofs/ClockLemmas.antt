-- The clock calls and the round behind an answer, one after another.
use Rattle.std.proofs.Common.{◌≡◌, ◌∙◌, ℕ, zero, suc, ◌+◌, ◌-◌, ◌<◌, List, [], ◌∷◌, ◌++◌, map, ap, arith, subst, Option, None, Some, Result, Ok, Err, Vec, Global}
use Rattle.pec_plays.specs.Commands.{Round, Tick}
use Rattle.pec_screen.specs.Verdicts.{Patterns}
use Rattle.pec_service.specs.OfRuns.{Act, NoMemory, Plays, WriteFault}
use Rattle.pec_service.specs.OfRuns as runs
use Rattle.pec_service.specs.Calls.{clock_from}
use Rattle.pec_playing.specs.Points.{stop_in}
use Rattle.pec_playing.specs.declared.stops.Stop.{Stop}
use Rattle.pec_playing.specs.declared.stops.Stop.TheVariants as stops

-- what is due from a provider on, of so many
abbrev pub due_from : ℕ → ℕ → ℕ → List Act
due_from size moment number = map Plays (clock_from (size - number) number moment)

module _ (size moment : ℕ) where
  pub all_due : due_from size moment 0 ≡ map Plays (clock_from size 0 moment)
  all_due =
      let e : size - 0 ≡ size = omega arith
      in ap (λ (n : ℕ). map Plays (clock_from n 0 moment)) e

  pub next_due : (number : ℕ) → number < size
      → due_from size moment number ≡ (Plays (Tick number moment) ∷ []) ++ due_from size moment (number + 1)
  next_due number below =
      let e : size - number ≡ suc (size - (number + 1)) = omega arith
      in ap (λ (n : ℕ). map Plays (clock_from n number moment)) e

  pub last_due : (number : ℕ) → number ≡ size → due_from size moment number ≡ (Plays (Round moment) ∷ []) ++ []
  last_due number last =
      let e : size - number ≡ zero = omega (arith, last)
      in ap (λ (n : ℕ). map Plays (clock_from n number moment)) e

-- what is said of each stop is said of one that is told
pub by_stop : (some all : Option runs.Stop → Type 0) → ((why : runs.Stop) → some (Some why) → all (Some why))
    → (stop : Stop) → some (stop_in {T = Unit {0}} (Err stop)) → all (stop_in {T = Unit {0}} (Err stop))
by_stop some all each stops.NoMemory one = each NoMemory one
by_stop some all each stops.WriteFault one = each WriteFault one

pub by_result : (some all : Option runs.Stop → Type 0) → (some None → all None)
    → ((why : runs.Stop) → some (Some why) → all (Some why))
    → (result : Result (Unit {0}) Stop) → some (stop_in result) → all (stop_in result)
by_result some all whole each (Ok done) one = whole one
by_result some all whole each (Err stop) one = by_stop some all each stop one

-- no spares are handed in, and none are left
pub no_spares : {X : Type 0} (patterns : X → Patterns) (old new : Vec X Global) → old.items ≡ [] → new ≡ old
    → (Holds : List Patterns → List Patterns → Type 0) → Holds (map patterns old.items) (map patterns new.items)
    → Holds [] []
no_spares {X} patterns old new none same Holds holds =
    subst (λ (behind : List Patterns). Holds [] behind)
    (ap (map patterns) (ap (λ (v : Vec X Global). v.items) same ∙ none))
    (subst (λ (before : List Patterns). Holds before (map patterns new.items)) (ap (map patterns) none) holds)
