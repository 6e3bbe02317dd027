-- How often the screens of providers have looked: at a submission to one of them, `OnlyLooks`, and in the turns of a
-- round, `AllLookAlike`. This project's profile.
use Rattle.std.specs.Prelude.{◌≡◌, ℕ, zero, suc, List, [], map, slice_index_or, slice_set, Result}
use Rattle.pec_types.specs.declared.turns.ProviderFault.{ProviderFault}
use Rattle.pec_points.specs.Case.{Case}
use Rattle.pec_provider.specs.Looking.{Looks}
use Rattle.pec_screen.specs.Verdicts.{counted}

-- Of the lists of screens, one for each provider from 0 on, that of this provider looks as `Looks` says by what was
-- answered, an empty one where it has none; no other looks.
pub record OnlyLooks {X : Type 0} (provider : ℕ) (case : Case) (before after : List (List ℕ))
    (result : Result X ProviderFault) : Type 0 where
  pub own : Looks case (slice_index_or before provider []) (slice_index_or after provider []) result
  pub others : after ≡ slice_set before provider (slice_index_or after provider [])

-- how often screens have looked, after so many looks more
abbrev pub counted_times : ℕ → List ℕ → List ℕ
counted_times zero seen = seen
counted_times (suc times) seen = counted_times times (map counted seen)

-- The screens of a provider have looked, each as often.
pub record LookAlike (before after : List ℕ) : Type 0 where
  pub times : ℕ
  pub is : after ≡ counted_times times before

-- So it is with those of each provider.
abbrev pub AllLookAlike : List (List ℕ) → List (List ℕ) → Type 0
AllLookAlike before after =
    (number : ℕ) → LookAlike (slice_index_or before number []) (slice_index_or after number [])
