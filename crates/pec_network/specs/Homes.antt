-- What becomes of the disks of a network's providers at a depot. This project's profile.
use Rattle.std.specs.Prelude.{◌≡◌, ℕ, ◌<◌, ◌≤◌, List, length, slice_index_or}
use Rattle.pec_provider.specs.Provider.{ProviderState}

module _ {D X : Type 0} (given : ProviderState D → X) (old new : ℕ → X) (providers : List (ProviderState D)) where
  -- Of each provider this stands at its number; at all other numbers stands what stood there.
  pub record AllAt : Type 0 where
    pub here : (number : ℕ) (other : ProviderState D) → number < length providers
        → new number ≡ given (slice_index_or providers number other)
    pub elsewhere : (number : ℕ) → length providers ≤ number → new number ≡ old number

  -- So it is from a number on; below it stands what stood there.
  pub record AllFrom (from : ℕ) : Type 0 where
    pub here : (number : ℕ) (other : ProviderState D) → from ≤ number → number < length providers
        → new number ≡ given (slice_index_or providers number other)
    pub below : (number : ℕ) → number < from → new number ≡ old number
    pub behind : (number : ℕ) → length providers ≤ number → new number ≡ old number
