-- Why another screen isn't put into a place among a provider's: `IsUnswapped`. This project's profile.
use Rattle.std.specs.Prelude.{◌≡◌, ℕ, ◌≤◌, Bool, true, false}
use Rattle.pec_provider.specs.declared.swapping.SwapFault.{SwapFault}
use Rattle.pec_provider.specs.declared.swapping.SwapFault.TheVariants as swaps

-- The provider is down, or it has no screen there, of so many.
abbrev pub IsUnswapped : Bool → ℕ → ℕ → SwapFault → Type 0
IsUnswapped up screens place swaps.Down = up ≡ false
IsUnswapped up screens place swaps.NoSuchPlace = (up ≡ true) × (screens ≤ place)
