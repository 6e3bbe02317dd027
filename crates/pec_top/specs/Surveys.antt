-- A look at the disks of a depot, which leaves each as it was: `AreAsTheyWere`. This project's profile.
use Rattle.std.specs.Prelude.{◌≡◌, ◌⊎◌, ℕ, ◌<◌, Bool, [], length, Option, Some, None, MatchBool}
use Rattle.pec_outside.specs.DiskModel.{Sight, Stays}

-- `reads`: whether disks tell what they hold.
module _ {D : Type 0} (reads : Type 0) (sight : D → Sight) where
  -- it is the disk that was, or nothing was written on that one
  abbrev pub IsStill : D → D → Type 0
  IsStill was now = (now ≡ was) ⊎ Stays (sight was) (sight now)

  -- what is at home at a provider's place, by what was: nothing, or a disk on which nothing was written
  abbrev pub IsAsBefore : Option D → Option D → Type 0
  IsAsBefore None now = now ≡ None
  IsAsBefore (Some was) now = (disk : D) × (now ≡ Some disk) × (reads → IsStill was disk)

  abbrev pub AreAsTheyWere : (ℕ → Option D) → (ℕ → Option D) → Type 0
  AreAsTheyWere old new = (provider : ℕ) → IsAsBefore (old provider) (new provider)

  -- the disk at a place holds something, or nothing
  abbrev pub HoldsSo : Option D → Bool → Type 0
  HoldsSo home holds =
      reads → (disk : D) → home ≡ Some disk → MatchBool holds (0 < length (sight disk).seen) ((sight disk).seen ≡ [])
