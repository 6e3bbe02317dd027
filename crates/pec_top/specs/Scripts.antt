-- Where a script begins; that one was read and played over a network: `ReadsOver`; and the disks behind it: `AreKept`.
-- This project's profile.
use Rattle.std.specs.Prelude.{◌≡◌, ℕ, ◌<◌, ◌≤◌, List, Option, Some}
use Rattle.pec_types.specs.Bytes.{Bytes}
use Rattle.pec_outside.specs.DiskModel.{Sight}
use Rattle.pec_directory.specs.Directory.{providers_of}
use Rattle.pec_ledger.specs.Network.{Site}
use Rattle.pec_runs.specs.Openings.{IsLeft}
use Rattle.pec_runs.specs.Reading.{IsRead, LinePoint}
use Rattle.pec_runs.specs.Statuses.{Status}
use Rattle.pec_runs.specs.Steps.{Point}
use Rattle.pec_screen.specs.Verdicts.{Patterns}
use Rattle.pec_seal.specs.Seals.{Seals}
use Rattle.pec_serving.specs.OfNetworks.{AllStand, NetworkState, point_of, world_of}

-- where a script begins: before line 1, with this to read
abbrev pub at_first : {D : Type 0} → Point D → Option Bytes → LinePoint D
at_first point unread = record { point = point; number = 1; unread = unread }

-- What is left to read was read over a network, line by line, and its commands were played and written: from what the
-- output held, its count of faults and the spares to what they are, with this status. Past the providers the counts of
-- disks may be any. All that is asked: where disks tell what they hold, each provider stands on its own.
abbrev pub ReadsOver : {D S : Type 0} → Type 0 → (D → Sight) → (D → ℕ) → (S → Seals) → (spares left : List Patterns)
    → (old new : NetworkState D S) → (unread before after : Option Bytes) → (from upto : ℕ) → Status → Type 0
ReadsOver tells sight faults seals spares left old new unread before after from upto status =
    (tells → AllStand sight old.providers) → (elsewhere : ℕ → ℕ)
    → IsRead (world_of seals old) (providers_of old.kept) tells sight faults
    (at_first (point_of faults elsewhere spares old before from) unread) (point_of faults elsewhere left new after upto) status

-- Behind a script the disks of providers are at home, each with the journal of its provider in this state, with its
-- interrupted entry or without it, also after a crash; all others are as they were.
pub record AreKept {D : Type 0} (tells : Type 0) (sight : D → Sight) (count : ℕ) (state : List Site)
    (old new : ℕ → Option D) : Type 0 where
  pub here : tells → (provider : ℕ) → provider < count
      → (disk : D) × (new provider ≡ Some disk)
      × ((bytes : Bytes) → (sight disk).may_leave bytes → IsLeft state provider bytes)
  pub elsewhere : tells → (provider : ℕ) → count ≤ provider → new provider ≡ old provider
