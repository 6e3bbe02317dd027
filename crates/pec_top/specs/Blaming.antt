-- Which device a run that was stopped blames. This project's profile.
use Rattle.std.specs.Prelude.{◌≡◌, ◌⊎◌, ℕ, ◌≤◌, Result, IsErrOf}
use Rattle.pec_outside.specs.Flow.{HasRisen}
use Rattle.pec_top.specs.declared.ending.Stop.{Stop}
use Rattle.pec_top.specs.declared.ending.Stop.TheVariants as stops
use Rattle.pec_top.specs.declared.opening.Refusal.{Refusal}
use Rattle.pec_top.specs.declared.opening.Refusal.TheVariants as refusals

-- A stop blames input or output only where that device's count of faults rose in the call, and no count falls: the
-- source's count before and after, then the sink's.
abbrev pub BlamesDevices : {T : Type 0} → Result T Stop → ℕ → ℕ → ℕ → ℕ → Type 0
BlamesDevices result source_old source_new sink_old sink_new =
    (IsErrOf result stops.ReadFault → HasRisen source_old source_new)
    × ((IsErrOf result stops.WriteFault → HasRisen sink_old sink_new)
    × ((source_old ≤ source_new) × (sink_old ≤ sink_new)))

-- The depot's count rose, or that of a disk as it last stood at home.
abbrev pub HaveDisksRisen : ℕ → ℕ → (ℕ → ℕ) → (ℕ → ℕ) → Type 0
HaveDisksRisen depot_old depot_new last left =
    HasRisen depot_old depot_new ⊎ ((provider : ℕ) × HasRisen (last provider) (left provider))

-- It blames disks only where one of these rose.
abbrev pub BlamesDisks : {T : Type 0} → Result T Stop → ℕ → ℕ → (ℕ → ℕ) → (ℕ → ℕ) → Type 0
BlamesDisks result depot_old depot_new last left =
    IsErrOf result stops.StartFault → HaveDisksRisen depot_old depot_new last left

-- It blames disks so, and the counts of the depot and of its disks don't fall.
abbrev pub DisksGo : {T : Type 0} → Result T Stop → ℕ → ℕ → (ℕ → ℕ) → (ℕ → ℕ) → Type 0
DisksGo result depot_old depot_new last left =
    BlamesDisks result depot_old depot_new last left × (depot_old ≤ depot_new) × ((provider : ℕ) → last provider ≤ left provider)

-- There is a last line to be written.
abbrev pub HasLine : Refusal → Type 0
HasLine (refusals.NotEmpty text) = Unit {0}
HasLine (refusals.NotFit text) = Unit {0}
HasLine refusals.StartFault = ⊥
HasLine refusals.NoMemory = ⊥

-- What stops a run that was refused: the output, whose count rose; or the refusal.
abbrev pub BlamesRefusal : Refusal → ℕ → ℕ → Stop → Type 0
BlamesRefusal refusal sink_old sink_new stops.WriteFault = HasRisen sink_old sink_new
BlamesRefusal refusal sink_old sink_new stops.StartFault = refusal ≡ refusals.StartFault
BlamesRefusal refusal sink_old sink_new stops.NoMemory = Unit {0}
BlamesRefusal refusal sink_old sink_new _ = ⊥
