-- A run but for the counts of faults of its devices: `RanSo`. This project's profile.
use Rattle.std.specs.Prelude.{◌≡◌, ◌≢◌, ℕ, List, Ok, Option, Some, None, option_map}
use Rattle.pec_types.specs.Bytes.{Bytes}
use Rattle.pec_outside.specs.DiskModel.{Sight}
use Rattle.pec_directory.specs.Directory.{Provider}
use Rattle.pec_input.specs.Directory.{directory_in}
use Rattle.pec_input.specs.Lines.{raw_lines}
use Rattle.pec_input.specs.Parts.{Parts}
use Rattle.pec_runs.specs.Happened.{Asked, Begun, Happened, IsGiven, IsSetting, outcome_of, providers_in, stage_of}
use Rattle.pec_runs.specs.Openings.{Disks, Form, disks_at}
use Rattle.pec_runs.specs.Ran.{Counts, IsAt, IsInput, Tells}
use Rattle.pec_runs.specs.ScriptLines.{Script}
use Rattle.pec_runs.specs.Statuses.{Status}
use Rattle.pec_runs.specs.Through.{DisksWent}
use Rattle.pec_screen.specs.Verdicts.{Patterns}

-- what a run is asked, by its words, its screens and its spares
abbrev pub asked_with : List Bytes → List (List Patterns) → List Patterns → Asked
asked_with words screens spares = record { words = words; screens = screens; spares = spares }

-- counts of faults of disks alone
abbrev pub disk_counts : (ℕ → ℕ) → Counts
disk_counts counts = record { source = 0; sink = 0; depot = 0; disks = counts }

-- a directory, and the lines behind its mark, of what is left to read
abbrev pub parts_behind : Bytes → Option Bytes → Option Parts
parts_behind directory unread =
    option_map (λ rest. record { directory = directory; script = Some (raw_lines rest) }) unread

-- The program ran so: `Ran` of pec_runs, but for the counts of faults of input, output and depot.
pub record RanSo (asked : Asked) (status : Status) (unread before after : Option Bytes) (tells : Type 0)
    (old_disks new_disks : Disks) (from upto : ℕ → ℕ) : Type 0 where
  pub happened : Happened
  pub given : IsGiven asked happened
  pub input : IsInput unread happened.parts
  pub setting : (form : Form) (script : Script)
      → stage_of asked happened.hands happened.early happened.parts ≡ Begun form script
      → (providers : List Provider) → directory_in happened.parts.directory ≡ Ok providers
      → IsSetting providers happened.setting
  pub told : Tells (providers_in happened.setting) status before after (outcome_of asked happened)
  pub is_at : IsAt tells old_disks new_disks (disk_counts from) (disk_counts upto) happened status asked
      (stage_of asked happened.hands happened.early happened.parts)

-- The same over a depot that had these disks at home, by provider, and has those; and what they went through between.
pub record RanSoOver {D : Type 0} (tells : Type 0) (sight : D → Sight) (faults : D → ℕ) (asked : Asked) (status : Status)
    (unread before after : Option Bytes) (home left : ℕ → Option D) (from upto : ℕ → ℕ) : Type 0 where
  pub so : RanSo asked status unread before after tells (disks_at tells sight home) (disks_at tells sight left) from upto
  pub through : DisksWent tells sight faults home left from upto before after asked so.happened

-- Each disk that was at home is at home again.
abbrev pub AreHomeAgain : {D : Type 0} → (old new : ℕ → Option D) → Type 0
AreHomeAgain old new = (provider : ℕ) → old provider ≢ None → new provider ≢ None
