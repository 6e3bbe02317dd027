-- What the words ask of the program, `Task`; the run that they ask for, `IsRun`, one line for each form; a run of the
-- program, `ProgramRan`; and what it leaves as it is, `LeavesAlone`. This project's profile.
use Rattle.std.specs.Prelude.{◌≡◌, ℕ, Bool, true, false, List, Option, Some, None, if◌then◌else◌}
use Rattle.pec_types.specs.Bytes.{Bytes}
use Rattle.pec_outside.specs.DiskModel.{Sight}
use Rattle.pec_dossier.specs.Checks.{CheckRan, asks_check}
use Rattle.pec_dossier.specs.Exports.{ExportRan, asks_ldif}
use Rattle.pec_dossier.specs.Extracts.{Range, extracts_in}
use Rattle.pec_input.specs.Finding.{IsAtEnd}
use Rattle.pec_ldif.specs.Writing.{ldif_text}
use Rattle.pec_load_runs.specs.Loading.{LoadRan, loads_in}
use Rattle.pec_outside.specs.Doors.{Reply}
use Rattle.pec_runs.specs.Openings.{Form, form_in}
use Rattle.pec_runs.specs.Statuses.{Status}
use Rattle.pec_runs.specs.Statuses as statuses
use Rattle.pec_runs.specs.Through.{RanThrough}
use Rattle.pec_screen.specs.Verdicts.{Patterns}
use Rattle.pec_service.specs.Runs.{AllCounts, Outside, wanted_in}
use Rattle.pec_service.specs.Through.{ServiceRanThrough}
use Rattle.pec_top.specs.Extracting.{LogRan}
use Rattle.pec_top.specs.Hosting.{counts_of}
use Rattle.pec_top.specs.Running.{AreHomeAgain}

-- ---- words

-- What the program is asked to do.
pub data Task : Type 0 where
  Plays : (form : Form) → Task  -- to play a script
  Serves : (wanted : ℕ) → Task  -- to serve so many connections
  Exports : Task  -- to write its directory as LDIF
  Checks : Task  -- to check a dossier of saved letters
  Extracts : (range : Range) → Task  -- to write an extract of what was logged in a range of moments
  Loads : (count : ℕ) → Task  -- to play a load of so many messages
  NoForm : Task  -- the words are none of the program's forms

abbrev pub plays_or : Option Form → Task → Task
plays_or (Some form) other = Plays form
plays_or None other = other

abbrev pub serves_or : Option ℕ → Task → Task
serves_or (Some wanted) other = Serves wanted
serves_or None other = other

abbrev pub loads_or : Option ℕ → Task → Task
loads_or (Some count) other = Loads count
loads_or None other = other

abbrev pub extracts_or : Option Range → Task → Task
extracts_or (Some range) other = Extracts range
extracts_or None other = other

-- What the words ask for. No words ask for two things, so the order says nothing.
abbrev pub task_in : List Bytes → Task
task_in words =
    if asks_ldif words then Exports
    else (if asks_check words then Checks
    else extracts_or (extracts_in words)
    (loads_or (loads_in words) (serves_or (wanted_in words) (plays_or (form_in words) NoForm))))

-- words that are no form read no input, and a load reads what it makes
abbrev pub reads_input : Task → Bool
reads_input NoForm = false
reads_input (Loads count) = false
reads_input _ = true

-- only a run that plays, serves or extracts asks for disks
abbrev pub asks_disks : Task → Bool
asks_disks (Plays form) = true
asks_disks (Serves wanted) = true
asks_disks (Loads count) = true
asks_disks (Extracts range) = true
asks_disks _ = false

-- only a run that serves asks clock and door
abbrev pub asks_outside : Task → Bool
asks_outside (Serves wanted) = true
asks_outside _ = false

-- ---- the run

-- What a run has before it, or behind it: what is left of the input, what the output holds, the disks at home, what clock
-- and door give and got, how many connections were let in and aren't closed, and all counts of faults.
pub record View (D : Type 0) : Type 0 where
  pub unread : Option Bytes
  pub held : Option Bytes
  pub home : ℕ → Option D
  pub outside : Outside
  pub out : ℕ
  pub counts : AllCounts

-- the same, device by device, each with its count of faults behind all else; `last` has the counts of the depot's disks
-- as they last stood at home
abbrev pub view_of : {D : Type 0} → (unread : Option Bytes) → (source : ℕ) → (held : Option Bytes) → (sink : ℕ)
    → (home : ℕ → Option D) → (last : ℕ → ℕ) → (depot : ℕ) → (moments : Option (List ℕ)) → (clock : ℕ)
    → (requests : Option (List Bytes)) → (replies : Option (List Reply)) → (out door : ℕ) → View D
view_of unread source held sink home last depot moments clock requests replies out door = record {
  unread = unread;
  held = held;
  home = home;
  outside = record { moments = moments; requests = requests; replies = replies };
  out = out;
  counts = counts_of source sink depot last clock door;
}

module _ {D : Type 0} (tells : Type 0) (sight : D → Sight) (faults : D → ℕ) (words : List Bytes)
    (screens : List (List Patterns)) (spares : List Patterns) (status : Status) (old new : View D) where
  -- A script was played; or the words have no form. It says of each moment of it what a crash may leave.
  abbrev pub HasPlayed : Type 0
  HasPlayed =
      RanThrough tells sight faults (record { words = words; screens = screens; spares = spares }) status old.unread old.held
      new.held old.home new.home old.counts.devices new.counts.devices

  -- Connections were served. It says of each moment of it what a crash may leave.
  abbrev pub HasServed : ℕ → Type 0
  HasServed wanted =
      ServiceRanThrough tells sight faults (record { wanted = wanted; screens = screens }) status old.unread old.held new.held
      old.home new.home old.outside new.outside old.counts new.counts

  -- The directory was written as LDIF.
  abbrev pub HasExported : Type 0
  HasExported = ExportRan ldif_text status old.unread old.held new.held old.counts.devices new.counts.devices

  -- The letters of a dossier were checked.
  abbrev pub HasChecked : Type 0
  HasChecked = CheckRan status old.unread old.held new.held old.counts.devices new.counts.devices

  -- An extract of logs was written, of this range.
  abbrev pub HasExtracted : Range → Type 0
  HasExtracted range =
      LogRan tells sight faults range status old.unread old.held new.held old.home new.home old.counts.devices
      new.counts.devices

  -- A load of so many messages was played.
  abbrev pub HasLoaded : ℕ → Type 0
  HasLoaded count =
      LoadRan tells sight faults count screens status old.held new.held old.home new.home old.counts.devices new.counts.devices

  -- A run that does so.
  abbrev pub IsRun : Task → Type 0
  IsRun (Plays form) = HasPlayed
  IsRun (Serves wanted) = HasServed wanted
  IsRun Exports = HasExported
  IsRun Checks = HasChecked
  IsRun (Extracts range) = HasExtracted range
  IsRun (Loads count) = HasLoaded count
  IsRun NoForm = HasPlayed

-- A run of the program on these words, with screens and spares of these patterns. `tells`: the depot tells its disks;
-- `reads`: these tell what they hold; `faults`: the count of faults that a disk itself tells.
pub record ProgramRan {D : Type 0} (tells reads : Type 0) (sight : D → Sight) (faults : D → ℕ) (words : List Bytes)
    (screens : List (List Patterns)) (spares : List Patterns) (status : Status) (old new : View D) : Type 0 where
  -- it is one of the kind that the words ask for
  pub is_run : IsRun (tells × reads) sight faults words screens spares status old new (task_in words)
  -- at status 0 the input was read to its end, where it is read
  pub all_read : status ≡ statuses.Done → reads_input (task_in words) ≡ true → IsAtEnd new.unread
  -- each connection that was let in is closed
  pub closed : new.out ≡ old.out
  -- each disk that was at home is at home again
  pub home : tells → AreHomeAgain old.home new.home

-- What a run leaves as it is, by what it was asked to do: input, depot, clock and door.
pub record LeavesAlone {I P T R : Type 0} (task : Task) (old_input new_input : I) (old_depot new_depot : P)
    (old_clock new_clock : T) (old_door new_door : R) : Type 0 where
  pub unread : reads_input task ≡ false → new_input ≡ old_input
  pub undisturbed : asks_disks task ≡ false → new_depot ≡ old_depot
  pub apart : asks_outside task ≡ false → (new_clock ≡ old_clock) × (new_door ≡ old_door)
