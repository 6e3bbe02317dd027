-- What a run of each form comes to where no count of faults rises, on disks with which it can begin: `Completes`. This
-- project's profile.
use Rattle.std.specs.Prelude.{◌≡◌, ◌⊎◌, ◌≤◌, ℕ, All, List, length, None, Ok, Option, Some}
use Rattle.pec_types.specs.Bytes.{Bytes}
use Rattle.pec_outside.specs.DiskModel.{Sight}
use Rattle.pec_outside.specs.Flow.{followed_by}
use Rattle.pec_directory.specs.Directory.{Provider}
use Rattle.pec_dossier.specs.Checks.{checked_text, dossier_in, end_in}
use Rattle.pec_input.specs.Directory.{directory_in}
use Rattle.pec_input.specs.Lines.{raw_lines}
use Rattle.pec_input.specs.Parts.{parts_of}
use Rattle.pec_input.specs.declared.opening.TheConstants.{LONGEST_DIRECTORY}
use Rattle.pec_ldif.specs.Writing.{ldif_text}
use Rattle.pec_load.specs.declared.generating.TheConstants.{MOST_MESSAGES}
use Rattle.pec_load_runs.specs.Loading.{load_asked, state_text}
use Rattle.pec_runs.specs.Complete.{CanBegin}
use Rattle.pec_runs.specs.Happened.{Asked, Begun, outcome_of, stage_of, trade_in}
use Rattle.pec_runs.specs.Openings.{NoMore, Resume, Run}
use Rattle.pec_runs.specs.Plays.{IsUnchanged}
use Rattle.pec_runs.specs.Ran.{world}
use Rattle.pec_runs.specs.ScriptLines.{Script}
use Rattle.pec_runs.specs.Statuses.{Status, status_of}
use Rattle.pec_runs.specs.Statuses as statuses
use Rattle.pec_runs.specs.Transcripts.{TellsTranscript}
use Rattle.pec_screen.specs.Verdicts.{Patterns}
use Rattle.pec_service.specs.Complete.{CanServe, ServesWhole}
use Rattle.pec_service.specs.Runs.{Begins}
use Rattle.pec_service.specs.Runs as service
use Rattle.pec_top.specs.Extracting.{text_within}
use Rattle.pec_top.specs.Tasks.{Checks, Exports, Extracts, IsRun, Loads, NoForm, Plays, Serves, Task, View}

-- a view with these disks at home
abbrev pub with_home : {D : Type 0} → View D → (ℕ → Option D) → View D
with_home view home = record {
  unread = view.unread;
  held = view.held;
  home = home;
  outside = view.outside;
  out = view.out;
  counts = view.counts;
}

module _ {D : Type 0} (tells : Type 0) (sight : D → Sight) (faults : D → ℕ) (words : List Bytes)
    (screens : List (List Patterns)) (spares : List Patterns) (status : Status) (old new : View D) where
  -- a run that plays, or writes of words that they are no form
  abbrev asked : Asked
  asked = record { words = words; screens = screens; spares = spares }

  -- Status 0, with this text behind what the output held.
  abbrev HasWritten : Bytes → Type 0
  HasWritten text = (status ≡ statuses.Done) × (new.held ≡ followed_by old.held text)

  -- Unless memory ran out, it does the whole of what it was asked for.
  abbrev pub Completes : (task : Task) → IsRun tells sight faults words screens spares status old new task → Type 0
  -- All journals are had, and the whole transcript is written, with the status of the script's end.
  Completes (Plays form) run =
      (script : Script)
      → stage_of asked run.ran.happened.hands run.ran.happened.early run.ran.happened.parts ≡ Begun form script
      → CanBegin sight (world run.ran.happened) old.home form → All IsUnchanged (outcome_of asked run.ran.happened).answers
      → (status ≡ statuses.NoMemory)
      ⊎ ((run.ran.happened.opening.next ≡ NoMore) × TellsTranscript asked run.ran.happened status old.held new.held)
  -- All journals are had, and as many connections are served as were asked for.
  Completes (Serves wanted) run =
      service.stage_of run.ran.served.happened.early run.ran.served.happened.directory ≡ Begins
      → CanServe sight (service.world run.ran.served.happened) old.home
      → (status ≡ statuses.NoMemory)
      ⊎ ServesWhole (record { wanted = wanted; screens = screens }) status old.held new.held old.outside run.ran.served.happened
  -- The directory is written.
  Completes Exports run =
      (text : Bytes) (providers : List Provider) → old.unread ≡ Some text → length text ≤ LONGEST_DIRECTORY
      → directory_in text ≡ Ok providers → (status ≡ statuses.NoMemory) ⊎ HasWritten (ldif_text providers)
  -- All that the letters come to is written, with the status of its end.
  Completes Checks run =
      (text : Bytes) → old.unread ≡ Some text
      → (status ≡ statuses.NoMemory)
      ⊎ ((status ≡ status_of (end_in (dossier_in (parts_of (raw_lines text)))))
      × (new.held ≡ followed_by old.held (checked_text None (dossier_in (parts_of (raw_lines text))))))
  -- All journals are had, and the extract of all of them is written, unless an entry isn't what was kept.
  Completes (Extracts range) run =
      (text : Bytes) (providers : List Provider) → old.unread ≡ Some text → length text ≤ LONGEST_DIRECTORY
      → directory_in text ≡ Ok providers → CanBegin sight (trade_in run.ran.so.setting) old.home Resume
      → (status ≡ statuses.NoMemory) ⊎ ((status ≡ statuses.Changed) ⊎ ((run.ran.so.opening.next ≡ NoMore)
      × HasWritten (text_within range (trade_in run.ran.so.setting) providers run.ran.so.opening.journals)))
  -- Both journals are made, all is played, and the summary is written.
  Completes (Loads count) run =
      count ≤ MOST_MESSAGES → CanBegin sight (world run.through.ran.happened) old.home Run
      → (status ≡ statuses.NoMemory)
      ⊎ HasWritten (state_text count (world run.through.ran.happened)
      (outcome_of (load_asked screens) run.through.ran.happened).after)
  -- One line says that the words are no form.
  Completes NoForm run =
      All IsUnchanged (outcome_of asked run.ran.happened).answers
      → (status ≡ statuses.NoMemory) ⊎ TellsTranscript asked run.ran.happened status old.held new.held
