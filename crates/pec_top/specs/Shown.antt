-- What the program's own values stand for in the words of a run.
use Rattle.std.specs.Prelude.{◌≤◌, ℕ, Option, Some, None, Result, Ok, Err, codes, if◌then◌else◌}
use Rattle.std.specs.Str.{bytes_eq}
use Rattle.pec_types.specs.Bytes.{Bytes}
use Rattle.pec_dossier.specs.Extracts.{Range}
use Rattle.pec_extract.specs.declared.faults.ExtractFault.{ExtractFault}
use Rattle.pec_extract.specs.declared.faults.ExtractFault.TheVariants as extracts
use Rattle.pec_input.specs.declared.buffers.InputFault.{InputFault}
use Rattle.pec_input.specs.declared.buffers.InputFault.TheVariants as faults
use Rattle.pec_serving.specs.OfNetworks.{NotFit}
use Rattle.pec_serving.specs.OfNetworks.reasons as reasons
use Rattle.pec_serving.specs.OfNetworks.{Form as Way}
use Rattle.pec_serving.specs.OfNetworks.ways as ways
use Rattle.pec_serving.specs.OfNetworks.{Stop as PlayStop}
use Rattle.pec_serving.specs.OfNetworks.play_stops as play_stops
use Rattle.pec_script.specs.declared.answers.Unfit.{Unfit}
use Rattle.pec_script.specs.declared.answers.Unfit.TheVariants as unfits
use Rattle.pec_load.specs.declared.generating.TheConstants.{MOST_MESSAGES}
use Rattle.pec_runs.specs.Openings as runs
use Rattle.pec_runs.specs.Statuses as statuses
use Rattle.pec_top.specs.declared.ending.End.{End}
use Rattle.pec_top.specs.declared.ending.End.TheVariants as ends
use Rattle.pec_top.specs.declared.ending.Stop.{Stop}
use Rattle.pec_top.specs.declared.ending.Stop.TheVariants as stops
use Rattle.pec_top.specs.declared.forms.Form.{Form}
use Rattle.pec_top.specs.declared.forms.Form.TheVariants as forms
use Rattle.pec_top.specs.declared.forms.Task.{Task}
use Rattle.pec_top.specs.declared.forms.Task.TheVariants as asked
use Rattle.pec_top.specs.Tasks as tasks
use Rattle.pec_top.specs.declared.status.Status.{Status}
use Rattle.pec_top.specs.declared.status.Status.TheVariants as told

abbrev pub status_shown : Status → statuses.Status
status_shown told.Done = statuses.Done
status_shown told.Usage = statuses.Usage
status_shown told.Refused = statuses.Refused
status_shown told.ReadFault = statuses.ReadFault
status_shown told.WriteFault = statuses.WriteFault
status_shown told.NoMemory = statuses.NoMemory
status_shown told.StartFault = statuses.StartFault
status_shown told.NotEmpty = statuses.NotEmpty
status_shown told.NotFit = statuses.NotFit
status_shown told.ClockFault = statuses.ClockFault
status_shown told.DoorFault = statuses.DoorFault
status_shown told.InputTooLong = statuses.InputTooLong
status_shown told.DiskFault = statuses.DiskFault
status_shown told.Changed = statuses.Changed

abbrev pub end_shown : End → statuses.Status
end_shown ends.Done = statuses.Done
end_shown ends.Usage = statuses.Usage
end_shown ends.Refused = statuses.Refused
end_shown ends.NotEmpty = statuses.NotEmpty
end_shown ends.NotFit = statuses.NotFit
end_shown ends.TooLong = statuses.InputTooLong

abbrev pub stop_shown : Stop → statuses.Status
stop_shown stops.NoMemory = statuses.NoMemory
stop_shown stops.ReadFault = statuses.ReadFault
stop_shown stops.WriteFault = statuses.WriteFault
stop_shown stops.StartFault = statuses.StartFault
stop_shown stops.ClockFault = statuses.ClockFault
stop_shown stops.DoorFault = statuses.DoorFault

-- the status of a run that ended, or was stopped
abbrev pub result_shown : Result End Stop → statuses.Status
result_shown (Ok end) = end_shown end
result_shown (Err stop) = stop_shown stop

-- the status of a run that wrote an extract of logs, or was stopped so
abbrev pub log_shown : {X : Type 0} → Result X ExtractFault → statuses.Status
log_shown (Ok done) = statuses.Done
log_shown (Err extracts.NoMemory) = statuses.NoMemory
log_shown (Err extracts.WriteFault) = statuses.WriteFault
log_shown (Err extracts.DiskFault) = statuses.DiskFault
log_shown (Err (extracts.Changed number)) = statuses.Changed

-- what stops a run where its input isn't read on
abbrev pub stop_of : InputFault → Stop
stop_of faults.NoMemory = stops.NoMemory
stop_of faults.ReadFault = stops.ReadFault

-- what stops a run within a command
abbrev pub played_stop : PlayStop → Stop
played_stop play_stops.NoMemory = stops.NoMemory
played_stop play_stops.WriteFault = stops.WriteFault

-- what stops a load whose run was stopped so: it reads from memory and writes to it, so all but a disk is want of memory
abbrev pub loaded_stop : Stop → Stop
loaded_stop stops.StartFault = stops.StartFault
loaded_stop _ = stops.NoMemory

-- ---- forms

abbrev pub form_shown : Form → runs.Form
form_shown forms.Run = runs.Run
form_shown forms.Resume = runs.Resume

-- the form of a word
abbrev pub form_named : Bytes → Option runs.Form
form_named word =
    if bytes_eq word (codes "run") then Some runs.Run
    else (if bytes_eq word (codes "resume") then Some runs.Resume else None)

-- the range between two moments
abbrev pub range_shown : ℕ × ℕ → Range
range_shown ends = record { from = ends.0; upto = ends.1 }

abbrev pub task_shown : Task → tasks.Task
task_shown (asked.Play form) = tasks.Plays (form_shown form)
task_shown (asked.Serve wanted) = tasks.Serves wanted
task_shown asked.Export = tasks.Exports
task_shown asked.Check = tasks.Checks
task_shown (asked.Extract from upto) = tasks.Extracts (range_shown (from, upto))
task_shown (asked.Load count) = tasks.Loads count
task_shown asked.NoForm = tasks.NoForm

-- no more messages are asked for than a load has
abbrev pub AsksFew : Task → Type 0
AsksFew (asked.Load count) = count ≤ MOST_MESSAGES
AsksFew _ = Unit {0}

-- how a network begins in this form
abbrev pub way_of : Form → Way
way_of forms.Run = ways.Make
way_of forms.Resume = ways.Open

-- why a journal isn't a provider's own, as it is written
abbrev pub unfit_of : NotFit → Unfit
unfit_of (reasons.Journal place) = unfits.Journal place
unfit_of (reasons.OtherDirectory kept given) = unfits.Directory kept given
unfit_of (reasons.BadEntry number) = unfits.Entry number
