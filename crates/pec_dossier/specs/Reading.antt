-- What the program's own values stand for while the lines of a dossier are read: `IsSaid`, of what was found at a line.
-- This project's profile.
use Rattle.std.specs.Prelude.{◌≡◌, ◌≢◌, ℕ, ◌<◌, ◌≤◌, nat_lt, List, ◌∷◌, length, if◌then◌else◌, Result, Ok, Err, IsErrOf}
use Rattle.pec_types.specs.Bytes.{Bytes}
use Rattle.pec_outside.specs.Flow.{HasRisen}
use Rattle.pec_directory.specs.Directory.{Provider}
use Rattle.pec_input.specs.Lines.{content_of}
use Rattle.pec_input.specs.declared.buffers.Found.{Found}
use Rattle.pec_input.specs.declared.buffers.Found.TheVariants as found
use Rattle.pec_input.specs.declared.buffers.InputFault.{InputFault}
use Rattle.pec_input.specs.declared.buffers.InputFault.TheVariants as faults
use Rattle.pec_runs.specs.Endings.{End, end_text}
use Rattle.pec_runs.specs.Endings as ends
use Rattle.pec_runs.specs.ScriptLines.{longest_line, most_lines}
use Rattle.pec_runs.specs.Statuses.{Status, status_of}
use Rattle.pec_runs.specs.Statuses as statuses
use Rattle.pec_dossier.specs.Lines.{PassedOver, Saves, nothing_but, said_by, saved_in}
use Rattle.pec_dossier.specs.declared.ending.Last.{Last}
use Rattle.pec_dossier.specs.declared.ending.Last.TheVariants as lasts
use Rattle.pec_dossier.specs.declared.ending.Stop.{Stop}
use Rattle.pec_dossier.specs.declared.ending.Stop.TheVariants as stops
use Rattle.pec_dossier.specs.declared.lines.Said.{Said}
use Rattle.pec_dossier.specs.declared.lines.Said.TheVariants as said

-- ---- how a run ends

abbrev pub last_shown : Last → Status
last_shown lasts.Done = statuses.Done
last_shown lasts.Refused = statuses.Refused
last_shown lasts.TooLong = statuses.InputTooLong

abbrev pub stop_shown : Stop → Status
stop_shown stops.NoMemory = statuses.NoMemory
stop_shown stops.ReadFault = statuses.ReadFault
stop_shown stops.WriteFault = statuses.WriteFault

-- the status of a run that ended, or was stopped
abbrev pub result_shown : Result Last Stop → Status
result_shown (Ok last) = last_shown last
result_shown (Err stop) = stop_shown stop

-- what stops a run where its input isn't read on
abbrev pub stop_of : InputFault → Stop
stop_of faults.NoMemory = stops.NoMemory
stop_of faults.ReadFault = stops.ReadFault

-- A stop blames input or output only where that device's count of faults rose in the call, and no count falls: the
-- source's count before and after, then the sink's.
pub record BlamesDevices (result : Result Last Stop) (source_old source_new sink_old sink_new : ℕ) : Type 0 where
  pub read : IsErrOf result stops.ReadFault → HasRisen source_old source_new
  pub write : IsErrOf result stops.WriteFault → HasRisen sink_old sink_new
  pub source : source_old ≤ source_new
  pub sink : sink_old ≤ sink_new

-- ---- what a line says

-- how lines end at one of this number that is past a limit
abbrev pub end_past : ℕ → End
end_past number = if nat_lt most_lines number then ends.LongScript else ends.LongLine number

-- The dossier goes on behind the line.
abbrev pub GoesOn : Said → Type 0
GoesOn said.Nothing = Unit {0}
GoesOn (said.Message message) = Unit {0}
GoesOn said.End = ⊥
GoesOn (said.Last text last) = ⊥

-- A dossier that ends at a line isn't done.
abbrev pub IsEarly : Said → Type 0
IsEarly (said.Last text last) = last ≢ lasts.Done
IsEarly _ = Unit {0}

module _ (number : ℕ) where
  -- A dossier ends at the first of these lines, the first of which has this number, with this last line.
  pub record EndsAt (lines : List Bytes) (text : Bytes) (last : Last) : Type 0 where
    pub end : End
    pub early : end ≢ ends.Done
    pub saved : saved_in number lines ≡ nothing_but end
    pub text_is : (providers : List Provider) → text ≡ end_text providers end
    pub shown : last_shown last ≡ status_of end

  -- The line is passed over, or it saves a message; or the dossier ends there, whatever is behind it.
  abbrev pub IsLineSaid : Bytes → Said → Type 0
  IsLineSaid line said.Nothing = said_by number line ≡ PassedOver
  IsLineSaid line (said.Message message) = said_by number line ≡ Saves message.items
  IsLineSaid line said.End = ⊥
  IsLineSaid line (said.Last text last) = (lines : List Bytes) → EndsAt (line ∷ lines) text.items last

  -- nothing is left
  abbrev pub IsEnd : Said → Type 0
  IsEnd said.End = Unit {0}
  IsEnd _ = ⊥

  abbrev pub EndsSaid : List Bytes → Said → Type 0
  EndsSaid lines (said.Last text last) = EndsAt lines text.items last
  EndsSaid lines _ = ⊥

  -- What was found: no line; a line; or one that is too long.
  abbrev pub IsSaid : Found → Bytes → Said → Type 0
  IsSaid found.End line what = IsEnd what
  IsSaid found.Line line what = IsLineSaid line what
  IsSaid found.Long line what =
      (long : Bytes) (lines : List Bytes) → longest_line < length (content_of long) → EndsSaid (long ∷ lines) what
