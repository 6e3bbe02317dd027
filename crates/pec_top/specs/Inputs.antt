-- What the input of a run comes to, before a disk is asked for: `IsInputRead`. This project's profile.
use Rattle.std.specs.Prelude.{◌≡◌, ◌≤◌, false, List, length, Option, None, Some, IfSome, Ok, Err}
use Rattle.pec_types.specs.Bytes.{Bytes}
use Rattle.pec_directory.specs.Directory.{Provider, providers_of}
use Rattle.pec_input.specs.Directory.{Refusal, directory_in}
use Rattle.pec_input.specs.Faults.{refused_directory_text}
use Rattle.pec_input.specs.Finding.{IsAtEnd}
use Rattle.pec_input.specs.Opening.{parts_left}
use Rattle.pec_input.specs.Parts.{Parts}
use Rattle.pec_input.specs.declared.opening.TheConstants.{LONGEST_DIRECTORY}
use Rattle.pec_runs.specs.Endings.{end_text}
use Rattle.pec_runs.specs.Endings as runs
use Rattle.pec_runs.specs.Happened.{Asked, Over, stage_of}
use Rattle.pec_runs.specs.ScriptLines.{Hands}
use Rattle.pec_runs.specs.Openings.{Form, form_in}
use Rattle.pec_runs.specs.Ran.{IsInput}
use Rattle.pec_runs.specs.Statuses.{status_of}
use Rattle.pec_service.specs.Runs as services
use Rattle.pec_top.specs.Running.{parts_behind}
use Rattle.pec_top.specs.Shown.{end_shown}
use Rattle.pec_top.specs.declared.ending.End.{End}
use Rattle.pec_top.specs.declared.ending.End.TheVariants as ends
use Rattle.pec_top.specs.declared.input.Input.{Input}
use Rattle.pec_top.specs.declared.input.Input.TheVariants as input

-- how the run ends, where it ends there
abbrev pub end_of : Input → Option End
end_of (input.Opens directory) = None
end_of (input.Ends text last) = Some last

-- The run is over, in each form that plays a script, with this last line.
pub record IsOver (unread : Option Bytes) (text : Bytes) (last : End) : Type 0 where
  pub end : runs.End
  pub parts : Parts
  pub input : IsInput unread parts
  pub stage : (asked : Asked) (hands : Hands) (form : Form) → form_in asked.words ≡ Some form
      → stage_of asked hands false parts ≡ Over end
  pub text_is : (providers : List Provider) → text ≡ end_text providers end
  pub shown : end_shown last ≡ status_of end

-- The directory was taken, and this is left behind its mark.
pub record IsTaken (unread behind : Option Bytes) (providers : List Provider) : Type 0 where
  pub bytes : Bytes
  pub short : length bytes ≤ LONGEST_DIRECTORY
  pub reads : directory_in bytes ≡ Ok providers
  pub parts : parts_left unread ≡ parts_behind bytes behind

abbrev pub IsInputRead : Option Bytes → Option Bytes → Input → Type 0
IsInputRead unread behind (input.Opens directory) = IsTaken unread behind (providers_of directory)
IsInputRead unread behind (input.Ends text last) = IsOver unread text.items last

-- ---- a directory that is the whole input

-- A run that serves is over, with this last line.
pub record IsWholeOver (unread : Option Bytes) (text : Bytes) (last : End) : Type 0 where
  pub end : runs.End
  pub bytes : Bytes
  pub input : IfSome unread (λ all. bytes ≡ all)
  pub stage : services.stage_of false bytes ≡ services.Over end
  pub text_is : (providers : List Provider) → text ≡ end_text providers end
  pub shown : end_shown last ≡ status_of end

-- The directory was taken, and nothing is left.
pub record IsWholeTaken (unread left : Option Bytes) (providers : List Provider) : Type 0 where
  pub bytes : Bytes
  pub short : length bytes ≤ LONGEST_DIRECTORY
  pub reads : directory_in bytes ≡ Ok providers
  pub input : IfSome unread (λ all. bytes ≡ all)
  pub at_end : IsAtEnd left

abbrev pub IsWholeRead : Option Bytes → Option Bytes → Input → Type 0
IsWholeRead unread left (input.Opens directory) = IsWholeTaken unread left (providers_of directory)
IsWholeRead unread left (input.Ends text last) = IsWholeOver unread text.items last

-- ---- what the bytes of a directory come to

abbrev pub IsDirectoryRead : Bytes → Input → Type 0
IsDirectoryRead bytes (input.Opens directory) = directory_in bytes ≡ Ok (providers_of directory)
IsDirectoryRead bytes (input.Ends text last) =
    (why : Refusal) × (directory_in bytes ≡ Err why) × (text.items ≡ refused_directory_text why) × (last ≡ ends.Refused)
