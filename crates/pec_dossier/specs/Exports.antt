-- A run of the program that reads a directory to the input's end and writes it as another text: `ExportRan`, one record
-- with one witness, what stood in the input. It comes near no disk. This project's profile.
use Rattle.std.specs.Prelude.{◌≡◌, nat_lt, Bool, false, List, [], ◌∷◌, codes, length, Option, IfSome, Result, Ok, Err, if◌then◌else◌}
use Rattle.std.specs.Str.{bytes_eq}
use Rattle.pec_types.specs.Bytes.{Bytes}
use Rattle.pec_directory.specs.Directory.{Provider}
use Rattle.pec_input.specs.Directory.{Refusal, directory_in}
use Rattle.pec_input.specs.declared.opening.TheConstants.{LONGEST_DIRECTORY}
use Rattle.pec_runs.specs.Endings as ends
use Rattle.pec_runs.specs.Plays.{Ends, Finish, Stops, finish_text}
use Rattle.pec_runs.specs.Ran.{Blames, Counts, NoneFell, TellsAs}
use Rattle.pec_runs.specs.Statuses.{Status}
use Rattle.pec_runs.specs.Statuses as statuses

-- The words ask for the directory as LDIF: `ldif`.
abbrev pub asks_ldif : List Bytes → Bool
asks_ldif [] = false
asks_ldif (word ∷ []) = bytes_eq word (codes "ldif")
asks_ldif (word ∷ other ∷ words) = false

-- ---- what there is to write

-- the providers, or how a run finishes whose directory is refused
abbrev pub by_reading : Result (List Provider) Refusal → Result (List Provider) Finish
by_reading (Ok providers) = Ok providers
by_reading (Err why) = Err (Ends (ends.DirectoryRefused why))

-- The providers that the input says; or how the run finishes without them: it was stopped early, or the input is longer
-- than a directory, or is refused.
unfoldable pub providers_had : Bool → Bytes → Result (List Provider) Finish
providers_had early bytes =
    if early then Err Stops
    else (if nat_lt LONGEST_DIRECTORY (length bytes) then Err (Ends ends.LongDirectory)
    else by_reading (directory_in bytes))

-- the text of the providers, or a last line
abbrev pub exported_text : (List Provider → Bytes) → Result (List Provider) Finish → Bytes
exported_text text_of (Ok providers) = text_of providers
exported_text text_of (Err finish) = finish_text [] finish

-- how the run finishes
abbrev pub export_finish : Result (List Provider) Finish → Finish
export_finish (Ok providers) = Ends ends.Done
export_finish (Err finish) = finish

-- ---- the run

-- From what the input held and what the output held to the output as it is: this text of its directory was written, or
-- the last line of a run that has none, as the status says.
pub record Exported (text_of : List Provider → Bytes) (status : Status) (unread before after : Option Bytes)
    : Type 0 where
  pub bytes : Bytes  -- the input, to its end
  pub early : Bool  -- it was stopped before anything was to be written
  pub input : IfSome unread (λ text. bytes ≡ text)
  pub told : TellsAs status before after (exported_text text_of (providers_had early bytes))
      (export_finish (providers_had early bytes))

-- It wrote so; and the status blames a device only where its count of faults rose.
pub record ExportRan (text_of : List Provider → Bytes) (status : Status) (unread before after : Option Bytes)
    (old new : Counts) : Type 0 where
  pub exported : Exported text_of status unread before after
  pub blame : Blames status old new
  pub counts : NoneFell old new

-- ---- what its status says

-- the statuses that such a run can have
abbrev pub IsOfExport : Status → Type 0
IsOfExport statuses.Done = Unit {0}
IsOfExport statuses.Refused = Unit {0}
IsOfExport statuses.ReadFault = Unit {0}
IsOfExport statuses.WriteFault = Unit {0}
IsOfExport statuses.NoMemory = Unit {0}
IsOfExport statuses.InputTooLong = Unit {0}
IsOfExport _ = ⊥
