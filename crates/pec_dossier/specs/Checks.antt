-- A run of the program that checks a dossier: `CheckRan`, one record with one witness, what stood in the input and how
-- far the run came. It comes near no disk. This project's profile.
use Rattle.std.specs.Prelude.{◌≡◌, ℕ, nat_lt, List, [], ◌∷◌, ◌++◌, codes, length, map, take, Bool, false, Option, None, Some, IfSome, Result, Ok, Err, if◌then◌else◌}
use Rattle.std.specs.Str.{bytes_eq}
use Rattle.pec_types.specs.Bytes.{Bytes}
use Rattle.pec_directory.specs.Directory.{Provider}
use Rattle.pec_seal.specs.Hmac.{hmac_seals}
use Rattle.pec_seal.specs.Seals.{Seals}
use Rattle.pec_trade.specs.Keys.{keys_of, names_of}
use Rattle.pec_check.specs.GenuineReading.{report_of}
use Rattle.pec_script.specs.Texts.{text_of}
use Rattle.pec_input.specs.Directory.{Refusal, directory_in}
use Rattle.pec_input.specs.Finding.{lines_left}
use Rattle.pec_input.specs.Parts.{Parts}
use Rattle.pec_input.specs.declared.opening.TheConstants.{LONGEST_DIRECTORY}
use Rattle.pec_runs.specs.Endings.{End, end_text}
use Rattle.pec_runs.specs.Endings as ends
use Rattle.pec_runs.specs.Plays.{Ends, Finish, Stops}
use Rattle.pec_runs.specs.Ran.{Blames, Counts, IsInput, NoneFell, TellsAs}
use Rattle.pec_runs.specs.Statuses.{Status}
use Rattle.pec_runs.specs.Statuses as statuses
use Rattle.pec_dossier.specs.Lines.{Saved, saved_in}
use Rattle.pec_dossier.specs.Tallies.{summary_text, tally_of}
use Rattle.pec_dossier.specs.Texts.{Told, rows_from}

-- The words ask for a dossier to be checked: `check`.
abbrev pub asks_check : List Bytes → Bool
asks_check [] = false
asks_check (word ∷ []) = bytes_eq word (codes "check")
asks_check (word ∷ other ∷ words) = false

-- ---- what is told of messages

-- who seals for the providers of a directory: each under its own name, with its own key
abbrev pub seals_of : List Provider → Seals
seals_of providers = hmac_seals (names_of providers) (keys_of providers)

-- what is told of a message
abbrev pub told_of : List Provider → Bytes → Told
told_of providers message = report_of (seals_of providers) providers message

-- what is told of each of them
abbrev pub all_told : List Provider → List Bytes → List Told
all_told providers messages = map (told_of providers) messages

-- The lines of these messages, numbered from 0.
unfoldable pub told_text : List Provider → List Bytes → Bytes
told_text providers messages = text_of (rows_from providers 0 (all_told providers messages))

-- ---- what is written of lines

-- behind the last message: what all prove together, where the lines were read to their end, and else why they weren't
abbrev pub last_text : List Provider → List Bytes → End → Bytes
last_text providers messages ends.Done = summary_text providers (tally_of (all_told providers messages))
last_text providers messages end = end_text providers end

-- What is written of what lines save: all of it; or, where the run is stopped behind so many messages, their lines.
abbrev pub saved_text : List Provider → Option ℕ → Saved → Bytes
saved_text providers None saved = told_text providers saved.messages ++ last_text providers saved.messages saved.end
saved_text providers (Some count) saved = told_text providers (take count saved.messages)

abbrev pub saved_finish : Option ℕ → Saved → Finish
saved_finish None saved = Ends saved.end
saved_finish (Some count) saved = Stops

-- the lines that are left to read, where that is told
abbrev pub AreLeft : Option Bytes → List Bytes → Type 0
AreLeft unread lines = IfSome (lines_left unread) (λ told. lines ≡ told)

-- Of the lines that were left so much was written, as the status says.
pub record AreChecked (providers : List Provider) (status : Status) (unread before after : Option Bytes) : Type 0 where
  pub lines : List Bytes
  pub stopped : Option ℕ  -- behind how many messages the run was stopped, if it was
  pub left : AreLeft unread lines
  pub told : TellsAs status before after (saved_text providers stopped (saved_in 1 lines))
      (saved_finish stopped (saved_in 1 lines))

-- ---- the run

-- A dossier: the providers of its directory, and what its lines save.
pub record Dossier : Type 0 where
  pub providers : List Provider
  pub saved : Saved

-- the last test: the directory is refused, or this is the dossier of these lines
abbrev pub by_directory : List Bytes → Result (List Provider) Refusal → Result Dossier End
by_directory lines (Ok providers) = Ok (record { providers = providers; saved = saved_in 1 lines })
by_directory lines (Err why) = Err (ends.DirectoryRefused why)

-- the test before it: no line says `%%`
abbrev pub by_lines : Bytes → Option (List Bytes) → Result Dossier End
by_lines directory None = Err ends.NoScript
by_lines directory (Some lines) = by_directory lines (directory_in directory)

-- The dossier that an input is; or how the run ends that has none: the length of the directory first, then the mark behind
-- it, and then the directory itself.
unfoldable pub dossier_in : Parts → Result Dossier End
dossier_in parts =
    if nat_lt LONGEST_DIRECTORY (length parts.directory) then Err ends.LongDirectory
    else by_lines parts.directory parts.script

-- What is written of an input; of one that is no dossier, where the run isn't stopped before, a last line.
abbrev pub checked_text : Option ℕ → Result Dossier End → Bytes
checked_text stopped (Ok dossier) = saved_text dossier.providers stopped dossier.saved
checked_text None (Err end) = end_text [] end
checked_text (Some count) (Err end) = []

abbrev pub checked_finish : Option ℕ → Result Dossier End → Finish
checked_finish stopped (Ok dossier) = saved_finish stopped dossier.saved
checked_finish None (Err end) = Ends end
checked_finish (Some count) (Err end) = Stops

-- From what the input held and what the output held to the output as it is: so much was written of the input, as the
-- status says.
pub record Checked (status : Status) (unread before after : Option Bytes) : Type 0 where
  pub parts : Parts  -- the input, to its end
  pub stopped : Option ℕ  -- behind how many messages the run was stopped, if it was
  pub input : IsInput unread parts
  pub told : TellsAs status before after (checked_text stopped (dossier_in parts))
      (checked_finish stopped (dossier_in parts))

-- It wrote so; and the status blames a device only where its count of faults rose.
pub record CheckRan (status : Status) (unread before after : Option Bytes) (old new : Counts) : Type 0 where
  pub checked : Checked status unread before after
  pub blame : Blames status old new
  pub counts : NoneFell old new

-- ---- what its status says

-- how an input ends
abbrev pub end_in : Result Dossier End → End
end_in (Ok dossier) = dossier.saved.end
end_in (Err end) = end

-- the statuses that such a run can have
abbrev pub IsOfCheck : Status → Type 0
IsOfCheck statuses.Done = Unit {0}
IsOfCheck statuses.Refused = Unit {0}
IsOfCheck statuses.ReadFault = Unit {0}
IsOfCheck statuses.WriteFault = Unit {0}
IsOfCheck statuses.NoMemory = Unit {0}
IsOfCheck statuses.InputTooLong = Unit {0}
IsOfCheck _ = ⊥
