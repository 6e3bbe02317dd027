-- A run of the program that plays a load: `LoadRan`. It makes a directory and a script, and plays them as a run in the form
-- `run` does; the lines of that run are dropped, and where it came to the script's end a summary of the ledger and of the
-- journals is written in their place. So all that is said of runs (`RanThrough` of pec_runs), and of each moment within them,
-- is said of it. This project's profile.
use Rattle.std.specs.Prelude.{◌≡◌, ℕ, ◌+◌, ◌==◌, List, [], ◌∷◌, codes, length, map, Option, None, Some, if◌then◌else◌}
use Rattle.std.specs.Fmt.{decimal}
use Rattle.std.specs.Str.{bytes_eq}
use Rattle.pec_types.specs.Bytes.{Bytes}
use Rattle.pec_types.specs.Options.{◌>>=◌}
use Rattle.pec_outside.specs.DiskModel.{Sight}
use Rattle.pec_outside.specs.Flow.{WrotePart, followed_by}
use Rattle.pec_ledger.specs.Network.{Site, journal_at}
use Rattle.pec_ledger.specs.Trade.{Trade}
use Rattle.pec_shelf.specs.Summaries.{total_of}
use Rattle.pec_shelf.specs.declared.summing.Summary.{Summary}
use Rattle.pec_script.specs.Texts.{Row, text_of}
use Rattle.pec_words.specs.Numbers.{number_below}
use Rattle.pec_screen.specs.Verdicts.{Patterns}
use Rattle.pec_load.specs.Generated.{commands_of}
use Rattle.pec_load.specs.Heard.{load_input}
use Rattle.pec_load.specs.declared.generating.TheConstants.{MOST_MESSAGES}
use Rattle.pec_runs.specs.Endings.{Done}
use Rattle.pec_runs.specs.Happened.{Asked, outcome_of}
use Rattle.pec_runs.specs.Ran.{Blames, Counts, NoneFell, world}
use Rattle.pec_runs.specs.ScriptLines.{Script, command_in}
use Rattle.pec_runs.specs.Statuses.{Status}
use Rattle.pec_runs.specs.Statuses as statuses
use Rattle.pec_runs.specs.Through.{RanThrough}

-- ---- words

abbrev pub but_for_none : ℕ → Option ℕ
but_for_none number = if number == 0 then None else Some number

-- how many messages a text asks for: a number from 1 on
abbrev pub number_loaded : Bytes → Option ℕ
number_loaded number = number_below (MOST_MESSAGES + 1) number >>= but_for_none

-- How many messages the words ask for: `load N`.
abbrev pub loads_in : List Bytes → Option ℕ
loads_in (word ∷ number ∷ []) = if bytes_eq word (codes "load") then number_loaded number else None
loads_in _ = None

-- ---- what is played

-- a load is played as a run in the form `run`, with these screens and without spares
abbrev pub load_asked : List (List Patterns) → Asked
load_asked screens = record { words = codes "run" ∷ []; screens = screens; spares = [] }

-- the script that it plays
abbrev pub load_script : ℕ → Script
load_script count = record { commands = map (command_in None) (commands_of count); end = Done }

-- ---- what is written

-- `load N`, `accepted N`, `delivered N`, `refused N`, `open N`, `noticed N`, and `entries NAME N` for each provider
abbrev pub summary_rows : ℕ → Summary → ℕ → ℕ → List Row
summary_rows count summary alfa beta =
    (codes "load" ∷ decimal count ∷ [])
    ∷ (codes "accepted" ∷ decimal summary.accepted ∷ [])
    ∷ (codes "delivered" ∷ decimal summary.delivered ∷ [])
    ∷ (codes "refused" ∷ decimal summary.refused ∷ [])
    ∷ (codes "open" ∷ decimal summary.unknown ∷ [])
    ∷ (codes "noticed" ∷ decimal summary.noticed ∷ [])
    ∷ (codes "entries" ∷ codes "alfa" ∷ decimal alfa ∷ [])
    ∷ (codes "entries" ∷ codes "beta" ∷ decimal beta ∷ []) ∷ []

-- the eight lines of a summary, with the numbers of entries of both journals
unfoldable pub summary_text : ℕ → Summary → ℕ → ℕ → Bytes
summary_text count summary alfa beta = text_of (summary_rows count summary alfa beta)

-- The summary of a load of so many messages that came to this state.
abbrev pub state_text : ℕ → Trade → List Site → Bytes
state_text count trade sites =
    summary_text count (total_of trade sites) (length (journal_at sites 0)) (length (journal_at sites 1))

-- what is written behind a run with this status and these lines: the summary of its state; its one line, where a disk
-- isn't empty; or nothing
abbrev pub written_behind : ℕ → Status → Bytes → Trade → List Site → Bytes
written_behind count statuses.Done lines trade sites = state_text count trade sites
written_behind count statuses.NotEmpty lines trade sites = lines
written_behind count _ lines trade sites = []

-- What the status says of what was written, where the run that was played had a status of its own, and this was to be
-- written behind it. For want of memory nothing is; only where the sink failed it is a front. No other status comes.
abbrev pub LoadTells : Status → Status → Bytes → Option Bytes → Option Bytes → Type 0
LoadTells statuses.Done played text before after = (played ≡ statuses.Done) × (after ≡ followed_by before text)
LoadTells statuses.NotEmpty played text before after = (played ≡ statuses.NotEmpty) × (after ≡ followed_by before text)
LoadTells statuses.StartFault played text before after = (played ≡ statuses.StartFault) × (after ≡ followed_by before [])
LoadTells statuses.NoMemory played text before after = after ≡ followed_by before []
LoadTells statuses.WriteFault played text before after = WrotePart before after text
LoadTells _ played text before after = ⊥

-- ---- the run

-- The counts of faults of devices, with others for input and output.
abbrev pub counts_with : Counts → ℕ → ℕ → Counts
counts_with counts source sink =
    record { source = source; sink = sink; depot = counts.depot; disks = counts.disks }

-- The program ran on `load N`, over a depot that had these disks at home, by provider, and has those: from what the output
-- held and the counts of faults as it began to those as it ended. Within it a run was played, from and to memory, which
-- read all of the load's directory and script; what each disk went through meanwhile is what it did in that run.
pub record LoadRan {D : Type 0} (tells : Type 0) (sight : D → Sight) (faults : D → ℕ) (count : ℕ) (screens : List (List Patterns))
    (status : Status) (before after : Option Bytes) (home left : ℕ → Option D) (old new : Counts) : Type 0 where
  pub played : Status
  pub lines : Bytes  -- what it wrote, which is dropped
  pub source : ℕ  -- the counts of faults of what it read from and wrote to, in memory, which begin at 0
  pub sink : ℕ
  pub through : RanThrough tells sight faults (load_asked screens) played (Some (load_input count)) (Some []) (Some lines) home left
      (counts_with old 0 0) (counts_with new source sink)
  pub told : LoadTells status played (written_behind count played lines (world through.ran.happened)
      (outcome_of (load_asked screens) through.ran.happened).after) before after
  pub blame : Blames status old new
  pub counts : NoneFell old new

-- ---- what its status says

-- the statuses that a run can have that plays a load
abbrev pub IsOfLoad : Status → Type 0
IsOfLoad statuses.Done = Unit {0}
IsOfLoad statuses.ReadFault = Unit {0}
IsOfLoad statuses.WriteFault = Unit {0}
IsOfLoad statuses.NoMemory = Unit {0}
IsOfLoad statuses.StartFault = Unit {0}
IsOfLoad statuses.NotEmpty = Unit {0}
IsOfLoad _ = ⊥

-- the statuses that a load can have without a fault
abbrev pub IsQuiet : Status → Type 0
IsQuiet statuses.Done = Unit {0}
IsQuiet statuses.NoMemory = Unit {0}
IsQuiet statuses.NotEmpty = Unit {0}
IsQuiet _ = ⊥
