-- A run of the program, from what went in to what came out: `Ran`, one record with one witness, what happened. It
-- says what was written, with which status, what the counts of faults have to do with it, and what the disks hold in
-- the end. Nothing here presumes that frames are genuine or that journals fit; that stands in laws. This project's
-- profile.
use Rattle.std.specs.Prelude.{◌≡◌, ℕ, ◌≤◌, ◌⊎◌, List, ◌++◌, length, slice_get, Option, Some, None, IfSome, Ok}
use Rattle.pec_types.specs.Bytes.{Bytes}
use Rattle.pec_outside.specs.DiskModel.{Sight}
use Rattle.pec_outside.specs.Flow.{HasRisen, WrotePart, followed_by}
use Rattle.pec_directory.specs.Directory.{Provider}
use Rattle.pec_ledger.specs.Network.{Site, interrupted_at, journal_at}
use Rattle.pec_ledger.specs.Trade.{Trade}
use Rattle.pec_plays.specs.Commands.{Command, Luck, played}
use Rattle.pec_input.specs.Directory.{directory_in}
use Rattle.pec_runs.specs.Happened.{Asked, Happened, IsGiven, IsSetting, Stage, Over, Halted, Begun, outcome_of, providers_in, stage_of, trade_in}
use Rattle.pec_input.specs.Opening.{parts_left}
use Rattle.pec_input.specs.Parts.{Parts}
use Rattle.pec_runs.specs.Openings.{disks_at, AreLeft, AreUntouched, Disks, Form, HasLines, IsOpening, Next, NoMore, opened_all}
use Rattle.pec_runs.specs.Plays.{Ends, Fails, Finish, MayPlay, Outcome, Rest, Stopped, Stops, Strays, outcome_text}
use Rattle.pec_runs.specs.ScriptLines.{Script}
use Rattle.pec_runs.specs.Statuses.{Status, status_of}
use Rattle.pec_runs.specs.Statuses as statuses

-- ---- input

-- Where the input tells its bytes, these are its parts.
abbrev pub IsInput : Option Bytes → Parts → Type 0
IsInput unread parts = IfSome (parts_left unread) (λ told. parts ≡ told)

-- ---- output

-- the status of a run that finishes so, if that settles it
abbrev pub status_at : Finish → Option Status
status_at (Ends end) = Some (status_of end)
status_at Stops = None
status_at Fails = Some statuses.StartFault
status_at Strays = None

-- Only where the sink failed a front of the outcome was written, and the run may have been anywhere; else all of it.
-- A run that was stopped by its input, or for want of memory, has no last line.
abbrev pub TellsAs : Status → Option Bytes → Option Bytes → Bytes → Finish → Type 0
TellsAs statuses.WriteFault before after text finish = WrotePart before after text
TellsAs statuses.ReadFault before after text finish = (finish ≡ Stops) × (after ≡ followed_by before text)
TellsAs statuses.NoMemory before after text finish = (finish ≡ Stops) × (after ≡ followed_by before text)
TellsAs status before after text finish = (status_at finish ≡ Some status) × (after ≡ followed_by before text)

-- The output fails only where something is to be written.
abbrev pub WritesAt : Status → Next → Type 0
WritesAt status next = status ≡ statuses.WriteFault → HasLines next

-- Behind what is known of it, a run that strayed wrote more.
pub record TellsMore (before after : Option Bytes) (text : Bytes) (finish : Finish) : Type 0 where
  pub strays : finish ≡ Strays
  pub more : Bytes
  pub held : after ≡ followed_by before (text ++ more)

-- What a status says of the bytes that were written.
abbrev pub Tells : List Provider → Status → Option Bytes → Option Bytes → Outcome → Type 0
Tells providers status before after outcome =
    TellsAs status before after (outcome_text providers outcome) outcome.finish
    ⊎ TellsMore before after (outcome_text providers outcome) outcome.finish

-- ---- counts of faults

-- The counts of faults of the input, of the output, of the depot, and of each provider's disk.
pub record Counts : Type 0 where
  pub source : ℕ
  pub sink : ℕ
  pub depot : ℕ
  pub disks : ℕ → ℕ

-- no count fell
pub record NoneFell (old new : Counts) : Type 0 where
  pub source : old.source ≤ new.source
  pub sink : old.sink ≤ new.sink
  pub depot : old.depot ≤ new.depot
  pub disks : (provider : ℕ) → old.disks provider ≤ new.disks provider

-- A status that blames a device comes only where its count rose.
abbrev pub Blames : Status → Counts → Counts → Type 0
Blames statuses.ReadFault old new = HasRisen old.source new.source
Blames statuses.WriteFault old new = HasRisen old.sink new.sink
Blames statuses.StartFault old new =
    HasRisen old.depot new.depot ⊎ ((provider : ℕ) × HasRisen (old.disks provider) (new.disks provider))
Blames statuses.DiskFault old new = (provider : ℕ) × HasRisen (old.disks provider) (new.disks provider)
Blames _ old new = Unit {0}

-- ---- disks

-- The journals that a run leaves are those of the state behind its last answer, or those behind the command in hand:
-- where memory ran out this may have been played, in whole or in part, and nothing was written of it.
pub data LeavesOff (trade : Trade) (after : List Site) (next : Option Command) (left : List Site) : Type 0 where
  Behind : left ≡ after → LeavesOff trade after next left
  Within : (command : Command) (luck : Luck) → next ≡ Some command
      → ((provider : ℕ) → journal_at left provider ≡ journal_at (played trade luck after command).after provider)
      → ((provider : ℕ) → interrupted_at left provider
      ≡ interrupted_at (played trade luck after command).after provider)
      → LeavesOff trade after next left

-- only a run that memory stopped, and that had its journals, may have a command in hand
abbrev pub command_in_hand : Status → Next → Rest → List Luck → Script → Option Command
command_in_hand statuses.NoMemory NoMore Stopped lucks script = slice_get script.commands (length lucks)
command_in_hand _ _ _ lucks script = None

-- ---- the run

-- the world in which it plays
abbrev pub world : Happened → Trade
world happened = trade_in happened.setting

-- its state as its script begins
abbrev pub beginning : Happened → List Site
beginning happened = opened_all (world happened) happened.screens happened.opening.journals

module _ (tells : Type 0) (old_disks new_disks : Disks) (old new : Counts) (happened : Happened) where
  -- With all journals at hand the script is played.
  abbrev pub PlaysOn : Script → Next → Type 0
  PlaysOn script NoMore =
      MayPlay (world happened) tells happened.spares (beginning happened) old.disks new.disks script happened.lucks
      happened.rest
  PlaysOn script _ = Unit {0}

  -- A run that begins: it has its journals, plays its script where it has all, and leaves the disks so.
  pub record HasBegun (status : Status) (asked : Asked) (form : Form) (script : Script) : Type 0 where
    pub opening : IsOpening (world happened) old_disks form happened.opening
    pub writes : WritesAt status happened.opening.next
    pub plays : PlaysOn script happened.opening.next
    pub left : List Site
    pub leaves_off : LeavesOff (world happened) (outcome_of asked happened).after
        (command_in_hand status happened.opening.next happened.rest happened.lucks script) left
    pub disks : AreLeft old_disks new_disks form happened.opening left

  -- What is true of a run at its stage.
  abbrev pub IsAt : Status → Asked → Stage → Type 0
  IsAt status asked (Over end) = AreUntouched old_disks new_disks
  IsAt status asked Halted = AreUntouched old_disks new_disks
  IsAt status asked (Begun form script) = HasBegun status asked form script

-- The program ran on these words, with this status: from what the input held, what the output held, the disks at home
-- and the counts of faults as it began, to the output, the disks and the counts as it ended. `tells` says that disks
-- tell what they hold; input and output tell it where they are Some.
pub record Ran (asked : Asked) (status : Status) (unread before after : Option Bytes) (tells : Type 0)
    (old_disks new_disks : Disks) (old new : Counts) : Type 0 where
  pub happened : Happened
  pub given : IsGiven asked happened
  pub input : IsInput unread happened.parts
  -- of a run that begins
  pub setting : (form : Form) (script : Script) → stage_of asked happened.hands happened.early happened.parts ≡ Begun form script
      → (providers : List Provider) → directory_in happened.parts.directory ≡ Ok providers
      → IsSetting providers happened.setting
  pub told : Tells (providers_in happened.setting) status before after (outcome_of asked happened)
  pub blame : Blames status old new
  pub counts : NoneFell old new
  pub is_at : IsAt tells old_disks new_disks old new happened status asked
      (stage_of asked happened.hands happened.early happened.parts)

-- The same over a depot that had these disks at home, by provider, and has those.
abbrev pub RanOver : {D : Type 0} → Type 0 → (D → Sight) → Asked → Status → (unread before after : Option Bytes)
    → (home left : ℕ → Option D) → (old new : Counts) → Type 0
RanOver tells sight asked status unread before after home left old new =
    Ran asked status unread before after tells (disks_at tells sight home) (disks_at tells sight left) old new
