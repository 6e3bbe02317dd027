-- How a script is played from a state: with a luck for each command, until the script ends, something stops the run,
-- or it strays. The headlines are `Outcome`, `outcome_from`, and `MayPlay`, which says what devices have to do with
-- it. This project's profile.
use Rattle.std.specs.Prelude.{◌≡◌, ◌≢◌, ℕ, ◌+◌, ◌-◌, ◌^◌, ◌<◌, ◌≤◌, ◌==◌, Bool, false, true, ◌&&◌, List, [], ◌∷◌, ◌++◌, length, slice_get, take, All, Option, Some, None, if◌then◌else◌}
use Rattle.std.specs.List.{AllByRecursion}
use Rattle.pec_types.specs.Bytes.{Bytes}
use Rattle.pec_types.specs.declared.turns.ProviderFault.{ProviderFault}
use Rattle.pec_types.specs.declared.turns.ProviderFault.TheVariants as faults
use Rattle.pec_types.specs.declared.turns.Turn.{Turn}
use Rattle.pec_directory.specs.Directory.{Provider}
use Rattle.pec_ledger.specs.Along.{times}
use Rattle.pec_ledger.specs.Network.{Site, Sound, is_up}
use Rattle.pec_ledger.specs.Trade.{Trade}
use Rattle.pec_ledger.specs.TradeLaws.{IsTrade}
use Rattle.pec_plays.specs.Commands.{Answer, Archive, Command, Luck, Refuses, Restart, Round, Screen, Screened, Show, Submit, Tick, Turns, Upgrade, VaultShow, account_home, played}
use Rattle.pec_plays.specs.Possible.{GaveWhatWasKept, MayMeet}
use Rattle.pec_plays.specs.Scripts.{HandsIn, script}
use Rattle.pec_screen.specs.Verdicts.{Patterns}
use Rattle.pec_runs.specs.AnswerLines.{answers_text}
use Rattle.pec_runs.specs.Endings.{End, end_text}
use Rattle.pec_runs.specs.ScriptLines.{Script}

-- ---- outcomes

-- Behind the commands that were played: the script's end; or the run was stopped, by a device or for want of memory;
-- or it strayed, for a disk that doesn't tell what it holds gave a journal back, of which nothing is known.
pub data Rest : Type 0 where
  ToTheEnd : Rest
  Stopped : Rest
  Strayed : Rest

-- How a run finishes.
pub data Finish : Type 0 where
  Ends : (end : End) → Finish
  Stops : Finish  -- stopped on its way
  Fails : Finish  -- stopped while journals were made or opened, by a device
  Strays : Finish

-- What a run answers, the state behind it, and how it finishes.
pub record Outcome : Type 0 where
  pub answers : List Answer
  pub after : List Site
  pub finish : Finish

-- a script is at its end where each of its commands had its luck
abbrev pub at_end : List Luck → List Command → End → Finish
at_end [] [] end = Ends end
at_end [] (command ∷ commands) end = Stops
at_end (luck ∷ lucks) [] end = Stops
at_end (luck ∷ lucks) (command ∷ commands) end = at_end lucks commands end

-- how a script finishes with these lucks: it comes to its end, is stopped, or strays
abbrev pub finish_of : Rest → List Luck → Script → Finish
finish_of ToTheEnd lucks script = at_end lucks script.commands script.end
finish_of Stopped lucks script = Stops
finish_of Strayed lucks script = Strays

-- What a script comes to from a state, with these lucks for its first commands.
abbrev pub outcome_from : Trade → List Luck → Rest → List Site → Script → Outcome
outcome_from trade lucks rest sites written = record {
  answers = (script trade lucks sites written.commands).answers;
  after = (script trade lucks sites written.commands).after;
  finish = finish_of rest lucks written;
}

-- ---- bytes

-- the last line of a run that finishes so; one that was stopped or strayed has none
abbrev pub finish_text : List Provider → Finish → Bytes
finish_text providers (Ends end) = end_text providers end
finish_text providers Stops = []
finish_text providers Fails = []
finish_text providers Strays = []

-- The bytes of an outcome: the lines of its answers, and the last line of its end.
abbrev pub outcome_text : List Provider → Outcome → Bytes
outcome_text providers outcome = answers_text providers outcome.answers ++ finish_text providers outcome.finish

-- ---- faults of disks

-- a turn ended early, since the provider's disk failed
abbrev pub is_disk_fault : Option ProviderFault → Bool
is_disk_fault (Some faults.DiskFault) = true
is_disk_fault _ = false

-- how many of these turns tell a fault of the provider's disk
abbrev pub faults_in : ℕ → List Turn → ℕ
faults_in provider turns = times (λ (turn : Turn). (turn.provider == provider) && is_disk_fault turn.ended) turns

-- whether a refusal of a call at one provider tells a fault of another's disk, or of its own
abbrev pub faults_at : ℕ → ℕ → Answer → ℕ
faults_at provider asked (Refuses faults.DiskFault) = if asked == provider then 1 else 0
faults_at provider asked _ = 0

-- of a call at the provider of an account, if the address is one
abbrev pub faults_at_home : ℕ → Option ℕ → Answer → ℕ
faults_at_home provider None answer = 0
faults_at_home provider (Some asked) answer = faults_at provider asked answer

module _ (trade : Trade) where
  -- How many faults of a provider's disk an answer tells.
  abbrev pub faults_by : ℕ → Command → Answer → ℕ
  faults_by provider (Submit asked moment sender path message) answer = faults_at provider asked answer
  faults_by provider (Tick asked moment) answer = faults_at provider asked answer
  faults_by provider (Upgrade asked moment) answer = faults_at provider asked answer
  faults_by provider (Archive address moment place) answer =
      faults_at_home provider (account_home trade address (trade.home address)) answer
  faults_by provider (Restart asked) answer = faults_at provider asked answer
  faults_by provider (Show address place) answer =
      faults_at_home provider (account_home trade address (trade.home address)) answer
  faults_by provider (VaultShow address place) answer =
      faults_at_home provider (account_home trade address (trade.home address)) answer
  faults_by provider (Round moment) (Turns turns) = faults_in provider turns
  faults_by provider _ _ = 0

  -- How many faults of a provider's disk are told in all.
  abbrev pub faults_told : ℕ → List Command → List Answer → ℕ
  faults_told provider [] answers = 0
  faults_told provider (command ∷ commands) [] = 0
  faults_told provider (command ∷ commands) (answer ∷ answers) =
      faults_by provider command answer + faults_told provider commands answers

-- A count of faults, which never falls, rose by so many at least. At its greatest value it stays.
abbrev pub RoseBy : ℕ → ℕ → ℕ → Type 0
RoseBy number before now = (before ≤ now) × (now < 2 ^ 64 - 1 → before + number ≤ now)

-- ---- what disks gave back

-- an item was shown with its own bytes, or none was
abbrev pub ShowsItsOwn : Luck → Type 0
ShowsItsOwn luck = luck.shown ≡ None

-- a turn ended early, or a call was refused, since what was read is another entry than was kept
abbrev pub is_change : Option ProviderFault → Bool
is_change (Some (faults.Changed entry)) = true
is_change _ = false

-- No entry is told as changed.
abbrev pub IsUnchanged : Answer → Type 0
IsUnchanged (Turns turns) = All (λ (turn : Turn). is_change turn.ended ≡ false) turns
IsUnchanged (Refuses fault) = is_change (Some fault) ≡ false
IsUnchanged _ = Unit {0}

-- So it is, where the state before the command is Sound.
abbrev pub UnchangedIn : Trade → List Site → Answer → Type 0
UnchangedIn trade sites answer = IsTrade trade → Sound trade sites → IsUnchanged answer

-- So it is of each command of a script.
abbrev pub UnchangedAlong : Trade → List Luck → List Site → List Command → Type 0
UnchangedAlong trade [] sites commands = Unit {0}
UnchangedAlong trade (luck ∷ lucks) sites [] = Unit {0}
UnchangedAlong trade (luck ∷ lucks) sites (command ∷ commands) =
    UnchangedIn trade sites (played trade luck sites command).answer
    × UnchangedAlong trade lucks (played trade luck sites command).after commands

-- ---- spares

-- the spares that are left behind a command: the last is used where a screen was put into its place
abbrev pub spares_left : List Patterns → Command → Answer → List Patterns
spares_left spares (Screen provider place spare) Screened = take (length spares - 1) spares
spares_left spares _ _ = spares

-- Of each command of a script, a further screen is the last spare that is left.
abbrev pub AllHanded : Trade → List Luck → List Patterns → List Site → List Command → Type 0
AllHanded trade [] spares sites commands = Unit {0}
AllHanded trade (luck ∷ lucks) spares sites [] = Unit {0}
AllHanded trade (luck ∷ lucks) spares sites (command ∷ commands) =
    HandsIn spares command
    × AllHanded trade lucks (spares_left spares command (played trade luck sites command).answer)
    (played trade luck sites command).after commands

-- ---- what may be

-- The commands may meet these lucks.
abbrev pub AllMeet : Trade → List Luck → List Site → List Command → Type 0
AllMeet trade [] sites commands = Unit {0}
AllMeet trade (luck ∷ lucks) sites [] = Unit {0}
AllMeet trade (luck ∷ lucks) sites (command ∷ commands) =
    MayMeet trade luck sites command × AllMeet trade lucks (played trade luck sites command).after commands

-- No turn that an answer tells ended for want of memory, since that stops the run.
abbrev pub HasMemory : Answer → Type 0
HasMemory (Turns turns) = All (λ (turn : Turn). turn.ended ≢ Some faults.NoMemory) turns
HasMemory _ = Unit {0}

-- A run strays only where disks don't tell what they hold, in a restart of a provider that is down.
pub record MayStray (tells : Type 0) (sites : List Site) (next : Option Command) : Type 0 where
  pub untold : tells → ⊥
  pub provider : ℕ
  pub restarts : next ≡ Some (Restart provider)
  pub down : is_up sites provider ≡ false

-- A run that strayed could stray at the command that came next; of any other nothing is asked.
abbrev pub StraysSo : Type 0 → List Site → Option Command → Rest → Type 0
StraysSo tells sites next Strayed = MayStray tells sites next
StraysSo tells sites next _ = Unit {0}

-- Counts of faults of disks, by provider, rose from some to others along a script: there are counts behind each command,
-- up to which a disk's rose from those before it by as many faults at least as that command's answer tells of the disk.
abbrev pub RoseAlong : Trade → List Luck → List Site → List Command → (from upto : ℕ → ℕ) → Type 0
RoseAlong trade [] sites commands from upto = (provider : ℕ) → from provider ≤ upto provider
RoseAlong trade (luck ∷ lucks) sites [] from upto = (provider : ℕ) → from provider ≤ upto provider
RoseAlong trade (luck ∷ lucks) sites (command ∷ commands) from upto =
    (behind : ℕ → ℕ)
    × ((provider : ℕ)
    → RoseBy (faults_by trade provider command (played trade luck sites command).answer) (from provider)
    (behind provider))
    × RoseAlong trade lucks (played trade luck sites command).after commands behind upto

-- A script may be played so from a state, with these spares, while the counts of faults of disks rise from some to
-- others: each command may meet its luck, and takes the last spare that is left where it asks for one, no memory was
-- missing in what is told, and each fault that is told of a disk raised that disk's count in the command that tells it.
-- Where disks tell what they hold, what was read is what was kept: no frame was put and no item shown in place of
-- another, and from a Sound state no entry is told as changed.
pub record MayPlay (trade : Trade) (tells : Type 0) (spares : List Patterns) (sites : List Site) (from upto : ℕ → ℕ)
    (written : Script) (lucks : List Luck) (rest : Rest) : Type 0 where
  pub enough : length lucks ≤ length written.commands
  pub handed : AllHanded trade lucks spares sites written.commands
  pub meet : AllMeet trade lucks sites written.commands
  pub memory : All HasMemory (script trade lucks sites written.commands).answers
  pub counts : RoseAlong trade lucks sites written.commands from upto
  pub kept : tells → AllByRecursion GaveWhatWasKept lucks
  pub shown : tells → AllByRecursion ShowsItsOwn lucks
  pub unchanged : tells → UnchangedAlong trade lucks sites written.commands
  pub strays : StraysSo tells (script trade lucks sites written.commands).after
      (slice_get written.commands (length lucks)) rest
