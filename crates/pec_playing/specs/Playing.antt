-- One command of a script over a network, and the lines of its answer: `HasPlayed`, and `HasStopped` where memory ran
-- out. Which commands may be played in a directory: `CanPlay`. This project's profile.
use Rattle.std.specs.Prelude.{◌≡◌, ◌⊎◌, ℕ, ◌<◌, ◌≤◌, List, length, slice_get, Option, None, Some}
use Rattle.pec_types.specs.Bytes.{Bytes}
use Rattle.pec_directory.specs.Directory.{Provider}
use Rattle.pec_records.specs.Entry.{longest_message, most_addresses}
use Rattle.pec_ledger.specs.Network.{Site}
use Rattle.pec_ledger.specs.Trade.{Trade}
use Rattle.pec_plays.specs.Commands.{Command, Luck, played}
use Rattle.pec_plays.specs.Possible.{GaveWhatWasKept, MayMeet}
use Rattle.pec_network.specs.OfProviders.{ProviderState}
use Rattle.pec_script.specs.declared.commands.Command.{Command as Written}
use Rattle.pec_script.specs.declared.commands.Command.TheVariants as written
use Rattle.pec_runs.specs.AnswerLines.{answer_text}
use Rattle.pec_runs.specs.Plays.{HasMemory, MayStray, RoseBy, ShowsItsOwn, UnchangedIn, faults_by}
use Rattle.pec_runs.specs.Ran.{LeavesOff}

-- ---- which commands may be played

-- The command speaks of providers of a directory that has so many; a path has one address or more; and path and message
-- are within the limits.
abbrev pub CanPlay : ℕ → Written → Type 0
CanPlay count (written.Submit provider moment sender path message) =
    (provider < count) × (0 < length path) × (length path ≤ most_addresses) × (length message ≤ longest_message)
CanPlay count (written.Tick provider moment) = provider < count
CanPlay count (written.Round moment) = Unit {0}
CanPlay count (written.Lose from to place) = (from < count) × (to < count)
CanPlay count (written.Repeat from to place) = (from < count) × (to < count)
CanPlay count (written.Swap from to place) = (from < count) × (to < count)
CanPlay count (written.Inject from to frame) = (from < count) × (to < count)
CanPlay count (written.Crash provider) = provider < count
CanPlay count (written.Restart provider) = provider < count
CanPlay count (written.Book address) = Unit {0}
CanPlay count (written.Mailbox address) = Unit {0}
CanPlay count (written.Show address place) = Unit {0}
CanPlay count (written.Archive address moment place) = Unit {0}
CanPlay count (written.Upgrade provider moment) = provider < count
CanPlay count (written.Vault address) = Unit {0}
CanPlay count (written.VaultShow address place) = Unit {0}
CanPlay count (written.Screen provider place) = provider < count

-- ---- counts of faults

-- the count of faults of a provider's disk, or this one where there is no such provider
abbrev pub count_or : {D : Type 0} → (D → ℕ) → ℕ → Option (ProviderState D) → ℕ
count_or faults elsewhere None = elsewhere
count_or faults elsewhere (Some provider) = faults provider.chronicle.disk

-- The counts of faults of providers' disks, by number; past the providers, these others.
abbrev pub counts_in : {D : Type 0} → (D → ℕ) → List (ProviderState D) → (ℕ → ℕ) → ℕ → ℕ
counts_in faults providers elsewhere number = count_or faults (elsewhere number) (slice_get providers number)

-- ---- a command

-- A command was played with a luck that it may meet: these are the lines of its answer, and this is the state behind
-- it. No turn that is told ended for want of memory, and each fault that is told of a disk raised that disk's count.
-- `Stood` says when all disks gave back what they took; then no frame was put and no item shown in place of another, and
-- from a Sound state no entry is told as changed.
pub record IsPlayedSo (Stood : Type 0) (trade : Trade) (providers : List Provider) (sites : List Site)
    (from upto : ℕ → ℕ) (command : Command) (text : Bytes) (after : List Site) : Type 0 where
  pub luck : Luck
  pub meet : MayMeet trade luck sites command
  pub memory : HasMemory (played trade luck sites command).answer
  pub counts : (provider : ℕ)
      → RoseBy (faults_by trade provider command (played trade luck sites command).answer) (from provider)
      (upto provider)
  pub kept : Stood → GaveWhatWasKept luck
  pub shown : Stood → ShowsItsOwn luck
  pub unchanged : Stood → UnchangedIn trade sites (played trade luck sites command).answer
  pub lines : text ≡ answer_text providers (played trade luck sites command).answer
  pub state : after ≡ (played trade luck sites command).after

-- It was played so, where disks that tell what they hold gave back what they took; or the run strays, for a disk that
-- doesn't tell gave a journal back.
abbrev pub HasPlayed : Type 0 → Trade → List Provider → List Site → (ℕ → ℕ) → (ℕ → ℕ) → Command → Bytes → List Site
    → Type 0
HasPlayed tells trade providers sites from upto command text after =
    IsPlayedSo tells trade providers sites from upto command text after ⊎ MayStray tells sites (Some command)

-- Memory ran out: the journals are those before the command, or it was played, in whole or in part; or the run strays.
abbrev pub HasStopped : Type 0 → Trade → List Site → Command → List Site → Type 0
HasStopped tells trade sites command after =
    LeavesOff trade sites (Some command) after ⊎ MayStray tells sites (Some command)
