-- What the books that a run prints belong to, word by word: `Headline`. At each command of a script the ledger is one
-- that the case tables reach from that of the beginning, and from the one before it, and users have what certified mail
-- promises them; each book that is answered is the ledger's; no pair is decided or learned twice; a clock call that succeeds leaves no pair of
-- 24 hours without its notice; and a receipt whose acknowledgement is on its way isn't missing. RFC 6109, sections
-- 3.1 to 3.4, and DPR 68/2005, article 8.
use Rattle.std.specs.Prelude.{◌≡◌, ℕ, ◌+◌, ◌<◌, ◌≤◌, List, [], ◌∷◌, length, take, slice_get, Contains, IsTrue, Some, None}
use Rattle.pec_types.specs.Bytes.{Bytes}
use Rattle.pec_types.specs.declared.limits.TheConstants.{LATE_AFTER}
use Rattle.pec_types.specs.declared.mailboxes.Mark.{Mark as ToldMark}
use Rattle.pec_types.specs.declared.messages.BookLine.{BookLine}
use Rattle.pec_types.specs.declared.messages.Decision.TheVariants.{Placed}
use Rattle.pec_types.specs.declared.moments.TheConstants.{END_OF_TIME}
use Rattle.pec_types.specs.declared.receipts.Kind.TheVariants as kinds
use Rattle.pec_records.specs.Entry.{most_addresses}
use Rattle.pec_ledger.specs.Along.{AllDiffer}
use Rattle.pec_ledger.specs.Books.{book}
use Rattle.pec_ledger.specs.Guarantees.{HasReceipt, is_envelope_of, is_notice_on, times_held}
use Rattle.pec_ledger.specs.Half.{Known}
use Rattle.pec_ledger.specs.Ledger.{Journals, ledger}
use Rattle.pec_ledger.specs.Lookups.{Accepted, HasPair, accepted_at, known_of}
use Rattle.pec_ledger.specs.Network.{IsGenuine, Site, Sound, frames_between, journals_of}
use Rattle.pec_ledger.specs.Pairs.{Pair, pair_of}
use Rattle.pec_ledger.specs.Trade.{Framed, Receipt, SeenReceipt, Trade}
use Rattle.pec_plays.specs.Commands.{Archive, Book, Command, Inject, Lines, Luck, Marks, Round, Submit, Tick, Upgrade, played}
use Rattle.pec_plays.specs.Scripts.{Kept, PutsNoneForged, script}
use Rattle.pec_plays.specs.Told.{decided_told, learned_told}
use Rattle.pec_runs.specs.Reaching.{IsReached}

-- ---- premises

-- A command can stand in a script: its moment is one that a clock tells, and its path has 1 to 1,000 addresses.
abbrev pub CanBeSaid : Command → Type 0
CanBeSaid (Submit provider moment sender path message) =
    (0 < length path) × (length path ≤ most_addresses) × (moment < END_OF_TIME)
CanBeSaid (Tick provider moment) = moment < END_OF_TIME
CanBeSaid (Round moment) = moment < END_OF_TIME
CanBeSaid (Archive address moment place) = moment < END_OF_TIME
CanBeSaid (Upgrade provider moment) = moment < END_OF_TIME
CanBeSaid _ = Unit {0}

-- No forged frame is injected: where a message stands in the frame and opens, that is the text of a licensed letter
-- or of an item of the ledger as the command begins.
abbrev pub IsHonest : Trade → List Site → Command → Type 0
IsHonest trade sites (Inject from to frame) = IsGenuine trade (journals_of sites) frame
IsHonest trade sites _ = Unit {0}

-- None is put in place of a due one, for what a disk gave back in place of what it took.
abbrev pub PutsHonestly : Trade → Luck → List Site → Command → Type 0
PutsHonestly trade luck sites (Round moment) = PutsNoneForged trade luck sites moment
PutsHonestly trade luck sites _ = Unit {0}

-- So it is along a script: no forged frame is injected, or put in place of a due one.
abbrev pub AllHonest : Trade → List Luck → List Site → List Command → Type 0
AllHonest trade [] sites commands = Unit {0}
AllHonest trade (luck ∷ lucks) sites [] = Unit {0}
AllHonest trade (luck ∷ lucks) sites (command ∷ commands) =
    IsHonest trade sites command × PutsHonestly trade luck sites command
    × AllHonest trade lucks (played trade luck sites command).after commands

-- No forged frame is injected along a script.
abbrev pub NoneInjected : Trade → List Luck → List Site → List Command → Type 0
NoneInjected trade [] sites commands = Unit {0}
NoneInjected trade (luck ∷ lucks) sites [] = Unit {0}
NoneInjected trade (luck ∷ lucks) sites (command ∷ commands) =
    IsHonest trade sites command × NoneInjected trade lucks (played trade luck sites command).after commands

-- ---- at a command

-- the state before the command of a number, from 0
abbrev pub state_before : Trade → List Luck → List Site → List Command → ℕ → List Site
state_before trade lucks sites commands number = (script trade (take number lucks) sites commands).after

-- The book that is answered is that of the ledger, at the provider of the account.
pub record IsBook (trade : Trade) (sites : List Site) (address : Bytes) (lines : List BookLine) : Type 0 where
  pub provider : ℕ
  pub home : trade.home address ≡ Some provider
  pub account : IsTrue (trade.is_account provider address)
  pub are : lines ≡ book trade provider (ledger trade (journals_of sites) provider) address

-- Each pair that the provider accepted 24 hours before the moment or earlier, and of which it knows nothing, has a
-- notice in the sender's mailbox or archive.
abbrev pub NoneWithoutNotice : Trade → Journals → ℕ → ℕ → Type 0
NoneWithoutNotice trade journals provider moment =
    (pair : Pair) (message : Accepted) → pair.id.provider ≡ provider
    → accepted_at (ledger trade journals provider) pair.id.number ≡ Some message → HasPair trade message pair.recipient
    → message.moment + LATE_AFTER ≤ moment → known_of (ledger trade journals provider) pair ≡ None
    → 1 ≤ times_held (is_notice_on pair) (ledger trade journals provider) message.sender

-- The frame holds the acknowledgement of a pair.
pub record Acknowledges (trade : Trade) (frame : Bytes) (pair : Pair) : Type 0 where
  pub framed : Framed
  pub stands : trade.unframed frame ≡ Some framed
  pub receipt : Receipt
  pub seen : trade.view framed.message ≡ Some (SeenReceipt receipt)
  pub kind : receipt.kind ≡ kinds.Ack
  pub recipient : Bytes
  pub names : receipt.recipient ≡ Some recipient
  pub is : pair ≡ pair_of receipt.id recipient

-- What holds of a state, behind the one in which the run began.
pub record Stands (trade : Trade) (start now : List Site) : Type 0 where
  -- the journals fit, also with what was interrupted, and waiting frames are genuine
  pub sound : Sound trade now
  -- the ledger is reached from that of the beginning
  pub reached : IsReached trade (journals_of start) (journals_of now)
  -- one outcome, one delivery, no receipt missing, a notice by the day
  pub kept : Kept trade now
  -- a message that its sender knows delivered lies in the recipient's mailbox or archive, once
  pub delivered : (pair : Pair) (row : Known) (home : ℕ)
      → known_of (ledger trade (journals_of now) pair.id.provider) pair ≡ Some row → row.decision ≡ Placed
      → trade.home pair.recipient ≡ Some home
      → times_held (is_envelope_of pair.id) (ledger trade (journals_of now) home) pair.recipient ≡ 1
  -- a receipt whose acknowledgement waits on a link isn't missing
  pub acknowledged : (from to : ℕ) (frame : Bytes) (pair : Pair) → Contains (frames_between now from to) frame
      → Acknowledges trade frame pair → HasReceipt trade (journals_of now) pair

-- ---- a script

-- What a script's answers belong to: at each command the state stands, and is reached from the one before it; books are
-- the ledger's; a clock call leaves no
-- pair of 24 hours without its notice; and no pair is told decided twice, or learned twice.
pub record Headline (trade : Trade) (start : List Site) (lucks : List Luck) (commands : List Command) : Type 0 where
  -- before each command, and behind the last that was played
  pub each : (number : ℕ) → Stands trade start (state_before trade lucks start commands number)
  -- in the run's order: the ledger behind a command is reached from the one before it
  pub onward : (number : ℕ)
      → IsReached trade (journals_of (state_before trade lucks start commands number))
      (journals_of (state_before trade lucks start commands (number + 1)))
  pub books : (number : ℕ) (address : Bytes) (lines : List BookLine) → slice_get commands number ≡ Some (Book address)
      → slice_get (script trade lucks start commands).answers number ≡ Some (Lines lines)
      → IsBook trade (state_before trade lucks start commands number) address lines
  pub notices : (number provider moment : ℕ) (marks : List ToldMark)
      → slice_get commands number ≡ Some (Tick provider moment)
      → slice_get (script trade lucks start commands).answers number ≡ Some (Marks marks)
      → NoneWithoutNotice trade (journals_of (state_before trade lucks start commands (number + 1))) provider moment
  pub decided : AllDiffer (decided_told (script trade lucks start commands).answers)
  pub learned : AllDiffer (learned_told (script trade lucks start commands).answers)
