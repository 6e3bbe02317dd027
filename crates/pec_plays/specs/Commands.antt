-- The commands of a script, what they answer, and what they do: `played`. Where a device may fail, a luck says whether
-- it did; for a given answer there is at most one state. Each answer is a value; lines are made of it elsewhere. This
-- project's profile.
use Rattle.std.specs.Prelude.{ℕ, ◌+◌, ◌==◌, nat_lt, Bool, true, false, List, [], ◌∷◌, ◌++◌, length, map, take, drop, slice_get, slice_set, if◌then◌else◌, Option, Some, None}
use Rattle.std.specs.Option.{unwrap_or}
use Rattle.pec_types.specs.Bytes.{Bytes, Path}
use Rattle.pec_types.specs.Message.{Id}
use Rattle.pec_types.specs.declared.mailboxes.ItemLine.{ItemLine}
use Rattle.pec_types.specs.declared.mailboxes.Mark.{Mark as ToldMark}
use Rattle.pec_types.specs.declared.messages.BookLine.{BookLine}
use Rattle.pec_types.specs.declared.messages.Cause.{Cause}
use Rattle.pec_types.specs.declared.messages.Cause.TheVariants as causes
use Rattle.pec_types.specs.declared.messages.TheConstants.{MESSAGES}
use Rattle.pec_types.specs.declared.turns.ProviderFault.{ProviderFault}
use Rattle.pec_types.specs.declared.turns.ProviderFault.TheVariants as faults
use Rattle.pec_types.specs.declared.turns.Submitted.{Submitted}
use Rattle.pec_types.specs.declared.turns.Submitted.TheVariants as submissions
use Rattle.pec_types.specs.declared.turns.Turn.{Turn}
use Rattle.pec_records.specs.declared.entries.Entry.{Entry}
use Rattle.pec_records.specs.declared.entries.Entry.TheVariants as entries
use Rattle.pec_screen.specs.VerdictReading.{finds}
use Rattle.pec_screen.specs.Verdicts.{Patterns}
use Rattle.pec_ledger.specs.Books.{archive_lines, book, mailbox_lines}
use Rattle.pec_ledger.specs.Half.{Half, Mark, Posted}
use Rattle.pec_ledger.specs.Items.{item_text}
use Rattle.pec_ledger.specs.Lookups.{archive, mailbox}
use Rattle.pec_ledger.specs.Network.{Site, chosen, frames_between, journal_at, site_at}
use Rattle.pec_ledger.specs.Pairs.{id_of}
use Rattle.pec_ledger.specs.Steps.{half, marks_by}
use Rattle.pec_ledger.specs.Trade.{Trade}
use Rattle.pec_plays.specs.Rounds.{link_size, rounded, with_waiting}
use Rattle.pec_plays.specs.Steps.{has_no_room}
use Rattle.pec_plays.specs.Turns.{Cut, broken, last_of}

-- What a script asks of the network. Providers, and places on a link, in a mailbox or in an archive, are numbered from
-- 0, and moments are in seconds. Another screen of a provider has the patterns of the last spare, if one is left.
pub data Command : Type 0 where
  Submit : (provider moment : ℕ) (sender : Bytes) (path : Path) (message : Bytes) → Command
  Tick : (provider moment : ℕ) → Command
  Round : (moment : ℕ) → Command
  Lose : (from to place : ℕ) → Command
  Repeat : (from to place : ℕ) → Command
  Swap : (from to place : ℕ) → Command
  Inject : (from to : ℕ) (frame : Bytes) → Command
  Crash : (provider : ℕ) → Command
  Restart : (provider : ℕ) → Command
  Book : (address : Bytes) → Command
  Mailbox : (address : Bytes) → Command
  Show : (address : Bytes) (place : ℕ) → Command
  Archive : (address : Bytes) (moment place : ℕ) → Command
  Upgrade : (provider moment : ℕ) → Command
  Vault : (address : Bytes) → Command
  VaultShow : (address : Bytes) (place : ℕ) → Command
  Screen : (provider place : ℕ) (spare : Option Patterns) → Command

-- What a command answers: what it did or shows, or why it did nothing. A restart tells how many entries are there.
pub data Answer : Type 0 where
  Submits : (submitted : Submitted) → Answer
  Marks : (marks : List ToldMark) → Answer
  Turns : (turns : List Turn) → Answer
  Lost : Answer
  Repeated : Answer
  Swapped : Answer
  Injected : Answer
  Crashed : Answer
  Restarted : (entries : ℕ) → Answer
  Lines : (lines : List BookLine) → Answer
  Items : (items : List ItemLine) → Answer
  Vaults : (items : List ItemLine) → Answer
  Archived : Answer
  Upgraded : Answer
  Screened : Answer
  Shown : (bytes : Bytes) → Answer
  Refuses : (fault : ProviderFault) → Answer
  NoFrame : Answer
  NoSpare : Answer
  NoScreen : Answer
  LinkFull : Answer
  IsUp : Answer

-- What devices do in a command: how each provider's turn is cut, whether the append or the restart fails, whether a
-- restart finds the interrupted entry, how the read of an item that is to be shown failed, if it did, and which bytes
-- are shown in place of the item's, if others are: only a disk that gives back other bytes than it took can be the
-- cause.
pub record Luck : Type 0 where
  pub cuts : ℕ → Cut
  pub fails : Bool
  pub found : Bool
  pub read : Option ProviderFault
  pub shown : Option Bytes

-- What a command answers, and the state behind it.
pub record Played : Type 0 where
  pub answer : Answer
  pub after : List Site

-- an answer that changes nothing
abbrev pub answers : List Site → Answer → Played
answers sites answer = record { answer = answer; after = sites }

-- a site in the place of the provider's
abbrev pub with_site : List Site → ℕ → Site → List Site
with_site sites provider site = slice_set sites provider site

-- ---- entries

-- a provider with one more entry at the end of its journal
abbrev pub with_entry : Site → Entry → Site
with_entry site entry =
    record (site) { journal = site.journal ++ entry ∷ [] }

-- an entry is appended, or its append fails and the provider is down
abbrev pub appended : Bool → List Site → ℕ → Entry → Answer → Played
appended true sites provider entry answer =
    record { answer = Refuses faults.DiskFault; after = with_site sites provider (broken (site_at sites provider) (Some entry)) }
appended false sites provider entry answer =
    record { answer = answer; after = with_site sites provider (with_entry (site_at sites provider) entry) }

-- an entry is appended, unless the journal has no room for it
abbrev pub append : Trade → Luck → List Site → ℕ → Entry → Answer → Played
append trade luck sites provider entry answer =
    if has_no_room trade provider (journal_at sites provider) entry then answers sites (Refuses faults.JournalFull)
    else appended luck.fails sites provider entry answer

-- what may be refused before a command looks at its own: the provider is down, or the clock is behind its journal
abbrev pub at_work : Trade → List Site → ℕ → ℕ → Played → Played
at_work trade sites provider now done =
    if (site_at sites provider).up
    then (if nat_lt now (last_of trade provider (journal_at sites provider))
    then answers sites (Refuses (faults.ClockBack (last_of trade provider (journal_at sites provider))))
    else done)
    else answers sites (Refuses faults.Down)

-- ---- submissions

-- whether some screen of a provider finds a rule in a message
abbrev pub finds_at : List Site → ℕ → Bytes → Bool
finds_at sites provider message = finds (site_at sites provider).screens message

-- what speaks against a message: a cause of the table, and where there is none, that a screen finds a rule
abbrev pub screened_cause : Bool → Option Cause → Option Cause
screened_cause found (Some cause) = Some cause
screened_cause true None = Some causes.Virus
screened_cause false None = None

-- the entry of a submission, by what speaks against it
abbrev pub entry_by : Option Cause → ℕ → Bytes → Path → Bytes → Entry
entry_by None moment sender path message = entries.Accepted moment sender message
entry_by (Some cause) moment sender path message = entries.NotAccepted moment sender cause path message

-- what is told of a message: that it was accepted, or that it wasn't, and why
abbrev pub told_by : Option Cause → Id → Submitted
told_by None id = submissions.Accepted id
told_by (Some cause) id = submissions.NotAccepted id cause

-- how many messages were submitted to a provider, refused ones too; the next one gets this number
abbrev pub messages_at : Trade → List Site → ℕ → ℕ
messages_at trade sites provider = length (half trade provider (journal_at sites provider)).messages

-- What a submission does (RFC 6109, section 3.1): an entry says that the message is accepted or not, unless the
-- submission is refused.
abbrev pub submitted : Trade → Luck → List Site → ℕ → ℕ → Bytes → Path → Bytes → Bool → Played
submitted trade luck sites provider moment sender path message found =
    if trade.is_account provider sender
    then at_work trade sites provider moment
    (if nat_lt (messages_at trade sites provider) MESSAGES
    then append trade luck sites provider
    (entry_by (screened_cause found (trade.cause provider sender path message)) moment sender path message)
    (Submits (told_by (screened_cause found (trade.cause provider sender path message)) (id_of provider (messages_at trade sites provider))))
    else answers sites (Refuses faults.Full))
    else answers sites (Refuses faults.NoAccount)

-- ---- clock calls

-- a warning or notice, as it is told
abbrev pub told_mark : Mark → ToldMark
told_mark mark = record { id = mark.pair.id; recipient = mark.pair.recipient; due = mark.due }

-- What a clock call does at a moment (RFC 6109, section 3.1.6, and DPR 68/2005, article 8): it sets and tells the
-- warnings and notices that are due, unless it is refused.
abbrev pub ticked : Trade → Luck → List Site → ℕ → ℕ → Played
ticked trade luck sites provider moment =
    at_work trade sites provider moment
    (append trade luck sites provider (entries.Ticked moment)
    (Marks (map told_mark (marks_by trade provider (half trade provider (journal_at sites provider)) (entries.Ticked moment)))))

-- ---- links

-- the frames of one link, put in the place of those that wait
abbrev pub with_frames : List Site → ℕ → ℕ → List Bytes → List Site
with_frames sites from to frames =
    with_site sites to (with_waiting (site_at sites to) (slice_set (site_at sites to).waiting from frames))

-- the frame at a place of a link is gone, if one is there
abbrev pub lost : List Site → ℕ → ℕ → ℕ → Played
lost sites from to place =
    if nat_lt place (length (frames_between sites from to))
    then record {
      answer = Lost;
      after = with_frames sites from to (take place (frames_between sites from to) ++ drop (place + 1) (frames_between sites from to));
    }
    else answers sites NoFrame

-- a copy behind all others
abbrev pub put_again : List Site → ℕ → ℕ → Option Bytes → Played
put_again sites from to None = answers sites NoFrame
put_again sites from to (Some frame) =
    if nat_lt (length (frames_between sites from to)) link_size
    then record { answer = Repeated; after = with_frames sites from to (frames_between sites from to ++ frame ∷ []) }
    else answers sites LinkFull

-- the frames of a link, once that at a place, from 0, and the next one changed places; none where one is missing
abbrev pub swapped_at : ℕ → List Bytes → Option (List Bytes)
swapped_at place frames =
    if nat_lt (place + 1) (length frames)
    then Some (take place frames ++ take 1 (drop (place + 1) frames) ++ take 1 (drop place frames) ++ drop (place + 2) frames)
    else None

-- two frames of a link changed places, if both are there
abbrev pub swapped : List Site → ℕ → ℕ → Option (List Bytes) → Played
swapped sites from to None = answers sites NoFrame
swapped sites from to (Some frames) = record { answer = Swapped; after = with_frames sites from to frames }

-- a frame from outside comes behind those that wait, if the link has room
abbrev pub injected : List Site → ℕ → ℕ → Bytes → Played
injected sites from to frame =
    if nat_lt (length (frames_between sites from to)) link_size
    then record { answer = Injected; after = with_frames sites from to (frames_between sites from to ++ frame ∷ []) }
    else answers sites LinkFull

-- ---- crashes

-- a provider that crashed: it is down, and its journal and the frames that wait for it stay
abbrev pub stopped_site : Site → Site
stopped_site site = record (site) { up = false }

-- a provider that is up again, its interrupted entry found or forgotten
abbrev pub restarted_site : Bool → Site → Site
restarted_site found site =
    record (site) { journal = site.journal ++ chosen found site.interrupted; up = true; interrupted = None }

-- What a restart does: the provider is up again, unless it is up already, or its disk fails.
abbrev pub restarted : Luck → List Site → ℕ → Site → Played
restarted luck sites provider site =
    if site.up then answers sites IsUp
    else (if luck.fails then answers sites (Refuses faults.DiskFault)
    else record {
      answer = Restarted (length (restarted_site luck.found site).journal);
      after = with_site sites provider (restarted_site luck.found site);
    })

-- ---- what accounts are shown

-- the provider of an account, asked by its address alone
abbrev pub account_home : Trade → Bytes → Option ℕ → Option ℕ
account_home trade address None = None
account_home trade address (Some provider) = if trade.is_account provider address then Some provider else None

-- what an account is shown by its provider: nothing where the address is no account, or the provider is down
abbrev pub asked : List Site → (ℕ → Half → Played) → Trade → Option ℕ → Played
asked sites show trade None = answers sites (Refuses faults.NoAccount)
asked sites show trade (Some provider) =
    if (site_at sites provider).up then show provider (half trade provider (journal_at sites provider))
    else answers sites (Refuses faults.Down)

-- what is shown of an item's bytes: where the read of its entry fails, nothing is, and the provider is down from then
-- on
abbrev pub read_back : Option ProviderFault → Bytes → List Site → ℕ → Played
read_back None bytes sites provider = answers sites (Shown bytes)
read_back (Some fault) bytes sites provider =
    record { answer = Refuses fault; after = with_site sites provider (stopped_site (site_at sites provider)) }

-- the bytes of an item, if there are some
abbrev pub shown_bytes : Luck → List Site → ℕ → Option Bytes → Played
shown_bytes luck sites provider None = answers sites (Refuses faults.NoItem)
shown_bytes luck sites provider (Some bytes) = read_back luck.read (unwrap_or luck.shown bytes) sites provider

-- the item that was asked for, if it is there
abbrev pub shown : Trade → Luck → List Site → ℕ → Option Posted → Played
shown trade luck sites provider None = answers sites (Refuses faults.NoItem)
shown trade luck sites provider (Some posted) =
    shown_bytes luck sites provider (item_text trade provider (journal_at sites provider) posted)

-- ---- archives

-- the number of items in an account's mailbox at a provider
abbrev pub items_at : Trade → List Site → ℕ → Bytes → ℕ
items_at trade sites provider account = length (mailbox (half trade provider (journal_at sites provider)) account)

-- the version of a provider's journal
abbrev pub version_at : Trade → List Site → ℕ → ℕ
version_at trade sites provider = (half trade provider (journal_at sites provider)).version

-- an item is archived at this provider
abbrev pub archived_at : Trade → Luck → List Site → ℕ → ℕ → Bytes → ℕ → Played
archived_at trade luck sites provider moment account place =
    at_work trade sites provider moment
    (if nat_lt place (items_at trade sites provider account)
    then (if version_at trade sites provider == 2
    then append trade luck sites provider (entries.Archived moment account place) Archived
    else answers sites (Refuses faults.OldJournal))
    else answers sites (Refuses faults.NoItem))

-- What archiving an item does at a moment: the item at a place of an account's mailbox goes to its archive, unless that
-- is refused. The provider is the account's.
abbrev pub archived : Trade → Luck → List Site → Option ℕ → ℕ → Bytes → ℕ → Played
archived trade luck sites None moment account place = answers sites (Refuses faults.NoAccount)
archived trade luck sites (Some provider) moment account place = archived_at trade luck sites provider moment account place

-- What raising a journal does at a moment: it is of version 2 from then on, unless that is refused.
abbrev pub upgraded : Trade → Luck → List Site → ℕ → ℕ → Played
upgraded trade luck sites provider moment =
    at_work trade sites provider moment
    (if version_at trade sites provider == 1 then append trade luck sites provider (entries.Upgraded moment) Upgraded
    else answers sites (Refuses faults.NoNeed))

-- ---- screens

-- a provider whose screens have these patterns
abbrev pub with_screens : Site → List Patterns → Site
with_screens site screens = record (site) { screens = screens }

-- What another screen does: the last spare takes the place of one of the provider's, unless there is none, the provider
-- is down, or it has no screen there.
abbrev pub screened : List Site → ℕ → ℕ → Option Patterns → Played
screened sites provider place None = answers sites NoSpare
screened sites provider place (Some patterns) =
    if (site_at sites provider).up
    then (if nat_lt place (length (site_at sites provider).screens)
    then record {
      answer = Screened;
      after = with_site sites provider
          (with_screens (site_at sites provider) (slice_set (site_at sites provider).screens place patterns));
    }
    else answers sites NoScreen)
    else answers sites (Refuses faults.Down)

-- ---- all commands

-- What a command does.
unfoldable pub played : Trade → Luck → List Site → Command → Played
played trade luck sites (Submit provider moment sender path message) =
    submitted trade luck sites provider moment sender path message (finds_at sites provider message)
played trade luck sites (Tick provider moment) = ticked trade luck sites provider moment
played trade luck sites (Round moment) =
    record { answer = Turns (rounded trade moment luck.cuts sites).turns; after = (rounded trade moment luck.cuts sites).sites }
played trade luck sites (Lose from to place) = lost sites from to place
played trade luck sites (Repeat from to place) = put_again sites from to (slice_get (frames_between sites from to) place)
played trade luck sites (Swap from to place) = swapped sites from to (swapped_at place (frames_between sites from to))
played trade luck sites (Inject from to frame) = injected sites from to frame
played trade luck sites (Crash provider) =
    record { answer = Crashed; after = with_site sites provider (stopped_site (site_at sites provider)) }
played trade luck sites (Restart provider) = restarted luck sites provider (site_at sites provider)
played trade luck sites (Book address) =
    asked sites (λ provider half. answers sites (Lines (book trade provider half address))) trade (account_home trade address (trade.home address))
played trade luck sites (Mailbox address) =
    asked sites (λ provider half. answers sites (Items (mailbox_lines half address))) trade (account_home trade address (trade.home address))
played trade luck sites (Show address place) =
    asked sites (λ provider half. shown trade luck sites provider (slice_get (mailbox half address) place)) trade
    (account_home trade address (trade.home address))
played trade luck sites (Archive address moment place) =
    archived trade luck sites (account_home trade address (trade.home address)) moment address place
played trade luck sites (Upgrade provider moment) = upgraded trade luck sites provider moment
played trade luck sites (Vault address) =
    asked sites (λ provider half. answers sites (Vaults (archive_lines half address))) trade (account_home trade address (trade.home address))
played trade luck sites (VaultShow address place) =
    asked sites (λ provider half. shown trade luck sites provider (slice_get (archive half address) place)) trade
    (account_home trade address (trade.home address))
played trade luck sites (Screen provider place spare) = screened sites provider place spare
