-- No command but a round and a look at an item tells an entry as changed.
use Rattle.std.proofs.Common.{◌+◌, ◌==◌, ℕ, Bool, true, false, List, ◌++◌, ◌∷◌, [], refl, Option, None, Some, length, map}
use Rattle.std.specs.Prelude.{drop, if◌then◌else◌, nat_lt, slice_get, slice_set, take}
use Rattle.pec_types.specs.Bytes.{Bytes, Path}
use Rattle.pec_types.specs.declared.messages.TheConstants.{MESSAGES}
use Rattle.pec_types.specs.declared.turns.ProviderFault.TheVariants as faults
use Rattle.pec_records.specs.declared.entries.Entry.{Entry}
use Rattle.pec_records.specs.declared.entries.Entry.TheVariants as entries
use Rattle.pec_ledger.specs.Books.{archive_lines, book, mailbox_lines}
use Rattle.pec_ledger.specs.Half.{Half}
use Rattle.pec_ledger.specs.Network.{Site, frames_between, journal_at, site_at}
use Rattle.pec_ledger.specs.Pairs.{id_of}
use Rattle.pec_ledger.specs.Steps.{half, marks_by}
use Rattle.pec_ledger.specs.Trade.{Trade}
use Rattle.pec_plays.specs.Commands.{Answer, Book, Crash, Inject, Injected, IsUp, Items, Lines, LinkFull, Lose, Lost, Luck}
use Rattle.pec_plays.specs.Commands.{Mailbox, Marks, NoFrame, Played, Refuses, Repeat, Repeated, Restart, Restarted}
use Rattle.pec_plays.specs.Commands.{Submit, Submits, Swap, Tick, account_home, answers, append, appended, asked, at_work}
use Rattle.pec_plays.specs.Commands.{entry_by, messages_at, played, put_again, restarted_site, screened_cause, swapped}
use Rattle.pec_plays.specs.Commands.{swapped_at, told_by, told_mark, with_frames, with_screens, with_site}
use Rattle.pec_plays.specs.Commands.{Archive, Archived, NoScreen, Screen, Screened, Upgrade, Upgraded, Vault, Vaults}
use Rattle.pec_plays.specs.Commands.{archived, finds_at, items_at, screened, version_at}
use Rattle.pec_plays.specs.Rounds.{link_size}
use Rattle.pec_screen.specs.Verdicts.{Patterns}
use Rattle.pec_plays.specs.Steps.{has_no_room}
use Rattle.pec_plays.specs.Turns.{last_of}
use Rattle.pec_runs.specs.Plays.{IsUnchanged}

-- by a test
either : (test : Bool) (one other : Played) → IsUnchanged one.answer → IsUnchanged other.answer
    → IsUnchanged (if test then one else other).answer
either true one other first second = first
either false one other first second = second

appended_so : (fails : Bool) (state : List Site) (provider : ℕ) (entry : Entry) (answer : Answer) → IsUnchanged answer
    → IsUnchanged (appended fails state provider entry answer).answer
appended_so true state provider entry answer is = refl
appended_so false state provider entry answer is = is

append_so : (trade : Trade) (luck : Luck) (state : List Site) (provider : ℕ) (entry : Entry) (answer : Answer)
    → IsUnchanged answer → IsUnchanged (append trade luck state provider entry answer).answer
append_so trade luck state provider entry answer is =
    either (has_no_room trade provider (journal_at state provider) entry) (answers state (Refuses faults.JournalFull))
    (appended luck.fails state provider entry answer) refl (appended_so luck.fails state provider entry answer is)

at_work_so : (trade : Trade) (state : List Site) (provider now : ℕ) (done : Played) → IsUnchanged done.answer
    → IsUnchanged (at_work trade state provider now done).answer
at_work_so trade state provider now done is =
    let last = last_of trade provider (journal_at state provider) in
    either (site_at state provider).up
    (if nat_lt now last then answers state (Refuses (faults.ClockBack last)) else done)
    (answers state (Refuses faults.Down))
    (either (nat_lt now last) (answers state (Refuses (faults.ClockBack last))) done refl is) refl

pub submit_unchanged : (trade : Trade) (luck : Luck) (state : List Site) (provider moment : ℕ) (sender : Bytes)
    (path : Path) (message : Bytes)
    → IsUnchanged (played trade luck state (Submit provider moment sender path message)).answer
unfolding played
submit_unchanged trade luck state provider moment sender path message =
    let cause = screened_cause (finds_at state provider message) (trade.cause provider sender path message) in
    let number = messages_at trade state provider in
    let answer = Submits (told_by cause (id_of provider number)) in
    let done = append trade luck state provider (entry_by cause moment sender path message) answer in
    let next = if nat_lt number MESSAGES then done else answers state (Refuses faults.Full) in
    either (trade.is_account provider sender) (at_work trade state provider moment next)
    (answers state (Refuses faults.NoAccount))
    (at_work_so trade state provider moment next
    (either (nat_lt number MESSAGES) done (answers state (Refuses faults.Full))
    (append_so trade luck state provider (entry_by cause moment sender path message) answer tt) refl)) refl

pub tick_unchanged : (trade : Trade) (luck : Luck) (state : List Site) (provider moment : ℕ)
    → IsUnchanged (played trade luck state (Tick provider moment)).answer
unfolding played
tick_unchanged trade luck state provider moment =
    let entry = entries.Ticked moment in
    let answer = Marks (map told_mark (marks_by trade provider (half trade provider (journal_at state provider)) entry)) in
    at_work_so trade state provider moment (append trade luck state provider entry answer)
    (append_so trade luck state provider entry answer tt)

pub upgrade_unchanged : (trade : Trade) (luck : Luck) (state : List Site) (provider moment : ℕ)
    → IsUnchanged (played trade luck state (Upgrade provider moment)).answer
unfolding played
upgrade_unchanged trade luck state provider moment =
    let done = append trade luck state provider (entries.Upgraded moment) Upgraded in
    let refused = answers state (Refuses faults.NoNeed) in
    at_work_so trade state provider moment (if version_at trade state provider == 1 then done else refused)
    (either (version_at trade state provider == 1) done refused
    (append_so trade luck state provider (entries.Upgraded moment) Upgraded tt) refl)

-- ---- archives

archived_so : (trade : Trade) (luck : Luck) (state : List Site) (moment : ℕ) (account : Bytes) (place : ℕ)
    (home : Option ℕ) → IsUnchanged (archived trade luck state home moment account place).answer
archived_so trade luck state moment account place None = refl
archived_so trade luck state moment account place (Some provider) =
    let done = append trade luck state provider (entries.Archived moment account place) Archived in
    let old = answers state (Refuses faults.OldJournal) in
    let none = answers state (Refuses faults.NoItem) in
    let next = if version_at trade state provider == 2 then done else old in
    at_work_so trade state provider moment (if nat_lt place (items_at trade state provider account) then next else none)
    (either (nat_lt place (items_at trade state provider account)) next none
    (either (version_at trade state provider == 2) done old
    (append_so trade luck state provider (entries.Archived moment account place) Archived tt) refl) refl)

pub archive_unchanged : (trade : Trade) (luck : Luck) (state : List Site) (address : Bytes) (moment place : ℕ)
    → IsUnchanged (played trade luck state (Archive address moment place)).answer
unfolding played
archive_unchanged trade luck state address moment place =
    archived_so trade luck state moment address place (account_home trade address (trade.home address))

-- ---- screens

screened_so : (state : List Site) (provider place : ℕ) (spare : Option Patterns)
    → IsUnchanged (screened state provider place spare).answer
screened_so state provider place None = tt
screened_so state provider place (Some patterns) =
    let screens = (site_at state provider).screens in
    let done : Played = record {
      answer = Screened;
      after = with_site state provider (with_screens (site_at state provider) (slice_set screens place patterns));
    } in
    let none = answers state NoScreen in
    either (site_at state provider).up (if nat_lt place (length screens) then done else none)
    (answers state (Refuses faults.Down)) (either (nat_lt place (length screens)) done none tt tt) refl

pub screen_unchanged : (trade : Trade) (luck : Luck) (state : List Site) (provider place : ℕ) (spare : Option Patterns)
    → IsUnchanged (played trade luck state (Screen provider place spare)).answer
unfolding played
screen_unchanged trade luck state provider place spare = screened_so state provider place spare

-- ---- links

pub lose_unchanged : (trade : Trade) (luck : Luck) (state : List Site) (from to place : ℕ)
    → IsUnchanged (played trade luck state (Lose from to place)).answer
unfolding played
lose_unchanged trade luck state from to place =
    let frames = frames_between state from to in
    let done : Played = record {
      answer = Lost;
      after = with_frames state from to (take place frames ++ drop (place + 1) frames);
    } in
    either (nat_lt place (length frames)) done (answers state NoFrame) tt tt

again_so : (state : List Site) (from to : ℕ) (found : Option Bytes) → IsUnchanged (put_again state from to found).answer
again_so state from to None = tt
again_so state from to (Some frame) =
    let frames = frames_between state from to in
    let done : Played = record { answer = Repeated; after = with_frames state from to (frames ++ frame ∷ []) } in
    either (nat_lt (length frames) link_size) done (answers state LinkFull) tt tt

pub repeat_unchanged : (trade : Trade) (luck : Luck) (state : List Site) (from to place : ℕ)
    → IsUnchanged (played trade luck state (Repeat from to place)).answer
unfolding played
repeat_unchanged trade luck state from to place =
    again_so state from to (slice_get (frames_between state from to) place)

swapped_so : (state : List Site) (from to : ℕ) (found : Option (List Bytes)) → IsUnchanged (swapped state from to found).answer
swapped_so state from to None = tt
swapped_so state from to (Some frames) = tt

pub swap_unchanged : (trade : Trade) (luck : Luck) (state : List Site) (from to place : ℕ)
    → IsUnchanged (played trade luck state (Swap from to place)).answer
unfolding played
swap_unchanged trade luck state from to place =
    swapped_so state from to (swapped_at place (frames_between state from to))

pub inject_unchanged : (trade : Trade) (luck : Luck) (state : List Site) (from to : ℕ) (frame : Bytes)
    → IsUnchanged (played trade luck state (Inject from to frame)).answer
unfolding played
inject_unchanged trade luck state from to frame =
    let frames = frames_between state from to in
    let done : Played = record { answer = Injected; after = with_frames state from to (frames ++ frame ∷ []) } in
    either (nat_lt (length frames) link_size) done (answers state LinkFull) tt tt

-- ---- crashes

pub crash_unchanged : (trade : Trade) (luck : Luck) (state : List Site) (provider : ℕ)
    → IsUnchanged (played trade luck state (Crash provider)).answer
unfolding played
crash_unchanged trade luck state provider = tt

pub restart_unchanged : (trade : Trade) (luck : Luck) (state : List Site) (provider : ℕ)
    → IsUnchanged (played trade luck state (Restart provider)).answer
unfolding played
restart_unchanged trade luck state provider =
    let site = site_at state provider in
    let again = restarted_site luck.found site in
    let done : Played =
    record { answer = Restarted (length again.journal); after = with_site state provider again } in
    let failed = answers state (Refuses faults.DiskFault) in
    either site.up (answers state IsUp) (if luck.fails then failed else done) tt (either luck.fails failed done refl tt)

-- ---- what accounts ask for

asked_so : (trade : Trade) (state : List Site) (show : ℕ → Half → Played)
    → ((provider : ℕ) (half : Half) → IsUnchanged (show provider half).answer) → (home : Option ℕ)
    → IsUnchanged (asked state show trade home).answer
asked_so trade state show is None = refl
asked_so trade state show is (Some provider) =
    let its = half trade provider (journal_at state provider) in
    either (site_at state provider).up (show provider its) (answers state (Refuses faults.Down)) (is provider its) refl

pub book_unchanged : (trade : Trade) (luck : Luck) (state : List Site) (address : Bytes)
    → IsUnchanged (played trade luck state (Book address)).answer
unfolding played
book_unchanged trade luck state address =
    asked_so trade state (λ provider half. answers state (Lines (book trade provider half address)))
    (λ provider half. tt) (account_home trade address (trade.home address))

pub mailbox_unchanged : (trade : Trade) (luck : Luck) (state : List Site) (address : Bytes)
    → IsUnchanged (played trade luck state (Mailbox address)).answer
unfolding played
mailbox_unchanged trade luck state address =
    asked_so trade state (λ provider half. answers state (Items (mailbox_lines half address))) (λ provider half. tt)
    (account_home trade address (trade.home address))

pub vault_unchanged : (trade : Trade) (luck : Luck) (state : List Site) (address : Bytes)
    → IsUnchanged (played trade luck state (Vault address)).answer
unfolding played
vault_unchanged trade luck state address =
    asked_so trade state (λ provider half. answers state (Vaults (archive_lines half address))) (λ provider half. tt)
    (account_home trade address (trade.home address))
