-- The headline: what stands at each command of a script.
use Rattle.std.proofs.Common.{◌≡◌, ℕ, zero, suc, ◌+◌, ◌≤◌, List, [], ◌∷◌, ◌++◌, Bool, true, false, inl, inr, length, take, refl, ap, sym, subst, ◌∙◌, arith, nat_lt, Option, Some, None}
use Rattle.std.specs.Prelude.{Contains, IsSome, slice_get, if◌then◌else◌}
use Rattle.std.specs.List.{find}
use Rattle.std.proofs.lemmas.Bool.{cases_lt, false≢true}
use Rattle.std.proofs.lemmas.List.{get_or-set_same, get_or_past}
use Rattle.std.proofs.lemmas.List.Elements.{All-contains}
use Rattle.std.proofs.lemmas.Option.{none-some}
use Rattle.pec_types.specs.Bytes.{Bytes}
use Rattle.pec_types.specs.declared.mailboxes.Mark.{Mark as ToldMark}
use Rattle.pec_types.specs.declared.messages.BookLine.{BookLine}
use Rattle.pec_types.specs.declared.receipts.Kind.TheVariants as kinds
use Rattle.pec_types.specs.declared.turns.ProviderFault.TheVariants as faults
use Rattle.pec_records.specs.declared.entries.Entry.{Entry}
use Rattle.pec_records.specs.declared.entries.Entry.TheVariants as entries
use Rattle.pec_ledger.specs.Along.{times}
use Rattle.pec_ledger.specs.Books.{book}
use Rattle.pec_ledger.specs.Guarantees.{HasReceipt, NoReceiptMissing, NoticeByTheDay, OneDelivery, OneOutcome, is_notice_on, times_held, times_known}
use Rattle.pec_ledger.specs.Half.{Half, Known}
use Rattle.pec_ledger.specs.Ledger.{Fit, Journals, ledger}
use Rattle.pec_ledger.specs.Lookups.{accepted_at, known_of}
use Rattle.pec_ledger.specs.Network.{IsGenuine, IsGenuineText, IsNext, Site, Sound, empty_site, frames_between, journal_at, journals_of, site_at}
use Rattle.pec_ledger.specs.Own.{IsOwnPair}
use Rattle.pec_ledger.specs.Pairs.{Pair, pair_of, same_pair}
use Rattle.pec_ledger.specs.Steps.{half}
use Rattle.pec_ledger.specs.Trade.{Receipt, SeenReceipt, Trade}
use Rattle.pec_ledger.specs.TradeLaws.{IsTrade}
use Rattle.pec_plays.specs.Commands.{Answer, Book, Command, Lines, Luck, Marks, Played, Refuses, Tick, account_home, answers, append, appended, asked, played, ticked, with_entry, with_site}
use Rattle.pec_plays.specs.Possible.{NoneInterrupted}
use Rattle.pec_plays.specs.Scripts.{AllUnforged, IsUnforged, Kept, script}
use Rattle.pec_plays.specs.Steps.{has_no_room}
use Rattle.pec_plays.specs.Turns.{last_of}
use Rattle.pec_runs.specs.Headline.{Acknowledges, IsBook, NoneWithoutNotice, Stands, state_before}
use Rattle.pec_runs.specs.Reaching.{IsReached}
use Rattle.pec_runs.proofs.DeliveredLemmas.{delivered_once}
use Rattle.pec_runs.proofs.NextLemmas.{WouldMeet, next_reached, would_meet}
use Rattle.pec_runs.proofs.PlaceLemmas.{at_place, unforged_front}
use Rattle.pec_runs.proofs.StepLemmas.{JointStays, reached_itself, reached_on}

-- What the laws below say.
pub record PlayLaws (trade : Trade) : Type 0 where
  pub stays : JointStays trade
  pub goes_on : (luck : Luck) (sites : List Site) (command : Command) → Sound trade sites
      → IsUnforged trade luck sites command
      → IsNext trade sites (played trade luck sites command).after
  pub commands : (luck : Luck) (sites : List Site) (command : Command) → Sound trade sites
      → IsUnforged trade luck sites command
      → Sound trade (played trade luck sites command).after
  pub one_outcome : (journals : Journals) → Fit trade journals → OneOutcome trade journals
  pub one_delivery : (journals : Journals) → Fit trade journals → OneDelivery trade journals
  pub no_receipt_missing : (journals : Journals) → Fit trade journals → NoReceiptMissing trade journals
  pub notice_by_the_day : (journals : Journals) → Fit trade journals → NoticeByTheDay trade journals
  pub knowns : (journals : Journals) → Fit trade journals → (provider : ℕ) (pair : Pair) (row : Known)
      → known_of (ledger trade journals provider) pair ≡ Some row
      → IsOwnPair trade provider (ledger trade journals provider) pair
  pub acked : (journals : Journals) → Fit trade journals → (bytes : Bytes) → IsGenuineText trade journals bytes
      → (receipt : Receipt) → trade.view bytes ≡ Some (SeenReceipt receipt) → receipt.kind ≡ kinds.Ack
      → (recipient : Bytes) → receipt.recipient ≡ Some recipient
      → IsSome (known_of (ledger trade journals receipt.id.provider) (pair_of receipt.id recipient))

-- ---- receipts that aren't missing

found_by : {X : Type 0} (test : X → Bool) (x : X) (xs : List X) (b : Bool) → test x ≡ b → (y : X)
    → (if b then Some x else find test xs) ≡ Some y → (find test xs ≡ Some y → 1 ≤ times test xs)
    → 1 ≤ times test (x ∷ xs)
found_by test x xs true is y e more = rw is (omega arith)
found_by test x xs false is y e more = rw is (more e)

found_counts : {X : Type 0} (test : X → Bool) (xs : List X) (y : X) → find test xs ≡ Some y → 1 ≤ times test xs
found_counts test [] y e = absurd (none-some y e)
found_counts test (x ∷ xs) y e = found_by test x xs (test x) refl y e (found_counts test xs y)

module _ (trade : Trade) (laws : PlayLaws trade) where
  -- a known pair has its receipt
  has_receipt : (journals : Journals) → Fit trade journals → (pair : Pair) (row : Known)
      → known_of (ledger trade journals pair.id.provider) pair ≡ Some row → HasReceipt trade journals pair
  has_receipt journals fit pair row e =
      let owned = laws.knowns journals fit pair.id.provider pair row e
      in let one = laws.one_outcome journals fit
      in let some : 1 ≤ times_known (ledger trade journals pair.id.provider) pair =
      found_counts (λ (known : Known). same_pair pair known.pair) (ledger trade journals pair.id.provider).known row e
      in let most : times_known (ledger trade journals pair.id.provider) pair ≤ 1 = one.known_once pair.id.provider pair
      in record {
        message = owned.message;
        accepted = owned.accepted;
        receipt = one.receipts pair.id.provider pair owned.message owned.accepted
            ∙ (let n : times_known (ledger trade journals pair.id.provider) pair ≡ 1 = omega (arith, some, most) in n);
      }

  some_receipt : (journals : Journals) → Fit trade journals → (pair : Pair) (found : Option Known)
      → known_of (ledger trade journals pair.id.provider) pair ≡ found → IsSome found → HasReceipt trade journals pair
  some_receipt journals fit pair None e some = cc
  some_receipt journals fit pair (Some row) e some = has_receipt journals fit pair row e

  acknowledged : IsTrade trade → (now : List Site) → Sound trade now → (from to : ℕ) (frame : Bytes) (pair : Pair)
      → Contains (frames_between now from to) frame → Acknowledges trade frame pair
      → HasReceipt trade (journals_of now) pair
  acknowledged world now sound from to frame pair waits is =
      let genuine = All-contains (IsGenuine trade (journals_of now)) (frames_between now from to) frame
      (sound.genuine from to) waits
      in let text = genuine is.framed is.stands (world.seen_opens is.framed.message (SeenReceipt is.receipt) is.seen)
      in let known = laws.acked (journals_of now) sound.fit is.framed.message text is.receipt is.seen is.kind
      is.recipient is.names
      in subst (λ (p : Pair). HasReceipt trade (journals_of now) p) (sym is.is)
      (some_receipt (journals_of now) sound.fit (pair_of is.receipt.id is.recipient)
      (known_of (ledger trade (journals_of now) is.receipt.id.provider)
      (pair_of is.receipt.id is.recipient)) refl known)

  -- ---- states

  kept_in : (now : List Site) → Sound trade now → Kept trade now
  kept_in now sound = record {
    one_outcome = laws.one_outcome (journals_of now) sound.fit;
    one_delivery = laws.one_delivery (journals_of now) sound.fit;
    no_receipt_missing = laws.no_receipt_missing (journals_of now) sound.fit;
    notice_by_the_day = laws.notice_by_the_day (journals_of now) sound.fit;
  }

  sound_behind : (lucks : List Luck) (sites : List Site) (commands : List Command) → Sound trade sites
      → AllUnforged trade lucks sites commands → Sound trade (script trade lucks sites commands).after
  sound_behind [] sites commands sound given = sound
  sound_behind (luck ∷ lucks) sites [] sound given = sound
  sound_behind (luck ∷ lucks) sites (c ∷ commands) sound given =
      sound_behind lucks (played trade luck sites c).after commands (laws.commands luck sites c sound given.0) given.1

  pub reached_behind : (lucks : List Luck) (sites : List Site) (commands : List Command) → Sound trade sites
      → WouldMeet trade sites
      → AllUnforged trade lucks sites commands
      → IsReached trade (journals_of sites) (journals_of (script trade lucks sites commands).after)
  reached_behind [] sites commands sound would given = reached_itself trade laws.stays (journals_of sites)
  reached_behind (luck ∷ lucks) sites [] sound would given = reached_itself trade laws.stays (journals_of sites)
  reached_behind (luck ∷ lucks) sites (c ∷ commands) sound would given =
      let after = (played trade luck sites c).after
      in let next = laws.goes_on luck sites c sound given.0
      in reached_on trade laws.stays (journals_of sites) (journals_of after)
      (journals_of (script trade lucks after commands).after)
      (next_reached trade laws.stays sites after next would)
      (reached_behind lucks after commands (laws.commands luck sites c sound given.0)
      (would_meet trade laws.stays sites after next would) given.1)

  -- the ledger behind a command is reached from the one before it
  pub onward_at : (number : ℕ) (lucks : List Luck) (sites : List Site) (commands : List Command) → Sound trade sites
      → WouldMeet trade sites → AllUnforged trade lucks sites commands
      → IsReached trade (journals_of (state_before trade lucks sites commands number))
      (journals_of (state_before trade lucks sites commands (suc number)))
  onward_at zero [] sites commands sound would given = reached_itself trade laws.stays (journals_of sites)
  onward_at zero (luck ∷ lucks) sites [] sound would given = reached_itself trade laws.stays (journals_of sites)
  onward_at zero (luck ∷ lucks) sites (c ∷ commands) sound would given =
      next_reached trade laws.stays sites (played trade luck sites c).after (laws.goes_on luck sites c sound given.0)
      would
  onward_at (suc number) [] sites commands sound would given = reached_itself trade laws.stays (journals_of sites)
  onward_at (suc number) (luck ∷ lucks) sites [] sound would given =
      reached_itself trade laws.stays (journals_of sites)
  onward_at (suc number) (luck ∷ lucks) sites (c ∷ commands) sound would given =
      let after = (played trade luck sites c).after
      in onward_at number lucks after commands (laws.commands luck sites c sound given.0)
      (would_meet trade laws.stays sites after (laws.goes_on luck sites c sound given.0) would) given.1

  pub stands : IsTrade trade → (lucks : List Luck) (sites : List Site) (commands : List Command) → Sound trade sites
      → WouldMeet trade sites
      → AllUnforged trade lucks sites commands → Stands trade sites (script trade lucks sites commands).after
  stands world lucks sites commands sound would given =
      let behind = sound_behind lucks sites commands sound given
      in record {
        sound = behind;
        reached = reached_behind lucks sites commands sound would given;
        kept = kept_in (script trade lucks sites commands).after behind;
        delivered = delivered_once trade (journals_of (script trade lucks sites commands).after)
            (laws.one_outcome (journals_of (script trade lucks sites commands).after) behind.fit)
            (laws.one_delivery (journals_of (script trade lucks sites commands).after) behind.fit);
        acknowledged = acknowledged world (script trade lucks sites commands).after behind;
      }

  pub stands_at : IsTrade trade → (lucks : List Luck) (sites : List Site) (commands : List Command)
      → Sound trade sites → WouldMeet trade sites
      → AllUnforged trade lucks sites commands → (number : ℕ)
      → Stands trade sites (state_before trade lucks sites commands number)
  stands_at world lucks sites commands sound would given number =
      stands world (take number lucks) sites commands sound would
      (unforged_front trade number lucks sites commands given)

-- ---- where nothing is interrupted

pub none_would : (trade : Trade) (sites : List Site) → NoneInterrupted sites → WouldMeet trade sites
none_would trade sites none p e at = absurd (none-some e (sym (none p) ∙ at))

-- ---- books

module _ (trade : Trade) (sites : List Site) (address : Bytes) (lines : List BookLine) where
  abbrev shows : ℕ → Half → Played
  shows p h = answers sites (Lines (book trade p h address))

  abbrev shown_by : Bool → ℕ → Played
  shown_by up p = if up then shows p (half trade p (journal_at sites p)) else answers sites (Refuses faults.Down)

  same_lines : (a b : List BookLine) → Lines a ≡ Lines b → a ≡ b
  same_lines a b e = cc

  by_up : (p : ℕ) → trade.home address ≡ Some p → trade.is_account p address ≡ true → (up : Bool)
      → (shown_by up p).answer ≡ Lines lines → IsBook trade sites address lines
  unfolding ledger
  by_up p home account true e = record {
    provider = p;
    home = home;
    account = account;
    are = sym (same_lines (book trade p (half trade p (journal_at sites p)) address) lines e);
  }
  by_up p home account false e = cc

  by_account : (p : ℕ) → trade.home address ≡ Some p → (account : Bool) → trade.is_account p address ≡ account
      → (asked sites shows trade (if account then Some p else None)).answer ≡ Lines lines
      → IsBook trade sites address lines
  by_account p home true account e = by_up p home account (site_at sites p).up e
  by_account p home false account e = cc

  by_home : (home : Option ℕ) → trade.home address ≡ home
      → (asked sites shows trade (account_home trade address home)).answer ≡ Lines lines
      → IsBook trade sites address lines
  by_home None home e = cc
  by_home (Some p) home e = by_account p home (trade.is_account p address) refl e

  pub is_book : (luck : Luck) → Lines lines ≡ (played trade luck sites (Book address)).answer
      → IsBook trade sites address lines
  unfolding played
  is_book luck e = by_home (trade.home address) refl (sym e)

-- ---- clock calls

module _ (trade : Trade) (luck : Luck) (sites : List Site) (p now : ℕ) (marks : List ToldMark) where
  -- the entry was appended, at a provider that is up
  abbrev Came : Played → Type 0
  Came done = ((site_at sites p).up ≡ true)
      × (done.after ≡ with_site sites p (with_entry (site_at sites p) (entries.Ticked now)))

  fails_by : (fails : Bool) (answer : Answer) → (site_at sites p).up ≡ true
      → (appended fails sites p (entries.Ticked now) answer).answer ≡ Marks marks
      → Came (appended fails sites p (entries.Ticked now) answer)
  fails_by true answer up e = cc
  fails_by false answer up e = (up, refl)

  room_by : (full : Bool) (answer : Answer) → (site_at sites p).up ≡ true
      → (if full then answers sites (Refuses faults.JournalFull) else appended luck.fails sites p
      (entries.Ticked now) answer).answer ≡ Marks marks
      → Came (if full then answers sites (Refuses faults.JournalFull) else appended luck.fails sites p
      (entries.Ticked now) answer)
  room_by true answer up e = cc
  room_by false answer up e = fails_by luck.fails answer up e

  late_by : (late : Bool) (answer : Answer) → (site_at sites p).up ≡ true
      → (if late then answers sites (Refuses (faults.ClockBack (last_of trade p (journal_at sites p))))
      else append trade luck sites p (entries.Ticked now) answer).answer ≡ Marks marks
      → Came (if late then answers sites (Refuses (faults.ClockBack (last_of trade p (journal_at sites p))))
      else append trade luck sites p (entries.Ticked now) answer)
  late_by true answer up e = cc
  late_by false answer up e = room_by (has_no_room trade p (journal_at sites p) (entries.Ticked now)) answer up e

  up_by : (up : Bool) (done : Played) → (site_at sites p).up ≡ up
      → ((site_at sites p).up ≡ true → done.answer ≡ Marks marks → Came done)
      → (if up then done else answers sites (Refuses faults.Down)).answer ≡ Marks marks
      → Came (if up then done else answers sites (Refuses faults.Down))
  up_by true done is more e = more is e
  up_by false done is more e = cc

  tick_came : (ticked trade luck sites p now).answer ≡ Marks marks → Came (ticked trade luck sites p now)
  tick_came e =
      up_by (site_at sites p).up _ refl
      (λ up f. late_by (nat_lt now (last_of trade p (journal_at sites p))) _ up f) e

  -- the clock call is the last entry
  pub tick_last : Marks marks ≡ (played trade luck sites (Tick p now)).answer
      → journal_at (played trade luck sites (Tick p now)).after p ≡ journal_at sites p ++ entries.Ticked now ∷ []
  unfolding played
  tick_last e =
      let came = tick_came (sym e)
      in elim (cases_lt p (length sites)) [
        | inl l ↦
            ap (λ (s : List Site). journal_at s p) came.1
            ∙ ap (λ (s : Site). s.journal)
            (get_or-set_same sites p (with_entry (site_at sites p) (entries.Ticked now)) empty_site l)
        | inr l ↦ absurd (false≢true (sym (ap (λ (s : Site). s.up) (get_or_past sites p empty_site l)) ∙ came.0))
      ]

-- so each pair of a day has its notice
pub none_left : (trade : Trade) (J : Journals) → NoticeByTheDay trade J → (p now : ℕ) (es : List Entry)
    → J p ≡ es ++ entries.Ticked now ∷ []
    → NoneWithoutNotice trade J p now
unfolding ledger
none_left trade J by_the_day p now es is pair message ours accepted has old none =
    subst (λ (l : List Entry). 1 ≤ times_held (is_notice_on pair) (half trade p l) message.sender) (sym is)
    (by_the_day.notice p es now [] is pair message ours
    (subst (λ (l : List Entry). accepted_at (half trade p l) pair.id.number ≡ Some message) is accepted) has old
    (subst (λ (l : List Entry). known_of (half trade p l) pair ≡ None) is none))

-- ---- at places of a script

module _ (trade : Trade) (lucks : List Luck) (sites : List Site) (commands : List Command) where
  pub book_at : (number : ℕ) (address : Bytes) (lines : List BookLine) → slice_get commands number ≡ Some (Book address)
      → slice_get (script trade lucks sites commands).answers number ≡ Some (Lines lines)
      → IsBook trade (state_before trade lucks sites commands number) address lines
  book_at number address lines is said =
      let at = at_place trade lucks sites commands number (Book address) (Lines lines) is said
      in is_book trade (state_before trade lucks sites commands number) address lines at.luck at.said

  pub notices_at : (number p now : ℕ) (marks : List ToldMark)
      → NoticeByTheDay trade (journals_of (state_before trade lucks sites commands (number + 1)))
      → slice_get commands number ≡ Some (Tick p now)
      → slice_get (script trade lucks sites commands).answers number ≡ Some (Marks marks)
      → NoneWithoutNotice trade (journals_of (state_before trade lucks sites commands (number + 1))) p now
  notices_at number p now marks by_the_day is said =
      let before = state_before trade lucks sites commands number
      in let at = at_place trade lucks sites commands number (Tick p now) (Marks marks) is said
      in none_left trade (journals_of (state_before trade lucks sites commands (number + 1))) by_the_day p now
      (journal_at before p)
      (ap (λ (s : List Site). journal_at s p) at.behind ∙ tick_last trade at.luck before p now marks at.said)
