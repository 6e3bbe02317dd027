-- What an account is shown, by what its provider answers.
use Rattle.std.proofs.Common.{◌≡◌, ℕ, ◌<◌, Bool, true, false, Global, List, [], Vec, get_or, set, length, refl, ap, subst, sym}
use Rattle.std.proofs.Common.{◌∙◌, ◌⊎◌, inl, inr, Option, Some, None, Result, Ok, Err}
use Rattle.std.specs.Prelude.{IfErr, IfOk, IsErrOf, IsSome, OnOk, if◌then◌else◌, not, slice_get}
use Rattle.std.proofs.lemmas.Bool.{cases_eq}
use Rattle.std.proofs.lemmas.List.{append-nil}
use Rattle.std.proofs.lemmas.Option.{same_Some}
use Rattle.std.proofs.lemmas.Result.{IfErr-at_err}
use Rattle.std.specs.Option.{option_and_then}
use Rattle.pec_types.specs.Bytes.{Bytes}
use Rattle.pec_types.specs.declared.turns.ProviderFault.{ProviderFault}
use Rattle.pec_types.specs.declared.turns.ProviderFault.TheVariants as faults
use Rattle.pec_types.specs.declared.mailboxes.ItemLine.{ItemLine}
use Rattle.pec_types.specs.declared.messages.BookLine.{BookLine}
use Rattle.pec_directory.specs.Directory.{Kept}
use Rattle.pec_records.specs.declared.entries.Entry.{Entry}
use Rattle.pec_seal.specs.Seals.{Seals}
use Rattle.pec_ledger.specs.Books.{archive_lines, book, mailbox_lines}
use Rattle.pec_ledger.specs.Half.{Half, Posted}
use Rattle.pec_ledger.specs.Items.{item_text}
use Rattle.pec_ledger.specs.Lookups.{archive, mailbox}
use Rattle.pec_ledger.specs.Network.{Site, site_at}
use Rattle.pec_ledger.specs.OfDirectory.{IsOf}
use Rattle.pec_ledger.specs.Steps.{half}
use Rattle.pec_ledger.specs.Trade.{Trade}
use Rattle.pec_plays.specs.Commands.{Answer, Book, Items, Lines, Luck, Mailbox, Played, Refuses, Show, Shown, Vault, VaultShow}
use Rattle.pec_plays.specs.Commands.{Vaults, account_home, answers, asked, played, shown, shown_bytes, stopped_site, with_site}
use Rattle.pec_screen.specs.Verdicts.{Patterns}
use Rattle.pec_stock.specs.Stock.{IsOwn}
use Rattle.pec_posts.specs.Arrivals.{Waiting, waiting_for}
use Rattle.pec_provider.specs.Playing.{IsUnasked, IsUnshown, text_at}
use Rattle.pec_provider.specs.Provider.{Desk, ProviderState, Runs, desk_of, site_of, stopped}
use Rattle.pec_provider.specs.Reading.{OnChanged, Reads}
use Rattle.pec_network.specs.Network.{sites_of}
use Rattle.pec_network.specs.Playing.{IsReadSo, IsShown, luck_of_read}
use Rattle.pec_network.proofs.ChangeLemmas.{there_from}
use Rattle.pec_network.proofs.EndLemmas.{lists_same}
use Rattle.pec_network.proofs.SiteLemmas.{provider_changes, site_again}

-- no entry is told as changed where none is
pub none_told : {X : Type 0} (Is : ℕ → Type 0) (r : Result X ProviderFault) → IfErr r (OnChanged Is)
    → ((number : ℕ) → Is number → ⊥) → (number : ℕ) → IsErrOf r (faults.Changed number) → ⊥
none_told Is r changed none number is = none number (IfErr-at_err (OnChanged Is) is changed)

-- the entries of a provider are its own
pub own_so : {D : Type 0} {kept : List Kept} {seals : Seals} (trade : Trade) (me : ℕ) (was : ProviderState D)
    → Runs kept seals me was → IsOf kept trade → IsOwn trade me was.chronicle.entries
own_so trade me was runs of =
    subst (λ (n : ℕ). IsOwn trade n was.chronicle.entries) runs.is
    (subst (λ (l : List Entry). IsOwn trade was.shelf.me l) (append-nil was.chronicle.entries)
    (runs.agree.own trade of false))

module _ {X : Type 0} (trade : Trade) (sites : List Site) (address : Bytes) (show : ℕ → Half → Played) (tells : X → Answer) where
  abbrev asks : Option ℕ → Played
  asks home = asked sites show trade (account_home trade address home)

  -- the address is that of no provider
  pub shown_nowhere : trade.home address ≡ None → asks (trade.home address) ≡ answers sites (Refuses faults.NoAccount)
  shown_nowhere none = ap (λ (home : Option ℕ). asks home) none

  module _ (me : ℕ) (desk : Desk) (screens : List Patterns) (waiting : List (List Bytes))
      (home : trade.home address ≡ Some me) (here : site_at sites me ≡ site_of desk screens waiting) where
    abbrev at_home : Bool → Played
    at_home account = asked sites show trade (if account then Some me else None)

    abbrev open_at : Site → Played
    open_at site = if site.up then show me (half trade me site.journal) else answers sites (Refuses faults.Down)

    not_ours : trade.is_account me address ≡ false → asks (trade.home address) ≡ answers sites (Refuses faults.NoAccount)
    not_ours account = ap (λ (h : Option ℕ). asks h) home ∙ ap (λ (b : Bool). at_home b) account

    ours : trade.is_account me address ≡ true → asks (trade.home address) ≡ open_at (site_of desk screens waiting)
    ours account = ap (λ (h : Option ℕ). asks h) home ∙ ap (λ (b : Bool). at_home b) account ∙ ap (λ (s : Site). open_at s) here

    pub shown_so : (down : Bool) → desk.up ≡ not down → (r : Result X ProviderFault)
        → OnOk r ((trade.is_account me address ≡ true) × (down ≡ false))
        → IfErr r (IsUnasked (trade.is_account me address) (not down))
        → IfOk r (λ x. show me (half trade me desk.journal) ≡ answers sites (tells x))
        → IsShown tells (asks (trade.home address)) sites r
    shown_so down up (Ok x) asked unasked shows =
        ours asked.0 ∙ open_up (up ∙ ap not asked.1) ∙ shows
      where
        open_up : desk.up ≡ true → open_at (site_of desk screens waiting) ≡ show me (half trade me desk.journal)
        open_up e = rw e refl
    shown_so down up (Err faults.NoAccount) asked unasked shows = not_ours unasked
    shown_so down up (Err faults.Down) asked unasked shows =
        ours unasked.0 ∙ shut (up ∙ unasked.1)
      where
        shut : desk.up ≡ false → open_at (site_of desk screens waiting) ≡ answers sites (Refuses faults.Down)
        shut e = rw e refl
    shown_so down up (Err faults.NoMemory) asked unasked shows = tt
    shown_so down up (Err faults.DiskFault) asked unasked shows = absurd unasked
    shown_so down up (Err (faults.ClockBack moment)) asked unasked shows = absurd unasked
    shown_so down up (Err faults.Full) asked unasked shows = absurd unasked
    shown_so down up (Err faults.NoItem) asked unasked shows = absurd unasked
    shown_so down up (Err (faults.Changed which)) asked unasked shows = absurd unasked
    shown_so down up (Err faults.JournalFull) asked unasked shows = absurd unasked
    shown_so down up (Err faults.OldJournal) asked unasked shows = absurd unasked
    shown_so down up (Err faults.NoNeed) asked unasked shows = absurd unasked

-- ---- books and mailboxes

module _ (trade : Trade) (luck : Luck) (sites : List Site) (address : Bytes) where
  pub book_nowhere : trade.home address ≡ None → played trade luck sites (Book address) ≡ answers sites (Refuses faults.NoAccount)
  unfolding played
  book_nowhere none =
      shown_nowhere {X = List BookLine} trade sites address (λ provider half. answers sites (Lines (book trade provider half address))) (λ lines. Lines lines) none

  pub mailbox_nowhere : trade.home address ≡ None → played trade luck sites (Mailbox address) ≡ answers sites (Refuses faults.NoAccount)
  unfolding played
  mailbox_nowhere none =
      shown_nowhere {X = List ItemLine} trade sites address (λ provider half. answers sites (Items (mailbox_lines half address))) (λ lines. Items lines) none

  pub vault_nowhere : trade.home address ≡ None → played trade luck sites (Vault address) ≡ answers sites (Refuses faults.NoAccount)
  unfolding played
  vault_nowhere none =
      shown_nowhere {X = List ItemLine} trade sites address (λ provider half. answers sites (Vaults (archive_lines half address))) (λ lines. Vaults lines) none

module _ {D : Type 0} (trade : Trade) (luck : Luck) (providers : List (ProviderState D)) (screens : List (List Patterns))
    (waiting : List Waiting) (address : Bytes) (me : ℕ)
    (old : ProviderState D) (within : me < length providers) (here : old ≡ get_or providers me old)
    (home : trade.home address ≡ Some me) where
  abbrev all : List Site
  all = sites_of providers screens waiting

  there : site_at all me ≡ site_of (desk_of old) (get_or screens me []) (waiting_for waiting me)
  there = there_from providers me old old within here screens waiting

  pub book_so : (r : Result (Vec BookLine Global) ProviderFault)
      → OnOk r ((trade.is_account me address ≡ true) × (old.chronicle.down ≡ false))
      → IfErr r (IsUnasked (trade.is_account me address) (not old.chronicle.down))
      → IfOk r (λ lines. lines.items ≡ book trade me (half trade me old.chronicle.entries) address)
      → IsShown (λ (lines : Vec BookLine Global). Lines lines.items) (played trade luck all (Book address)) all r
  unfolding played
  book_so r asked refused lines =
      shown_so trade all address (λ provider half. answers all (Lines (book trade provider half address))) (λ (told : Vec BookLine Global). Lines told.items)
      me (desk_of old) (get_or screens me []) (waiting_for waiting me) home there old.chronicle.down refl r asked refused (told r lines)
    where
      told : (s : Result (Vec BookLine Global) ProviderFault) → IfOk s (λ l. l.items ≡ book trade me (half trade me old.chronicle.entries) address)
          → IfOk s (λ l. answers all (Lines (book trade me (half trade me old.chronicle.entries) address)) ≡ answers all (Lines l.items))
      told (Ok l) e = ap (λ (shown : List BookLine). answers all (Lines shown)) (sym e)
      told (Err f) e = e

  pub mailbox_so : (r : Result (Vec ItemLine Global) ProviderFault)
      → OnOk r ((trade.is_account me address ≡ true) × (old.chronicle.down ≡ false))
      → IfErr r (IsUnasked (trade.is_account me address) (not old.chronicle.down))
      → IfOk r (λ lines. lines.items ≡ mailbox_lines (half trade me old.chronicle.entries) address)
      → IsShown (λ (lines : Vec ItemLine Global). Items lines.items) (played trade luck all (Mailbox address)) all r
  unfolding played
  mailbox_so r asked refused lines =
      shown_so trade all address (λ provider half. answers all (Items (mailbox_lines half address))) (λ (told : Vec ItemLine Global). Items told.items)
      me (desk_of old) (get_or screens me []) (waiting_for waiting me) home there old.chronicle.down refl r asked refused (told r lines)
    where
      told : (s : Result (Vec ItemLine Global) ProviderFault) → IfOk s (λ l. l.items ≡ mailbox_lines (half trade me old.chronicle.entries) address)
          → IfOk s (λ l. answers all (Items (mailbox_lines (half trade me old.chronicle.entries) address)) ≡ answers all (Items l.items))
      told (Ok l) e = ap (λ (shown : List ItemLine). answers all (Items shown)) (sym e)
      told (Err f) e = e

  pub vault_so : (r : Result (Vec ItemLine Global) ProviderFault)
      → OnOk r ((trade.is_account me address ≡ true) × (old.chronicle.down ≡ false))
      → IfErr r (IsUnasked (trade.is_account me address) (not old.chronicle.down))
      → IfOk r (λ lines. lines.items ≡ archive_lines (half trade me old.chronicle.entries) address)
      → IsShown (λ (lines : Vec ItemLine Global). Vaults lines.items) (played trade luck all (Vault address)) all r
  unfolding played
  vault_so r asked refused lines =
      shown_so trade all address (λ provider half. answers all (Vaults (archive_lines half address))) (λ (told : Vec ItemLine Global). Vaults told.items)
      me (desk_of old) (get_or screens me []) (waiting_for waiting me) home there old.chronicle.down refl r asked refused (told r lines)
    where
      told : (s : Result (Vec ItemLine Global) ProviderFault) → IfOk s (λ l. l.items ≡ archive_lines (half trade me old.chronicle.entries) address)
          → IfOk s (λ l. answers all (Vaults (archive_lines (half trade me old.chronicle.entries) address)) ≡ answers all (Vaults l.items))
      told (Ok l) e = ap (λ (shown : List ItemLine). answers all (Vaults shown)) (sym e)
      told (Err f) e = e

-- ---- items

module _ (trade : Trade) (luck : Luck) (sites : List Site) (address : Bytes) (place : ℕ) where
  pub show_nowhere : trade.home address ≡ None
      → played trade luck sites (Show address place) ≡ answers sites (Refuses faults.NoAccount)
  unfolding played
  show_nowhere none =
      shown_nowhere {X = Bytes} trade sites address
      (λ provider half. shown trade luck sites provider (slice_get (mailbox half address) place)) (λ bytes. Shown bytes)
      none

  pub vault_item_nowhere : trade.home address ≡ None
      → played trade luck sites (VaultShow address place) ≡ answers sites (Refuses faults.NoAccount)
  unfolding played
  vault_item_nowhere none =
      shown_nowhere {X = Bytes} trade sites address
      (λ provider half. shown trade luck sites provider (slice_get (archive half address) place)) (λ bytes. Shown bytes)
      none

-- a command that shows the item at a place of a list of an account's, its mailbox or its archive
abbrev pub plays_box : Trade → (Half → Bytes → List Posted) → Bytes → ℕ → Luck → List Site → Played
plays_box trade box address place luck sites =
    asked sites (λ provider half. shown trade luck sites provider (slice_get (box half address) place)) trade
    (account_home trade address (trade.home address))

pub show_is : (trade : Trade) (luck : Luck) (sites : List Site) (address : Bytes) (place : ℕ)
    → played trade luck sites (Show address place) ≡ plays_box trade mailbox address place luck sites
unfolding played
show_is trade luck sites address place = refl

pub vault_show_is : (trade : Trade) (luck : Luck) (sites : List Site) (address : Bytes) (place : ℕ)
    → played trade luck sites (VaultShow address place) ≡ plays_box trade archive address place luck sites
unfolding played
vault_show_is trade luck sites address place = refl

-- what a command that reads answers, said of the same command
pub read_as : {X : Type 0} (tells : X → Answer) (play other : Luck → Played) → ((luck : Luck) → play luck ≡ other luck)
    → (shown : Option Bytes) (old new : List Site) (r : Result X ProviderFault)
    → IsReadSo tells (λ (read : Option ProviderFault). play (luck_of_read read shown)) old new r
    → IsReadSo tells (λ (read : Option ProviderFault). other (luck_of_read read shown)) old new r
read_as tells play other same shown old new (Ok x) is = (sym (same (luck_of_read None shown)) ∙ is.0, is.1)
read_as tells play other same shown old new (Err faults.DiskFault) is =
    sym (same (luck_of_read (Some faults.DiskFault) shown)) ∙ is
read_as tells play other same shown old new (Err (faults.Changed number)) is =
    sym (same (luck_of_read (Some (faults.Changed number)) shown)) ∙ is
read_as tells play other same shown old new (Err faults.NoMemory) is = is
read_as tells play other same shown old new (Err faults.NoItem) is = (sym (same (luck_of_read None shown)) ∙ is.0, is.1)
read_as tells play other same shown old new (Err faults.NoAccount) is = (sym (same (luck_of_read None shown)) ∙ is.0, is.1)
read_as tells play other same shown old new (Err faults.Down) is = (sym (same (luck_of_read None shown)) ∙ is.0, is.1)
read_as tells play other same shown old new (Err (faults.ClockBack moment)) is =
    (sym (same (luck_of_read None shown)) ∙ is.0, is.1)
read_as tells play other same shown old new (Err faults.Full) is = (sym (same (luck_of_read None shown)) ∙ is.0, is.1)
read_as tells play other same shown old new (Err faults.JournalFull) is =
    (sym (same (luck_of_read None shown)) ∙ is.0, is.1)
read_as tells play other same shown old new (Err faults.OldJournal) is =
    (sym (same (luck_of_read None shown)) ∙ is.0, is.1)
read_as tells play other same shown old new (Err faults.NoNeed) is = (sym (same (luck_of_read None shown)) ∙ is.0, is.1)

-- `box` is the mailbox of an account or its archive
module _ {D : Type 0} (box : Half → Bytes → List Posted) (trade : Trade) (providers : List (ProviderState D))
    (screens : List (List Patterns)) (waiting : List Waiting) (address : Bytes)
    (place me : ℕ) (old new : ProviderState D) (within : me < length providers) (here : old ≡ get_or providers me old)
    (home : trade.home address ≡ Some me) where
  abbrev everywhere : List Site
  everywhere = sites_of providers screens waiting

  abbrev afterwards : List Site
  afterwards = sites_of (set providers me new) screens waiting

  abbrev boxes : List Patterns
  boxes = get_or screens me []

  is_there : site_at everywhere me ≡ site_of (desk_of old) boxes (waiting_for waiting me)
  is_there = there_from providers me old new within here screens waiting

  changes_so : (desk : Desk) → desk_of new ≡ desk
      → afterwards ≡ with_site everywhere me (site_of desk boxes (waiting_for waiting me))
  changes_so desk same =
      provider_changes providers screens waiting me new within
      ∙ ap (λ (d : Desk). with_site everywhere me (site_of d boxes (waiting_for waiting me))) same

  -- a call that leaves the provider as it was
  stays_so : desk_of new ≡ desk_of old → afterwards ≡ everywhere
  stays_so same =
      changes_so (desk_of old) same ∙ ap (λ (s : Site). with_site everywhere me s) (sym is_there)
      ∙ site_again everywhere me

  -- and one that leaves it down
  stops_so : desk_of new ≡ stopped (desk_of old)
      → with_site everywhere me (stopped_site (site_at everywhere me)) ≡ afterwards
  stops_so same =
      ap (λ (s : Site). with_site everywhere me (stopped_site s)) is_there ∙ sym (changes_so (stopped (desk_of old)) same)

  abbrev item : Option Bytes
  item = text_at trade me old.chronicle.entries (slice_get (box (half trade me old.chronicle.entries) address) place)

  abbrev play : Luck → Played
  play luck = plays_box trade box address place luck everywhere

  module _ (luck : Luck) where
    abbrev shows : ℕ → Half → Played
    shows provider half = shown trade luck everywhere provider (slice_get (box half address) place)

    shown_by : (found : Option Posted)
        → shown trade luck everywhere me found
        ≡ shown_bytes luck everywhere me (option_and_then (item_text trade me old.chronicle.entries) found)
    shown_by None = refl
    shown_by (Some posted) =
        ap (λ (s : Site). shown_bytes luck everywhere me (item_text trade me s.journal posted)) is_there

    open_shows : trade.is_account me address ≡ true → old.chronicle.down ≡ false
        → play luck ≡ shown_bytes luck everywhere me item
    open_shows account up =
        ours {X = Bytes} trade everywhere address shows (λ bytes. Shown bytes) me (desk_of old) boxes
        (waiting_for waiting me) home is_there account
        ∙ at_work (ap not up)
        ∙ shown_by (slice_get (box (half trade me old.chronicle.entries) address) place)
      where
        at_work : not old.chronicle.down ≡ true
            → (if not old.chronicle.down then shows me (half trade me old.chronicle.entries)
            else answers everywhere (Refuses faults.Down))
            ≡ shows me (half trade me old.chronicle.entries)
        at_work e = rw e refl

    refused_so : (fault : ProviderFault) (r : Result Bytes ProviderFault) → r ≡ Err fault
        → IfErr r (IsUnasked (trade.is_account me address) (not old.chronicle.down))
        → IsShown (λ (bytes : Bytes). Shown bytes) (play luck) everywhere r
    refused_so fault (Ok bytes) e unasked = absurd (cc)
    refused_so fault (Err other) e unasked =
        shown_so trade everywhere address shows (λ (bytes : Bytes). Shown bytes) me (desk_of old) boxes
        (waiting_for waiting me) home is_there old.chronicle.down refl (Err other) tt unasked tt

  is_open : (down : Bool) → not down ≡ true → down ≡ false
  is_open false e = refl
  is_open true e = absurd (cc)

  there_is : (o : Option Bytes) → IsSome o → (bytes : Bytes) × (o ≡ Some bytes)
  there_is None some = absurd (cc)
  there_is (Some bytes) some = (bytes, refl)

  -- how the read failed is told
  stops_on : (fault : ProviderFault) → trade.is_account me address ≡ true → not old.chronicle.down ≡ true → IsSome item
      → desk_of new ≡ stopped (desk_of old)
      → play (luck_of_read (Some fault) None) ≡ record { answer = Refuses fault; after = afterwards }
  stops_on fault account up some same =
      open_shows (luck_of_read (Some fault) None) account (is_open old.chronicle.down up)
      ∙ ap (λ (o : Option Bytes). shown_bytes (luck_of_read (Some fault) None) everywhere me o) (there_is item some).1
      ∙ ap (λ (s : List Site). record { answer = Refuses fault; after = s }) (stops_so same)

  -- ---- what is shown

  -- the bytes that are shown, where they aren't the item's
  pub record Shows (Stood : Type 0) (bytes : Bytes) : Type 0 where
    pub other : Option Bytes
    pub kept : Stood → other ≡ None
    pub is : play (luck_of_read None other) ≡ answers everywhere (Shown bytes)

  shows_so : (Stood : Type 0) (bytes text : Bytes) → trade.is_account me address ≡ true → old.chronicle.down ≡ false
      → item ≡ Some text → (Stood → item ≡ Some bytes) → (text ≡ bytes) ⊎ (text ≡ bytes → ⊥) → Shows Stood bytes
  shows_so Stood bytes text account up is kept (inl same) = record {
    other = None;
    kept = λ stood. refl;
    is = open_shows (luck_of_read None None) account up
        ∙ ap (λ (o : Option Bytes). shown_bytes (luck_of_read None None) everywhere me o) is
        ∙ ap (λ (b : Bytes). answers everywhere (Shown b)) same;
  }
  shows_so Stood bytes text account up is kept (inr apart) = record {
    other = Some bytes;
    kept = λ stood. absurd (apart (same_Some text bytes (sym is ∙ kept stood)));
    is = open_shows (luck_of_read None (Some bytes)) account up
        ∙ ap (λ (o : Option Bytes). shown_bytes (luck_of_read None (Some bytes)) everywhere me o) is;
  }

  -- What a call that reads answers, of a result that may be any.
  pub record IsReadHere {X : Type 0} (Stood : Type 0) (tells : X → Answer) (r : Result X ProviderFault) : Type 0 where
    pub other : Option Bytes
    pub kept : Stood → other ≡ None
    pub is : IsReadSo tells (λ (read : Option ProviderFault). play (luck_of_read read other)) everywhere afterwards r

  pub show_so : (Stood : Type 0) (r : Result (Vec ℕ Global) ProviderFault) → Reads (desk_of old) (desk_of new) r
      → OnOk r ((trade.is_account me address ≡ true) × (old.chronicle.down ≡ false)) → OnOk r (IsSome item)
      → IfErr r (IsUnshown (trade.is_account me address) (not old.chronicle.down) item)
      → (Stood → IfOk r (λ bytes. item ≡ Some bytes.items))
      → IsReadHere Stood (λ (bytes : Vec ℕ Global). Shown bytes.items) r
  show_so Stood (Ok bytes) reads asked some refused found =
      let there = there_is item some in
      let shows = shows_so Stood bytes.items there.0 asked.0 asked.1 there.1 found
      (lists_same cases_eq there.0 bytes.items) in
      record { other = shows.other; kept = shows.kept; is = (shows.is, stays_so reads) }
  show_so Stood (Err faults.DiskFault) reads asked some refused found = record {
    other = None;
    kept = λ stood. refl;
    is = stops_on faults.DiskFault refused.0 refused.1 refused.2 reads.2;
  }
  show_so Stood (Err (faults.Changed number)) reads asked some refused found = record {
    other = None;
    kept = λ stood. refl;
    is = stops_on (faults.Changed number) refused.0 refused.1 refused.2 reads.2;
  }
  show_so Stood (Err faults.NoMemory) reads asked some refused found =
      record { other = None; kept = λ stood. refl; is = stays_so reads }
  show_so Stood (Err faults.NoItem) reads asked some refused found = record {
    other = None;
    kept = λ stood. refl;
    is = (
      open_shows (luck_of_read None None) refused.0 (is_open old.chronicle.down refused.1)
          ∙ ap (λ (o : Option Bytes). shown_bytes (luck_of_read None None) everywhere me o) refused.2,
      stays_so reads,
    );
  }
  show_so Stood (Err faults.NoAccount) reads asked some refused found = record {
    other = None;
    kept = λ stood. refl;
    is = (refused_so (luck_of_read None None) faults.NoAccount (Err faults.NoAccount) refl refused, stays_so reads);
  }
  show_so Stood (Err faults.Down) reads asked some refused found = record {
    other = None;
    kept = λ stood. refl;
    is = (refused_so (luck_of_read None None) faults.Down (Err faults.Down) refl refused, stays_so reads);
  }
  show_so Stood (Err (faults.ClockBack moment)) reads asked some refused found = absurd refused
  show_so Stood (Err faults.Full) reads asked some refused found = absurd refused
  show_so Stood (Err faults.JournalFull) reads asked some refused found = absurd refused
  show_so Stood (Err faults.OldJournal) reads asked some refused found = absurd refused
  show_so Stood (Err faults.NoNeed) reads asked some refused found = absurd refused
