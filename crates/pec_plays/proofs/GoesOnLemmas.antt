-- Each command only appends: every journal goes on as it was.
use Rattle.std.proofs.Common.{ℕ, List, [], ◌∷◌, Bool, true, false, inl, inr, length, refl, ap, sym, subst, ◌∙◌, nat_lt, Option, Some, None}
use Rattle.std.specs.Prelude.{slice_get, slice_set, if◌then◌else◌, ◌==◌}
use Rattle.std.specs.Option.{unwrap_or}
use Rattle.std.proofs.lemmas.Bool.{cases_lt}
use Rattle.std.proofs.lemmas.List.{append-nil}
use Rattle.pec_types.specs.Bytes.{Bytes, Path}
use Rattle.pec_types.specs.declared.messages.TheConstants.{MESSAGES}
use Rattle.pec_types.specs.declared.turns.ProviderFault.{ProviderFault}
use Rattle.pec_records.specs.declared.entries.Entry.{Entry}
use Rattle.pec_records.specs.declared.entries.Entry.TheVariants as entries
use Rattle.pec_screen.specs.Verdicts.{Patterns}
use Rattle.pec_ledger.specs.Along.{GoesOnAs}
use Rattle.pec_ledger.specs.Books.{archive_lines, book, mailbox_lines}
use Rattle.pec_ledger.specs.Half.{Half, Posted}
use Rattle.pec_ledger.specs.Items.{item_text}
use Rattle.pec_ledger.specs.Lookups.{archive, mailbox}
use Rattle.pec_ledger.specs.Network.{Site, chosen, frames_between, journal_at, site_at}
use Rattle.pec_ledger.specs.Trade.{Trade}
use Rattle.pec_plays.specs.Commands.{Answer, Command, Luck, Played, Submit, Tick, Round, Lose, Repeat, Swap, Inject, Crash, Restart, Book, Mailbox, Show, Lines, Items, account_home, answers, append, appended, asked, at_work, injected, lost, messages_at, played, put_again, read_back, restarted, restarted_site, shown, shown_bytes, stopped_site, submitted, swapped, swapped_at, with_entry, with_frames, with_site, Archive, Upgrade, Vault, VaultShow, Vaults, Screen, archived, finds_at, items_at, screened, upgraded, version_at, with_screens}
use Rattle.pec_plays.specs.Rounds.{link_size, rounded, turns_of, with_waiting}
use Rattle.pec_plays.specs.Steps.{has_no_room}
use Rattle.pec_plays.specs.Turns.{broken, last_of}
use Rattle.pec_plays.proofs.DeliveryLemmas.{after_is, past_the_end}
use Rattle.pec_plays.proofs.SiteLemmas.{put_cases}
use Rattle.pec_plays.proofs.ToldLemmas.{turn_tells}
use Rattle.pec_plays.specs.Rounds.{rooms_of}

itself : (es : List Entry) → GoesOnAs es es
itself es = ([], sym (append-nil es))

module _ (trade : Trade) (sites : List Site) where
  abbrev pub GoOn : List Site → Type 0
  GoOn after = (q : ℕ) → GoesOnAs (journal_at sites q) (journal_at after q)

  as_they_are : GoOn sites
  as_they_are q = itself (journal_at sites q)

  with_one : (p : ℕ) (site : Site) → GoesOnAs (journal_at sites p) site.journal → GoOn (with_site sites p site)
  with_one p site more q =
      elim (put_cases sites p q site) [
        | inl same ↦ subst (λ (s : Site). GoesOnAs (journal_at sites q) s.journal) (sym same.1)
            (subst (λ (k : ℕ). GoesOnAs (journal_at sites k) site.journal) (sym same.0) more)
        | inr unchanged ↦ subst (λ (s : Site). GoesOnAs (journal_at sites q) s.journal) (sym unchanged) (itself (journal_at sites q))
      ]

  by_test : (b : Bool) (x y : Played) → GoOn x.after → GoOn y.after → GoOn (if b then x else y).after
  by_test true x y a b = a
  by_test false x y a b = b

  appended_goes_on : (fails : Bool) (p : ℕ) (entry : Entry) (answer : Answer) → GoOn (appended fails sites p entry answer).after
  appended_goes_on true p entry answer = with_one p (broken (site_at sites p) (Some entry)) (itself (journal_at sites p))
  appended_goes_on false p entry answer = with_one p (with_entry (site_at sites p) entry) (entry ∷ [], refl)

  append_goes_on : (luck : Luck) (p : ℕ) (entry : Entry) (answer : Answer) → GoOn (append trade luck sites p entry answer).after
  append_goes_on luck p entry answer =
      by_test (has_no_room trade p (journal_at sites p) entry) _ (appended luck.fails sites p entry answer) as_they_are (appended_goes_on luck.fails p entry answer)

  work_goes_on : (p now : ℕ) (done : Played) → GoOn done.after → GoOn (at_work trade sites p now done).after
  work_goes_on p now done more =
      by_test (site_at sites p).up _ _ (by_test (nat_lt now (last_of trade p (journal_at sites p))) _ done as_they_are more) as_they_are

  submitted_goes_on : (luck : Luck) (p now : ℕ) (sender : Bytes) (path : Path) (message : Bytes) (found : Bool) → GoOn (submitted trade luck sites p now sender path message found).after
  submitted_goes_on luck p now sender path message found =
      by_test (trade.is_account p sender) _ _
      (work_goes_on p now _ (by_test (nat_lt (messages_at trade sites p) MESSAGES) _ _ (append_goes_on luck p _ _) as_they_are)) as_they_are

  archived_goes_on : (luck : Luck) (found : Option ℕ) (now : ℕ) (account : Bytes) (place : ℕ) → GoOn (archived trade luck sites found now account place).after
  archived_goes_on luck None now account place = as_they_are
  archived_goes_on luck (Some p) now account place =
      work_goes_on p now _
      (by_test (nat_lt place (items_at trade sites p account)) _ _
      (by_test (version_at trade sites p == 2) _ _ (append_goes_on luck p (entries.Archived now account place) _) as_they_are) as_they_are)

  upgraded_goes_on : (luck : Luck) (p now : ℕ) → GoOn (upgraded trade luck sites p now).after
  upgraded_goes_on luck p now =
      work_goes_on p now _ (by_test (version_at trade sites p == 1) _ _ (append_goes_on luck p (entries.Upgraded now) _) as_they_are)

  screened_goes_on : (p place : ℕ) (spare : Option Patterns) → GoOn (screened sites p place spare).after
  screened_goes_on p place None = as_they_are
  screened_goes_on p place (Some patterns) =
      by_test (site_at sites p).up _ _
      (by_test (nat_lt place (length (site_at sites p).screens)) _ _
      (with_one p (with_screens (site_at sites p) (slice_set (site_at sites p).screens place patterns)) (itself (journal_at sites p))) as_they_are) as_they_are

  frames_go_on : (from to : ℕ) (frames : List Bytes) → GoOn (with_frames sites from to frames)
  frames_go_on from to frames = with_one to (with_waiting (site_at sites to) (slice_set (site_at sites to).waiting from frames)) (itself (journal_at sites to))

  lost_goes_on : (from to place : ℕ) → GoOn (lost sites from to place).after
  lost_goes_on from to place = by_test (nat_lt place (length (frames_between sites from to))) _ _ (frames_go_on from to _) as_they_are

  again_goes_on : (from to : ℕ) (found : Option Bytes) → GoOn (put_again sites from to found).after
  again_goes_on from to None = as_they_are
  again_goes_on from to (Some frame) = by_test (nat_lt (length (frames_between sites from to)) link_size) _ _ (frames_go_on from to _) as_they_are

  swapped_goes_on : (from to : ℕ) (found : Option (List Bytes)) → GoOn (swapped sites from to found).after
  swapped_goes_on from to None = as_they_are
  swapped_goes_on from to (Some frames) = frames_go_on from to frames

  injected_goes_on : (from to : ℕ) (frame : Bytes) → GoOn (injected sites from to frame).after
  injected_goes_on from to frame = by_test (nat_lt (length (frames_between sites from to)) link_size) _ _ (frames_go_on from to _) as_they_are

  restarted_goes_on : (luck : Luck) (p : ℕ) → GoOn (restarted luck sites p (site_at sites p)).after
  restarted_goes_on luck p =
      by_test (site_at sites p).up _ _ as_they_are
      (by_test luck.fails _ _ as_they_are
      (with_one p (restarted_site luck.found (site_at sites p)) (chosen luck.found (site_at sites p).interrupted, refl)))

  rounded_goes_on : (now : ℕ) (luck : Luck) → GoOn (rounded trade now luck.cuts sites).sites
  unfolding rounded turns_of
  rounded_goes_on now luck q =
      elim (cases_lt q (length sites)) [
        | inl l ↦
            let turn = turn_tells trade q now (rooms_of sites q) (site_at sites q) (luck.cuts q)
            in (turn.more, ap (λ (s : Site). s.journal) (after_is trade now luck.cuts sites q l) ∙ turn.journal)
        | inr l ↦ ([], ap (λ (s : Site). s.journal) (past_the_end trade now luck.cuts sites q l) ∙ sym (append-nil (journal_at sites q)))
      ]

  asked_goes_on : (show : ℕ → Half → Played) (found : Option ℕ) → ((p : ℕ) (h : Half) → GoOn (show p h).after) → GoOn (asked sites show trade found).after
  asked_goes_on show None same = as_they_are
  asked_goes_on show (Some p) same = by_test (site_at sites p).up _ _ (same p _) as_they_are

  read_goes_on : (read : Option ProviderFault) (bytes : Bytes) (p : ℕ) → GoOn (read_back read bytes sites p).after
  read_goes_on None bytes p = as_they_are
  read_goes_on (Some fault) bytes p = with_one p (stopped_site (site_at sites p)) (itself (journal_at sites p))

  bytes_go_on : (luck : Luck) (p : ℕ) (text : Option Bytes) → GoOn (shown_bytes luck sites p text).after
  bytes_go_on luck p None = as_they_are
  bytes_go_on luck p (Some bytes) = read_goes_on luck.read (unwrap_or luck.shown bytes) p

  shown_goes_on : (luck : Luck) (p : ℕ) (found : Option Posted) → GoOn (shown trade luck sites p found).after
  shown_goes_on luck p None = as_they_are
  shown_goes_on luck p (Some posted) = bytes_go_on luck p (item_text trade p (journal_at sites p) posted)

  pub played_goes_on : (luck : Luck) (command : Command) → GoOn (played trade luck sites command).after
  unfolding played
  played_goes_on luck (Submit p now sender path message) = submitted_goes_on luck p now sender path message (finds_at sites p message)
  played_goes_on luck (Tick p now) = work_goes_on p now _ (append_goes_on luck p (entries.Ticked now) _)
  played_goes_on luck (Round now) = rounded_goes_on now luck
  played_goes_on luck (Lose from to place) = lost_goes_on from to place
  played_goes_on luck (Repeat from to place) = again_goes_on from to (slice_get (frames_between sites from to) place)
  played_goes_on luck (Swap from to place) = swapped_goes_on from to (swapped_at place (frames_between sites from to))
  played_goes_on luck (Inject from to frame) = injected_goes_on from to frame
  played_goes_on luck (Crash p) = with_one p (stopped_site (site_at sites p)) (itself (journal_at sites p))
  played_goes_on luck (Restart p) = restarted_goes_on luck p
  played_goes_on luck (Book address) =
      asked_goes_on (λ (p : ℕ) (h : Half). answers sites (Lines (book trade p h address))) (account_home trade address (trade.home address)) (λ p h. as_they_are)
  played_goes_on luck (Mailbox address) =
      asked_goes_on (λ (p : ℕ) (h : Half). answers sites (Items (mailbox_lines h address))) (account_home trade address (trade.home address)) (λ p h. as_they_are)
  played_goes_on luck (Show address place) =
      asked_goes_on (λ (p : ℕ) (h : Half). shown trade luck sites p (slice_get (mailbox h address) place)) (account_home trade address (trade.home address))
      (λ p h. shown_goes_on luck p (slice_get (mailbox h address) place))
  played_goes_on luck (Archive address now place) = archived_goes_on luck (account_home trade address (trade.home address)) now address place
  played_goes_on luck (Upgrade p now) = upgraded_goes_on luck p now
  played_goes_on luck (Vault address) =
      asked_goes_on (λ (p : ℕ) (h : Half). answers sites (Vaults (archive_lines h address))) (account_home trade address (trade.home address)) (λ p h. as_they_are)
  played_goes_on luck (VaultShow address place) =
      asked_goes_on (λ (p : ℕ) (h : Half). shown trade luck sites p (slice_get (archive h address) place)) (account_home trade address (trade.home address))
      (λ p h. shown_goes_on luck p (slice_get (archive h address) place))
  played_goes_on luck (Screen p place spare) = screened_goes_on p place spare
