-- Each command but a round leads to a state that may come next.
use Rattle.std.proofs.Common.{◌≡◌, ℕ, zero, suc, ◌+◌, ◌<◌, ◌≤◌, List, [], ◌∷◌, ◌++◌, Bool, true, false, inl, inr, length, take, drop, refl, ap, sym, subst, ◌∙◌, arith, nat_lt, Option, Some, None}
use Rattle.std.specs.Prelude.{All, IsSome, slice_index_or, slice_set, slice_get, ◌==◌, if◌then◌else◌}
use Rattle.std.proofs.lemmas.Bool.{cases_eq, cases_lt, eqb-true, ltb-false, ltb-true}
use Rattle.std.proofs.lemmas.List.{append-nil, get_or-set_other, get_or-set_same, set_past}
use Rattle.std.proofs.lemmas.List.Elements.{All-append, All-drop, All-push, All-take}
use Rattle.std.proofs.lemmas.Option.{none-some, same_Some}
use Rattle.std.specs.Option.{unwrap_or}
use Rattle.pec_types.specs.Bytes.{Bytes, Path}
use Rattle.pec_types.specs.declared.messages.Cause.{Cause}
use Rattle.pec_types.specs.declared.messages.TheConstants.{MESSAGES}
use Rattle.pec_types.specs.declared.moments.TheConstants.{END_OF_TIME}
use Rattle.pec_types.specs.declared.turns.ProviderFault.{ProviderFault}
use Rattle.pec_records.specs.Entry.{most_addresses}
use Rattle.pec_records.specs.declared.entries.Entry.{Entry}
use Rattle.pec_records.specs.declared.entries.Entry.TheVariants as entries
use Rattle.pec_ledger.specs.Half.{Half, Posted}
use Rattle.pec_ledger.specs.Items.{item_text}
use Rattle.pec_screen.specs.Verdicts.{Patterns}
use Rattle.pec_ledger.specs.Ledger.{Follows, Journals, Meets}
use Rattle.pec_ledger.specs.Network.{AreGenuine, IsGenuine, IsNext, Site, Sound, frames_between, journal_at, journals_of, site_at, Stays, Appends, Fails, Restarts}
use Rattle.pec_ledger.specs.Own.{Own}
use Rattle.pec_ledger.specs.Steps.{half, moment_of}
use Rattle.pec_ledger.specs.Trade.{Trade}
use Rattle.pec_ledger.specs.TradeLaws.{IsTrade}
use Rattle.pec_plays.specs.Commands.{Answer, Luck, Played, append, appended, asked, at_work, entry_by, injected, lost, messages_at, put_again, read_back, restarted, restarted_site, screened_cause, shown, shown_bytes, stopped_site, submitted, swapped, swapped_at, ticked, with_entry, with_frames, with_site, account_home, archived, items_at, screened, upgraded, version_at, with_screens}
use Rattle.pec_plays.specs.Rounds.{link_size, with_waiting}
use Rattle.pec_plays.specs.Steps.{has_no_room}
use Rattle.pec_plays.specs.Turns.{broken, last_of}
use Rattle.pec_plays.proofs.SiteLemmas.{StateLaws, next_as_it_was, next_with, none_interrupted}

-- ---- the entry of a submission

module _ (trade : Trade) (world : IsTrade trade) (p now : ℕ) (es : List Entry) where
  pub entry_own : (sender : Bytes) (path : Path) (message : Bytes) (found : Bool) (cause : Option Cause) → trade.cause p sender path message ≡ cause
      → trade.is_account p sender ≡ true → length (half trade p es).messages < MESSAGES → 0 < length path → length path ≤ most_addresses
      → Own trade p (half trade p es) (entry_by (screened_cause found cause) now sender path message)
      × (moment_of (entry_by (screened_cause found cause) now sender path message) ≡ now)
  entry_own sender path message false None e account room some few =
      let admitted = world.admitted p sender path message e
      in ((room, account, record { facts = admitted.0; are = admitted.1; sent = admitted.2; few = let l = admitted.4 in omega arith }), refl)
  entry_own sender path message true None e account room some few = ((room, account, some, few), refl)
  entry_own sender path message found (Some cause) e account room some few = ((room, account, some, few), refl)

  pub entry_meets : (J : Journals) (sender : Bytes) (path : Path) (message : Bytes) (found : Bool) (cause : Option Cause) → trade.cause p sender path message ≡ cause
      → trade.is_account p sender ≡ true → length (half trade p es).messages < MESSAGES → 0 < length path → length path ≤ most_addresses
      → (half trade p es).last ≤ now → now < END_OF_TIME
      → Meets trade J p (half trade p es) (entry_by (screened_cause found cause) now sender path message)
  entry_meets J sender path message false None e account room some few time range =
      let admitted = world.admitted p sender path message e
      in record {
        own = (entry_own sender path message false None e account room some few).0;
        in_time = time;
        in_range = range;
        joint = record { facts = admitted.0; are = admitted.1; none = admitted.3 };
      }
  entry_meets J sender path message true None e account room some few time range =
      record { own = (entry_own sender path message true None e account room some few).0; in_time = time; in_range = range; joint = inr (refl, e) }
  entry_meets J sender path message found (Some cause) e account room some few time range =
      record { own = (entry_own sender path message found (Some cause) e account room some few).0; in_time = time; in_range = range; joint = inl e }

-- ---- the provider of an account

pub account_so : (trade : Trade) (account : Bytes) (found : Option ℕ) (p : ℕ) → account_home trade account found ≡ Some p → trade.is_account p account ≡ true
account_so trade account None p e = absurd (none-some p e)
account_so trade account (Some q) p e = by (trade.is_account q account) refl e
  where
    by : (t : Bool) → trade.is_account q account ≡ t → (if t then Some q else None) ≡ Some p → trade.is_account p account ≡ true
    by true is f = subst (λ (k : ℕ). trade.is_account k account ≡ true) (same_Some q p f) is
    by false is f = absurd (none-some p f)

module _ (trade : Trade) (world : IsTrade trade) (laws : StateLaws trade) where
  -- ---- appends

  one_follows : (sites : List Site) (p : ℕ) (entry : Entry) → Meets trade (journals_of sites) p (half trade p (journal_at sites p)) entry
      → Follows trade (journals_of sites) p (half trade p (journal_at sites p)) (entry ∷ [])
  one_follows sites p entry meets = (meets, tt)

  next_appended : (fails : Bool) (sites : List Site) (p : ℕ) (entry : Entry) (answer : Answer) → Sound trade sites → (site_at sites p).up ≡ true
      → Meets trade (journals_of sites) p (half trade p (journal_at sites p)) entry → IsNext trade sites (appended fails sites p entry answer).after
  next_appended true sites p entry answer sound up meets =
      next_with trade laws sites p (broken (site_at sites p) (Some entry)) sound
      (λ new e.
      Fails [] entry (none_interrupted trade laws sites p sound up) (ap (λ (s : Site). s.interrupted) e) (ap (λ (s : Site). s.up) e)
      (ap (λ (s : Site). s.journal) e ∙ sym (append-nil (journal_at sites p))) (one_follows sites p entry meets))
      (λ from. sound.genuine from p)
  next_appended false sites p entry answer sound up meets =
      next_with trade laws sites p (with_entry (site_at sites p) entry) sound
      (λ new e.
      Appends (entry ∷ []) (none_interrupted trade laws sites p sound up)
      (ap (λ (s : Site). s.interrupted) e ∙ none_interrupted trade laws sites p sound up)
      (ap (λ (s : Site). s.journal) e) (one_follows sites p entry meets))
      (λ from. sound.genuine from p)

  by_test : (sites : List Site) (b : Bool) (x y : Played) → (b ≡ true → IsNext trade sites x.after) → (b ≡ false → IsNext trade sites y.after)
      → IsNext trade sites (if b then x else y).after
  by_test sites true x y taken passed = taken refl
  by_test sites false x y taken passed = passed refl

  next_append : (luck : Luck) (sites : List Site) (p : ℕ) (entry : Entry) (answer : Answer) → Sound trade sites → (site_at sites p).up ≡ true
      → Meets trade (journals_of sites) p (half trade p (journal_at sites p)) entry → IsNext trade sites (append trade luck sites p entry answer).after
  next_append luck sites p entry answer sound up meets =
      by_test sites (has_no_room trade p (journal_at sites p) entry) _ (appended luck.fails sites p entry answer) (λ e. next_as_it_was trade laws sites sound)
      (λ e. next_appended luck.fails sites p entry answer sound up meets)

  next_at_work : (sites : List Site) (p now : ℕ) (done : Played) → Sound trade sites
      → ((site_at sites p).up ≡ true → last_of trade p (journal_at sites p) ≤ now → IsNext trade sites done.after) → IsNext trade sites (at_work trade sites p now done).after
  next_at_work sites p now done sound more =
      by_test sites (site_at sites p).up _ _
      (λ up. by_test sites (nat_lt now (last_of trade p (journal_at sites p))) _ done (λ e. next_as_it_was trade laws sites sound)
      (λ e. more up (ltb-false now (last_of trade p (journal_at sites p)) e)))
      (λ e. next_as_it_was trade laws sites sound)

  -- ---- submissions

  pub next_submitted : (luck : Luck) (sites : List Site) (p now : ℕ) (sender : Bytes) (path : Path) (message : Bytes) (found : Bool) → Sound trade sites
      → 0 < length path → length path ≤ most_addresses → now < END_OF_TIME → IsNext trade sites (submitted trade luck sites p now sender path message found).after
  next_submitted luck sites p now sender path message found sound some few range =
      by_test sites (trade.is_account p sender) _ _
      (λ account. next_at_work sites p now _ sound
      (λ up time. by_test sites (nat_lt (messages_at trade sites p) MESSAGES) _ _
      (λ room. next_append luck sites p (entry_by (screened_cause found (trade.cause p sender path message)) now sender path message) _ sound up
      (entry_meets trade world p now (journal_at sites p) (journals_of sites) sender path message found (trade.cause p sender path message) refl account
      (ltb-true (messages_at trade sites p) MESSAGES room) some few time range))
      (λ e. next_as_it_was trade laws sites sound)))
      (λ e. next_as_it_was trade laws sites sound)

  -- ---- clock calls

  pub next_ticked : (luck : Luck) (sites : List Site) (p now : ℕ) → Sound trade sites → now < END_OF_TIME → IsNext trade sites (ticked trade luck sites p now).after
  next_ticked luck sites p now sound range =
      next_at_work sites p now _ sound
      (λ up time. next_append luck sites p (entries.Ticked now) _ sound up (record { own = tt; in_time = time; in_range = range; joint = tt }))

  -- ---- archives

  pub next_archived : (luck : Luck) (sites : List Site) (found : Option ℕ) (now : ℕ) (account : Bytes) (place : ℕ) → Sound trade sites → now < END_OF_TIME
      → ((p : ℕ) → found ≡ Some p → trade.is_account p account ≡ true) → IsNext trade sites (archived trade luck sites found now account place).after
  next_archived luck sites None now account place sound range is = next_as_it_was trade laws sites sound
  next_archived luck sites (Some p) now account place sound range is =
      next_at_work sites p now _ sound
      (λ up time. by_test sites (nat_lt place (items_at trade sites p account)) _ _
      (λ there. by_test sites (version_at trade sites p == 2) _ _
      (λ two. next_append luck sites p (entries.Archived now account place) _ sound up
      (record {
        own = (eqb-true (version_at trade sites p) 2 two, is p refl, ltb-true place (items_at trade sites p account) there);
        in_time = time;
        in_range = range;
        joint = tt;
      }))
      (λ old. next_as_it_was trade laws sites sound))
      (λ none. next_as_it_was trade laws sites sound))

  pub next_upgraded : (luck : Luck) (sites : List Site) (p now : ℕ) → Sound trade sites → now < END_OF_TIME → IsNext trade sites (upgraded trade luck sites p now).after
  next_upgraded luck sites p now sound range =
      next_at_work sites p now _ sound
      (λ up time. by_test sites (version_at trade sites p == 1) _ _
      (λ one. next_append luck sites p (entries.Upgraded now) _ sound up
      (record { own = eqb-true (version_at trade sites p) 1 one; in_time = time; in_range = range; joint = tt }))
      (λ new. next_as_it_was trade laws sites sound))

  -- ---- screens

  pub next_screened : (sites : List Site) (p place : ℕ) (spare : Option Patterns) → Sound trade sites → IsNext trade sites (screened sites p place spare).after
  next_screened sites p place None sound = next_as_it_was trade laws sites sound
  next_screened sites p place (Some patterns) sound =
      by_test sites (site_at sites p).up _ _
      (λ up. by_test sites (nat_lt place (length (site_at sites p).screens)) _ _
      (λ there. next_with trade laws sites p (with_screens (site_at sites p) (slice_set (site_at sites p).screens place patterns)) sound
      (λ new e.
      Stays (ap (λ (s : Site). s.journal) e) (ap (λ (s : Site). s.interrupted) e)
      (λ some. ap (λ (s : Site). s.up) e ∙ sound.down p (subst (λ (i : Option Entry). IsSome i) (ap (λ (s : Site). s.interrupted) e) some)))
      (λ from. sound.genuine from p))
      (λ none. next_as_it_was trade laws sites sound))
      (λ down. next_as_it_was trade laws sites sound)

  -- ---- links

  put_genuine : (J : Journals) (links : List (List Bytes)) (from k : ℕ) (frames : List Bytes) → AreGenuine trade J frames
      → AreGenuine trade J (slice_index_or links k []) → AreGenuine trade J (slice_index_or (slice_set links from frames) k [])
  put_genuine J links from k frames good old =
      elim (cases_lt from (length links)) [
        | inl within ↦ elim (cases_eq k from) [
          | inl same ↦ subst (AreGenuine trade J) (sym (ap (λ (n : ℕ). slice_index_or (slice_set links from frames) n []) same ∙ get_or-set_same links from frames [] within)) good
          | inr other ↦ subst (AreGenuine trade J) (sym (get_or-set_other links from k frames [] other)) old
        ]
        | inr past ↦ subst (AreGenuine trade J) (sym (ap (λ (l : List (List Bytes)). slice_index_or l k []) (set_past links from frames past))) old
      ]

  -- other frames on one link
  next_frames : (sites : List Site) (from to : ℕ) (frames : List Bytes) → Sound trade sites → AreGenuine trade (journals_of sites) frames
      → IsNext trade sites (with_frames sites from to frames)
  next_frames sites from to frames sound good =
      next_with trade laws sites to (with_waiting (site_at sites to) (slice_set (site_at sites to).waiting from frames)) sound
      (λ new e.
      Stays (ap (λ (s : Site). s.journal) e) (ap (λ (s : Site). s.interrupted) e)
      (λ some. ap (λ (s : Site). s.up) e ∙ sound.down to (subst (λ (i : Option Entry). IsSome i) (ap (λ (s : Site). s.interrupted) e) some)))
      (λ k. put_genuine (journals_of sites) (site_at sites to).waiting from k frames good (sound.genuine k to))

  pub next_lost : (sites : List Site) (from to place : ℕ) → Sound trade sites → IsNext trade sites (lost sites from to place).after
  next_lost sites from to place sound =
      let frames = frames_between sites from to
      in by_test sites (nat_lt place (length frames)) _ _
      (λ e. next_frames sites from to (take place frames ++ drop (place + 1) frames) sound
      (All-append (IsGenuine trade (journals_of sites)) (take place frames) (drop (place + 1) frames)
      (All-take (IsGenuine trade (journals_of sites)) place frames (sound.genuine from to))
      (All-drop (IsGenuine trade (journals_of sites)) (place + 1) frames (sound.genuine from to))))
      (λ e. next_as_it_was trade laws sites sound)

  at_place : {X : Type 0} (P : X → Type 0) (xs : List X) (n : ℕ) (x : X) → All P xs → slice_get xs n ≡ Some x → P x
  at_place P [] n x all e = absurd (none-some x e)
  at_place P (y ∷ xs) zero x all e = subst P (same_Some y x e) (all 0 y (omega arith))
  at_place P (y ∷ xs) (suc n) x all e = at_place P xs n x (λ k d l. all (suc k) d (omega arith)) e

  next_one_more : (sites : List Site) (from to : ℕ) (frame : Bytes) (answer : Answer) → Sound trade sites → IsGenuine trade (journals_of sites) frame
      → IsNext trade sites (with_frames sites from to (frames_between sites from to ++ frame ∷ []))
  next_one_more sites from to frame answer sound good =
      next_frames sites from to (frames_between sites from to ++ frame ∷ []) sound
      (All-push (IsGenuine trade (journals_of sites)) (frames_between sites from to) frame (sound.genuine from to) good)

  pub next_put_again : (sites : List Site) (from to place : ℕ) (found : Option Bytes) → slice_get (frames_between sites from to) place ≡ found
      → Sound trade sites → IsNext trade sites (put_again sites from to found).after
  next_put_again sites from to place None e sound = next_as_it_was trade laws sites sound
  next_put_again sites from to place (Some frame) e sound =
      by_test sites (nat_lt (length (frames_between sites from to)) link_size) _ _
      (λ room. next_frames sites from to (frames_between sites from to ++ frame ∷ []) sound
      (All-push (IsGenuine trade (journals_of sites)) (frames_between sites from to) frame (sound.genuine from to)
      (at_place (IsGenuine trade (journals_of sites)) (frames_between sites from to) place frame (sound.genuine from to) e)))
      (λ full. next_as_it_was trade laws sites sound)

  swapped_genuine : (J : Journals) (place : ℕ) (frames : List Bytes) (b : Bool) (after : List Bytes)
      → (if b then Some (take place frames ++ take 1 (drop (place + 1) frames) ++ take 1 (drop place frames) ++ drop (place + 2) frames) else None) ≡ Some after
      → AreGenuine trade J frames → AreGenuine trade J after
  swapped_genuine J place frames true after e good =
      let P = IsGenuine trade J
      in subst (AreGenuine trade J) (same_Some _ after e)
      (All-append P (take place frames ++ take 1 (drop (place + 1) frames) ++ take 1 (drop place frames)) (drop (place + 2) frames)
      (All-append P (take place frames ++ take 1 (drop (place + 1) frames)) (take 1 (drop place frames))
      (All-append P (take place frames) (take 1 (drop (place + 1) frames)) (All-take P place frames good)
      (All-take P 1 (drop (place + 1) frames) (All-drop P (place + 1) frames good)))
      (All-take P 1 (drop place frames) (All-drop P place frames good)))
      (All-drop P (place + 2) frames good))
  swapped_genuine J place frames false after e good = absurd (none-some after e)

  pub next_swapped : (sites : List Site) (from to place : ℕ) (found : Option (List Bytes)) → swapped_at place (frames_between sites from to) ≡ found
      → Sound trade sites → IsNext trade sites (swapped sites from to found).after
  next_swapped sites from to place None e sound = next_as_it_was trade laws sites sound
  next_swapped sites from to place (Some frames) e sound =
      next_frames sites from to frames sound
      (swapped_genuine (journals_of sites) place (frames_between sites from to) (nat_lt (place + 1) (length (frames_between sites from to))) frames e (sound.genuine from to))

  pub next_injected : (sites : List Site) (from to : ℕ) (frame : Bytes) → Sound trade sites → IsGenuine trade (journals_of sites) frame
      → IsNext trade sites (injected sites from to frame).after
  next_injected sites from to frame sound good =
      by_test sites (nat_lt (length (frames_between sites from to)) link_size) _ _
      (λ room. next_frames sites from to (frames_between sites from to ++ frame ∷ []) sound
      (All-push (IsGenuine trade (journals_of sites)) (frames_between sites from to) frame (sound.genuine from to) good))
      (λ full. next_as_it_was trade laws sites sound)

  -- ---- crashes

  pub next_crashed : (sites : List Site) (p : ℕ) → Sound trade sites → IsNext trade sites (with_site sites p (stopped_site (site_at sites p)))
  next_crashed sites p sound =
      next_with trade laws sites p (stopped_site (site_at sites p)) sound
      (λ new e.
      Stays (ap (λ (s : Site). s.journal) e) (ap (λ (s : Site). s.interrupted) e) (λ some. ap (λ (s : Site). s.up) e))
      (λ from. sound.genuine from p)

  pub next_restarted : (luck : Luck) (sites : List Site) (p : ℕ) → Sound trade sites → IsNext trade sites (restarted luck sites p (site_at sites p)).after
  next_restarted luck sites p sound =
      by_test sites (site_at sites p).up _ _ (λ e. next_as_it_was trade laws sites sound)
      (λ down. by_test sites luck.fails _ _ (λ e. next_as_it_was trade laws sites sound)
      (λ e. next_with trade laws sites p (restarted_site luck.found (site_at sites p)) sound
      (λ new f. Restarts luck.found (ap (λ (s : Site). s.journal) f) (ap (λ (s : Site). s.interrupted) f))
      (λ from. sound.genuine from p)))

  -- ---- what accounts are shown

  pub next_asked : (sites : List Site) (show : ℕ → Half → Played) (found : Option ℕ) → Sound trade sites
      → ((provider : ℕ) (half : Half) → IsNext trade sites (show provider half).after) → IsNext trade sites (asked sites show trade found).after
  next_asked sites show None sound next = next_as_it_was trade laws sites sound
  next_asked sites show (Some p) sound next =
      by_test sites (site_at sites p).up _ _ (λ up. next p (half trade p (journal_at sites p))) (λ down. next_as_it_was trade laws sites sound)

  next_read : (read : Option ProviderFault) (bytes : Bytes) (sites : List Site) (p : ℕ) → Sound trade sites → IsNext trade sites (read_back read bytes sites p).after
  next_read None bytes sites p sound = next_as_it_was trade laws sites sound
  next_read (Some fault) bytes sites p sound = next_crashed sites p sound

  next_bytes : (luck : Luck) (sites : List Site) (p : ℕ) (text : Option Bytes) → Sound trade sites → IsNext trade sites (shown_bytes luck sites p text).after
  next_bytes luck sites p None sound = next_as_it_was trade laws sites sound
  next_bytes luck sites p (Some bytes) sound = next_read luck.read (unwrap_or luck.shown bytes) sites p sound

  pub next_shown : (luck : Luck) (sites : List Site) (p : ℕ) (found : Option Posted) → Sound trade sites → IsNext trade sites (shown trade luck sites p found).after
  next_shown luck sites p None sound = next_as_it_was trade laws sites sound
  next_shown luck sites p (Some posted) sound = next_bytes luck sites p (item_text trade p (journal_at sites p) posted) sound
