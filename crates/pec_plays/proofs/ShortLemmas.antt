-- No command makes a link longer than 64 frames.
use Rattle.std.proofs.Common.{◌≡◌, ℕ, ◌+◌, ◌≤◌, List, [], ◌∷◌, ◌++◌, Bool, true, false, length, take, drop, refl, ap, sym, arith, nat_lt, Option, Some, None}
use Rattle.std.specs.Prelude.{if◌then◌else◌, slice_set, ◌==◌}
use Rattle.std.specs.Option.{unwrap_or}
use Rattle.std.proofs.lemmas.Bool.{ltb-true}
use Rattle.std.proofs.lemmas.List.{length-append, length-drop, length-take}
use Rattle.std.proofs.lemmas.Option.{none-some, same_Some}
use Rattle.pec_types.specs.Bytes.{Bytes, Path}
use Rattle.pec_types.specs.declared.messages.TheConstants.{MESSAGES}
use Rattle.pec_types.specs.declared.turns.ProviderFault.{ProviderFault}
use Rattle.pec_records.specs.declared.entries.Entry.{Entry}
use Rattle.pec_records.specs.declared.entries.Entry.TheVariants as entries
use Rattle.pec_ledger.specs.Half.{Half, Posted}
use Rattle.pec_ledger.specs.Items.{item_text}
use Rattle.pec_ledger.specs.Network.{Site, frames_between, journal_at, site_at}
use Rattle.pec_ledger.specs.Steps.{half}
use Rattle.pec_ledger.specs.Trade.{Trade}
use Rattle.pec_plays.specs.Commands.{Answer, Luck, Played, append, appended, asked, at_work, injected, lost, messages_at, put_again, read_back, restarted, restarted_site, shown, shown_bytes, stopped_site, submitted, swapped, swapped_at, ticked, with_entry, with_site, archived, items_at, screened, upgraded, version_at, with_screens}
use Rattle.pec_screen.specs.Verdicts.{Patterns}
use Rattle.pec_plays.specs.Rounds.{link_size}
use Rattle.pec_plays.specs.Scripts.{LinksAreShort}
use Rattle.pec_plays.specs.Steps.{has_no_room}
use Rattle.pec_plays.specs.Turns.{broken, last_of}
use Rattle.pec_plays.proofs.LinkLemmas.{short_frames, short_with}

by_test : (b : Bool) (x y : Played) → (b ≡ true → LinksAreShort x.after) → (b ≡ false → LinksAreShort y.after) → LinksAreShort (if b then x else y).after
by_test true x y taken passed = taken refl
by_test false x y taken passed = passed refl

module _ (trade : Trade) (sites : List Site) (short : LinksAreShort sites) where
  short_appended : (fails : Bool) (p : ℕ) (entry : Entry) (answer : Answer) → LinksAreShort (appended fails sites p entry answer).after
  short_appended true p entry answer = short_with sites p (broken (site_at sites p) (Some entry)) short (λ from. short from p)
  short_appended false p entry answer = short_with sites p (with_entry (site_at sites p) entry) short (λ from. short from p)

  short_append : (luck : Luck) (p : ℕ) (entry : Entry) (answer : Answer) → LinksAreShort (append trade luck sites p entry answer).after
  short_append luck p entry answer =
      by_test (has_no_room trade p (journal_at sites p) entry) _ (appended luck.fails sites p entry answer) (λ e. short)
      (λ e. short_appended luck.fails p entry answer)

  short_at_work : (p now : ℕ) (done : Played) → LinksAreShort done.after → LinksAreShort (at_work trade sites p now done).after
  short_at_work p now done more =
      by_test (site_at sites p).up _ _
      (λ up. by_test (nat_lt now (last_of trade p (journal_at sites p))) _ done (λ e. short) (λ e. more)) (λ e. short)

  pub short_submitted : (luck : Luck) (p now : ℕ) (sender : Bytes) (path : Path) (message : Bytes) (found : Bool) → LinksAreShort (submitted trade luck sites p now sender path message found).after
  short_submitted luck p now sender path message found =
      by_test (trade.is_account p sender) _ _
      (λ account. short_at_work p now _ (by_test (nat_lt (messages_at trade sites p) MESSAGES) _ _ (λ room. short_append luck p _ _) (λ e. short)))
      (λ e. short)

  pub short_ticked : (luck : Luck) (p now : ℕ) → LinksAreShort (ticked trade luck sites p now).after
  short_ticked luck p now = short_at_work p now _ (short_append luck p (entries.Ticked now) _)

  pub short_archived : (luck : Luck) (found : Option ℕ) (now : ℕ) (account : Bytes) (place : ℕ) → LinksAreShort (archived trade luck sites found now account place).after
  short_archived luck None now account place = short
  short_archived luck (Some p) now account place =
      short_at_work p now _
      (by_test (nat_lt place (items_at trade sites p account)) _ _
      (λ there. by_test (version_at trade sites p == 2) _ _ (λ two. short_append luck p (entries.Archived now account place) _) (λ old. short))
      (λ none. short))

  pub short_upgraded : (luck : Luck) (p now : ℕ) → LinksAreShort (upgraded trade luck sites p now).after
  short_upgraded luck p now =
      short_at_work p now _ (by_test (version_at trade sites p == 1) _ _ (λ one. short_append luck p (entries.Upgraded now) _) (λ new. short))

  pub short_screened : (p place : ℕ) (spare : Option Patterns) → LinksAreShort (screened sites p place spare).after
  short_screened p place None = short
  short_screened p place (Some patterns) =
      by_test (site_at sites p).up _ _
      (λ up. by_test (nat_lt place (length (site_at sites p).screens)) _ _
      (λ there. short_with sites p (with_screens (site_at sites p) (slice_set (site_at sites p).screens place patterns)) short (λ from. short from p))
      (λ none. short))
      (λ down. short)

  pub short_lost : (from to place : ℕ) → LinksAreShort (lost sites from to place).after
  short_lost from to place =
      let frames = frames_between sites from to
      in by_test (nat_lt place (length frames)) _ _
      (λ e. short_frames sites from to (take place frames ++ drop (place + 1) frames) short
      (let l = ltb-true place (length frames) e
      in let a = length-append (take place frames) (drop (place + 1) frames)
      in let b = length-take place frames
      in let c = length-drop (place + 1) frames
      in let d = short from to
      in omega (arith, l, a, b, c, d)))
      (λ e. short)

  one_more : (from to : ℕ) (frame : Bytes) → nat_lt (length (frames_between sites from to)) link_size ≡ true → length (frames_between sites from to ++ frame ∷ []) ≤ link_size
  one_more from to frame e =
      let l = ltb-true (length (frames_between sites from to)) link_size e
      in let a = length-append (frames_between sites from to) (frame ∷ [])
      in omega (arith, l, a)

  pub short_put_again : (from to : ℕ) (found : Option Bytes) → LinksAreShort (put_again sites from to found).after
  short_put_again from to None = short
  short_put_again from to (Some frame) =
      by_test (nat_lt (length (frames_between sites from to)) link_size) _ _
      (λ room. short_frames sites from to (frames_between sites from to ++ frame ∷ []) short (one_more from to frame room)) (λ full. short)

  pub short_injected : (from to : ℕ) (frame : Bytes) → LinksAreShort (injected sites from to frame).after
  short_injected from to frame =
      by_test (nat_lt (length (frames_between sites from to)) link_size) _ _
      (λ room. short_frames sites from to (frames_between sites from to ++ frame ∷ []) short (one_more from to frame room)) (λ full. short)

  swapped_length : (place : ℕ) (frames after : List Bytes) (b : Bool) → nat_lt (place + 1) (length frames) ≡ b
      → (if b then Some (take place frames ++ take 1 (drop (place + 1) frames) ++ take 1 (drop place frames) ++ drop (place + 2) frames) else None) ≡ Some after
      → length after ≤ length frames
  swapped_length place frames after true t e =
      let l = ltb-true (place + 1) (length frames) t
      in let same = ap length (sym (same_Some _ after e))
      in let a = length-append (take place frames ++ take 1 (drop (place + 1) frames) ++ take 1 (drop place frames)) (drop (place + 2) frames)
      in let b = length-append (take place frames ++ take 1 (drop (place + 1) frames)) (take 1 (drop place frames))
      in let c = length-append (take place frames) (take 1 (drop (place + 1) frames))
      in let d = length-take place frames
      in let f = length-take 1 (drop (place + 1) frames)
      in let g = length-take 1 (drop place frames)
      in let h = length-drop (place + 2) frames
      in omega (arith, l, same, a, b, c, d, f, g, h)
  swapped_length place frames after false t e = absurd (none-some after e)

  pub short_swapped : (from to place : ℕ) (found : Option (List Bytes)) → swapped_at place (frames_between sites from to) ≡ found → LinksAreShort (swapped sites from to found).after
  short_swapped from to place None e = short
  short_swapped from to place (Some frames) e =
      short_frames sites from to frames short
      (let l = swapped_length place (frames_between sites from to) frames (nat_lt (place + 1) (length (frames_between sites from to))) refl e
      in let d = short from to
      in omega (arith, l, d))

  pub short_crashed : (p : ℕ) → LinksAreShort (with_site sites p (stopped_site (site_at sites p)))
  short_crashed p = short_with sites p (stopped_site (site_at sites p)) short (λ from. short from p)

  pub short_restarted : (luck : Luck) (p : ℕ) → LinksAreShort (restarted luck sites p (site_at sites p)).after
  short_restarted luck p =
      by_test (site_at sites p).up _ _ (λ e. short)
      (λ down. by_test luck.fails _ _ (λ e. short)
      (λ e. short_with sites p (restarted_site luck.found (site_at sites p)) short (λ from. short from p)))

  pub short_asked : (show : ℕ → Half → Played) (found : Option ℕ) → ((provider : ℕ) (half : Half) → LinksAreShort (show provider half).after) → LinksAreShort (asked sites show trade found).after
  short_asked show None more = short
  short_asked show (Some p) more = by_test (site_at sites p).up _ _ (λ up. more p (half trade p (journal_at sites p))) (λ down. short)

  short_read : (read : Option ProviderFault) (bytes : Bytes) (p : ℕ) → LinksAreShort (read_back read bytes sites p).after
  short_read None bytes p = short
  short_read (Some fault) bytes p = short_crashed p

  short_bytes : (luck : Luck) (p : ℕ) (text : Option Bytes) → LinksAreShort (shown_bytes luck sites p text).after
  short_bytes luck p None = short
  short_bytes luck p (Some bytes) = short_read luck.read (unwrap_or luck.shown bytes) p

  pub short_shown : (luck : Luck) (p : ℕ) (found : Option Posted) → LinksAreShort (shown trade luck sites p found).after
  short_shown luck p None = short
  short_shown luck p (Some posted) = short_bytes luck p (item_text trade p (journal_at sites p) posted)
