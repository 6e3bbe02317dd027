-- An answer settles the state behind it: of two lucks with one answer the state is one.
use Rattle.std.proofs.Common.{◌≡◌, ℕ, suc, ◌+◌, ◌-◌, ◌≤◌, min, List, [], ◌∷◌, ◌++◌, Bool, true, false, inl, inr, length, take, drop, map, refl, ap, sym, subst, ◌∙◌, arith, nat_lt, Option, Some, None}
use Rattle.std.specs.Prelude.{slice_get, if◌then◌else◌, ◌==◌}
use Rattle.std.specs.List.{AllByRecursion}
use Rattle.std.specs.Option.{option_and_then, option_to_list, unwrap_or}
use Rattle.std.proofs.lemmas.Bool.{cases_lt, false≢true}
use Rattle.std.proofs.lemmas.List.{drop_all, length-append, length-map, length-take, take_all}
use Rattle.std.proofs.lemmas.Option.{none-some, same_Some, slice_get_past}
use Rattle.pec_types.specs.Bytes.{Bytes, Path}
use Rattle.pec_types.specs.declared.turns.Event.{Event}
use Rattle.pec_types.specs.declared.turns.ProviderFault.{ProviderFault}
use Rattle.pec_types.specs.declared.turns.ProviderFault.TheVariants as faults
use Rattle.pec_types.specs.declared.turns.Turn.{Turn}
use Rattle.pec_types.specs.declared.messages.TheConstants.{MESSAGES}
use Rattle.pec_records.specs.declared.entries.Entry.{Entry}
use Rattle.pec_records.specs.declared.entries.Entry.TheVariants as entries
use Rattle.pec_ledger.specs.Half.{Half, Posted}
use Rattle.pec_ledger.specs.Items.{item_text}
use Rattle.pec_ledger.specs.Lookups.{archive, mailbox}
use Rattle.pec_ledger.specs.Network.{Site, chosen, journal_at, site_at}
use Rattle.pec_ledger.specs.Steps.{half}
use Rattle.pec_ledger.specs.Trade.{Trade}
use Rattle.pec_plays.specs.Commands.{Answer, Command, Luck, Played, IsUp, Turns, Restarted, Refuses, Submit, Tick, Round, Lose, Repeat, Swap, Inject, Crash, Restart, Book, Mailbox, Show, account_home, answers, append, appended, asked, at_work, messages_at, played, read_back, restarted, restarted_site, shown, shown_bytes, submitted, ticked, with_site, Archive, Upgrade, Vault, VaultShow, Archived, Upgraded, Screen, archived, finds_at, items_at, upgraded, version_at}
use Rattle.pec_plays.specs.Decisions.{Looks, kept_looks}
use Rattle.pec_plays.specs.Possible.{AllReadAlike, GaveWhatWasKept, IsOfKept, IsOfRead, ReadAlike, is_looked}
use Rattle.pec_plays.specs.Reception.{arrive}
use Rattle.pec_plays.specs.Rounds.{delivered, outs_of, rooms_of, rounded, told_from, turns_from, turns_of}
use Rattle.pec_plays.specs.Scripts.{script}
use Rattle.pec_plays.specs.Steps.{Step, has_no_room}
use Rattle.pec_plays.specs.Turns.{Cut, Turned, Whole, Fails, Full, Stops, Unread, Other, Sees, behind, broken, cut_turn, entries_of, entry_at, events_of, frames_in, last_of, plan, steps_of, stopped, turned, without_first}
use Rattle.pec_plays.proofs.LooksLemmas.{steps_kept}

-- ---- tests that both sides make

abbrev pub Settled : Played → Played → Type 0
Settled x y = x.answer ≡ y.answer → x.after ≡ y.after

settled_by : (b : Bool) (x y z : Played) → Settled x y → Settled (if b then x else z) (if b then y else z)
settled_by true x y z s = s
settled_by false x y z s = λ e. refl

settled_else : (b : Bool) (x y z : Played) → Settled x y → Settled (if b then z else x) (if b then z else y)
settled_else true x y z s = λ e. refl
settled_else false x y z s = s

-- ---- appends

abbrev is_refusal : Answer → Bool
is_refusal (Refuses fault) = true
is_refusal _ = false

appended_settled : (a b : Bool) (sites : List Site) (p : ℕ) (entry : Entry) (answer : Answer) → is_refusal answer ≡ false
    → Settled (appended a sites p entry answer) (appended b sites p entry answer)
appended_settled true true sites p entry answer n = λ e. refl
appended_settled false false sites p entry answer n = λ e. refl
appended_settled true false sites p entry answer n = λ e. absurd (let t = ap is_refusal e ∙ n in cc)
appended_settled false true sites p entry answer n = λ e. absurd (let t = sym (ap is_refusal e) ∙ n in cc)

module _ (trade : Trade) (sites : List Site) (a b : Luck) where
  append_settled : (p : ℕ) (entry : Entry) (answer : Answer) → is_refusal answer ≡ false
      → Settled (append trade a sites p entry answer) (append trade b sites p entry answer)
  append_settled p entry answer n =
      settled_else (has_no_room trade p (journal_at sites p) entry) (appended a.fails sites p entry answer) (appended b.fails sites p entry answer)
      (answers sites (Refuses faults.JournalFull)) (appended_settled a.fails b.fails sites p entry answer n)

  work_settled : (p now : ℕ) (x y : Played) → Settled x y → Settled (at_work trade sites p now x) (at_work trade sites p now y)
  work_settled p now x y s =
      settled_by (site_at sites p).up _ _ (answers sites (Refuses faults.Down))
      (settled_else (nat_lt now (last_of trade p (journal_at sites p))) x y (answers sites (Refuses (faults.ClockBack (last_of trade p (journal_at sites p))))) s)

  submitted_settled : (p now : ℕ) (sender : Bytes) (path : Path) (message : Bytes) (found : Bool)
      → Settled (submitted trade a sites p now sender path message found) (submitted trade b sites p now sender path message found)
  submitted_settled p now sender path message found =
      settled_by (trade.is_account p sender) _ _ (answers sites (Refuses faults.NoAccount))
      (work_settled p now _ _
      (settled_by (nat_lt (messages_at trade sites p) MESSAGES) _ _ (answers sites (Refuses faults.Full)) (append_settled p _ _ refl)))

  ticked_settled : (p now : ℕ) → Settled (ticked trade a sites p now) (ticked trade b sites p now)
  ticked_settled p now = work_settled p now _ _ (append_settled p (entries.Ticked now) _ refl)

  archived_settled : (found : Option ℕ) (now : ℕ) (account : Bytes) (place : ℕ)
      → Settled (archived trade a sites found now account place) (archived trade b sites found now account place)
  archived_settled None now account place = λ e. refl
  archived_settled (Some p) now account place =
      work_settled p now _ _
      (settled_by (nat_lt place (items_at trade sites p account)) _ _ (answers sites (Refuses faults.NoItem))
      (settled_by (version_at trade sites p == 2) _ _ (answers sites (Refuses faults.OldJournal))
      (append_settled p (entries.Archived now account place) Archived refl)))

  upgraded_settled : (p now : ℕ) → Settled (upgraded trade a sites p now) (upgraded trade b sites p now)
  upgraded_settled p now =
      work_settled p now _ _
      (settled_by (version_at trade sites p == 1) _ _ (answers sites (Refuses faults.NoNeed)) (append_settled p (entries.Upgraded now) Upgraded refl))

  -- ---- restarts

  found_so : (site : Site) (x y : Bool) (i : Option Entry) → site.interrupted ≡ i
      → length (site.journal ++ chosen x i) ≡ length (site.journal ++ chosen y i) → chosen x i ≡ chosen y i
  found_so site true true i is e = refl
  found_so site false false i is e = refl
  found_so site true false None is e = refl
  found_so site false true None is e = refl
  found_so site true false (Some entry) is e =
      absurd (let m = length-append site.journal (entry ∷ []) in let n = length-append {A = Entry} site.journal [] in omega (arith, e, m, n))
  found_so site false true (Some entry) is e =
      absurd (let m = length-append site.journal (entry ∷ []) in let n = length-append {A = Entry} site.journal [] in omega (arith, e, m, n))

  abbrev count_in : Answer → ℕ
  count_in (Restarted n) = n
  count_in _ = 0

  restarted_so : (p : ℕ) (site : Site) (x y : Bool) → Settled
      (record { answer = Restarted (length (restarted_site x site).journal); after = with_site sites p (restarted_site x site) })
      (record { answer = Restarted (length (restarted_site y site).journal); after = with_site sites p (restarted_site y site) })
  restarted_so p site x y e =
      ap (λ (more : List Entry). with_site sites p (record (site) { journal = site.journal ++ more; up = true; interrupted = None }))
      (found_so site x y site.interrupted refl (ap count_in e))

  works_or_not : (x y : Bool) (z u v : Played) → is_refusal z.answer ≡ true → is_refusal u.answer ≡ false → is_refusal v.answer ≡ false → Settled u v
      → Settled (if x then z else u) (if y then z else v)
  works_or_not true true z u v f g h s = λ e. refl
  works_or_not false false z u v f g h s = s
  works_or_not true false z u v f g h s = λ e. absurd (let t = sym f ∙ ap is_refusal e ∙ h in cc)
  works_or_not false true z u v f g h s = λ e. absurd (let t = sym g ∙ ap is_refusal e ∙ f in cc)

  restarted_settled : (p : ℕ) (site : Site) → Settled (restarted a sites p site) (restarted b sites p site)
  restarted_settled p site =
      settled_else site.up _ _ _ (works_or_not a.fails b.fails (answers sites (Refuses faults.DiskFault)) _ _ refl refl refl (restarted_so p site a.found b.found))

  -- ---- items

  read_settled : (p : ℕ) (x y : Option ProviderFault) (b c : Bytes) → Settled (read_back x b sites p) (read_back y c sites p)
  read_settled p None None b c = λ e. refl
  read_settled p (Some f) (Some g) b c = λ e. refl
  read_settled p None (Some g) b c = λ e. absurd (let t = ap is_refusal e in cc)
  read_settled p (Some f) None b c = λ e. absurd (let t = ap is_refusal e in cc)

  bytes_settled : (p : ℕ) (text : Option Bytes) → Settled (shown_bytes a sites p text) (shown_bytes b sites p text)
  bytes_settled p None = λ e. refl
  bytes_settled p (Some bytes) = read_settled p a.read b.read (unwrap_or a.shown bytes) (unwrap_or b.shown bytes)

  shown_settled : (p : ℕ) (found : Option Posted) → Settled (shown trade a sites p found) (shown trade b sites p found)
  shown_settled p None = λ e. refl
  shown_settled p (Some posted) = bytes_settled p (item_text trade p (journal_at sites p) posted)

  asked_settled : (f g : ℕ → Half → Played) (found : Option ℕ) → ((p : ℕ) (h : Half) → Settled (f p h) (g p h))
      → Settled (asked sites f trade found) (asked sites g trade found)
  asked_settled f g None same = λ e. refl
  asked_settled f g (Some p) same =
      settled_by (site_at sites p).up _ _ (answers sites (Refuses faults.Down)) (same p (half trade p (journal_at sites p)))

-- ---- turns

none_left : (n : ℕ) (links : List (List Bytes)) → length (frames_in links) ≤ n → without_first n links ≡ map (λ (link : List Bytes). []) links
none_left n [] l = refl
none_left n (link ∷ links) l =
    let all = length-append link (frames_in links)
    in both (drop n link) [] (without_first (n - length link) links) (map (λ (link : List Bytes). []) links) (drop_all n link (omega (arith, l, all)))
    (none_left (n - length link) links (omega (arith, l, all)))
  where
    both : (x y : List Bytes) (xs ys : List (List Bytes)) → x ≡ y → xs ≡ ys → x ∷ xs ≡ y ∷ ys
    both x y xs ys e f = rw (e, f) refl

sites_so : (site : Site) (steps : List Step) (n m : ℕ) → take n steps ≡ take m steps → without_first (n + 1) site.waiting ≡ without_first (m + 1) site.waiting
    → behind site (take n steps) (n + 1) ≡ behind site (take m steps) (m + 1)
sites_so site steps n m e f =
    ap (λ (s : List Step). behind site s (n + 1)) e
    ∙ ap (λ (links : List (List Bytes)). record { journal = site.journal ++ entries_of (take m steps); up = site.up; interrupted = site.interrupted; screens = site.screens; waiting = links }) f

-- two steps at which a turn ended are one, as far as it can be seen
pub record SameEnd (site : Site) (steps : List Step) (n m : ℕ) : Type 0 where
  pub told : take n steps ≡ take m steps
  pub entry : entry_at steps n ≡ entry_at steps m
  pub left : without_first (n + 1) site.waiting ≡ without_first (m + 1) site.waiting

past_the_steps : (site : Site) (steps : List Step) (n m : ℕ) → length (frames_in site.waiting) ≤ length steps → length steps ≤ n → length steps ≤ m → SameEnd site steps n m
past_the_steps site steps n m few l k = record {
  told = take_all n steps l ∙ sym (take_all m steps k);
  entry = ap (option_and_then (λ (step : Step). step.entry)) (slice_get_past steps n l)
      ∙ sym (ap (option_and_then (λ (step : Step). step.entry)) (slice_get_past steps m k));
  left = none_left (n + 1) site.waiting (omega (arith, few, l)) ∙ sym (none_left (m + 1) site.waiting (omega (arith, few, k)));
}

pub same_end : (site : Site) (steps : List Step) (n m : ℕ) → length (frames_in site.waiting) ≤ length steps
    → events_of (take n steps) ≡ events_of (take m steps) → SameEnd site steps n m
same_end site steps n m few e =
    let f = ap length e
    in let g : length (events_of (take n steps)) ≡ length (take n steps) = length-map (take n steps) (λ (step : Step). step.event)
    in let h : length (events_of (take m steps)) ≡ length (take m steps) = length-map (take m steps) (λ (step : Step). step.event)
    in let equal : min n (length steps) ≡ min m (length steps) = sym (length-take n steps) ∙ sym g ∙ f ∙ h ∙ length-take m steps
    in elim (cases_lt n m) [
      | inl l ↦ past_the_steps site steps n m few (omega (arith, l, equal)) (omega (arith, l, equal))
      | inr l ↦ elim (cases_lt m n) [
        | inl k ↦ past_the_steps site steps n m few (omega (arith, k, equal)) (omega (arith, k, equal))
        | inr k ↦ subst (λ (i : ℕ). SameEnd site steps n i) (let same : n ≡ m = omega (arith, l, k) in same) (record { told = refl; entry = refl; left = refl })
      ]
    ]

pub ended_so : (site : Site) (steps : List Step) (n m : ℕ) (fault : ProviderFault) → SameEnd site steps n m → stopped site steps n fault ≡ stopped site steps m fault
ended_so site steps n m fault same =
    turns_so (behind site (take n steps) (n + 1)) (behind site (take m steps) (m + 1)) (events_of (take n steps)) (events_of (take m steps))
    (sites_so site steps n m same.told same.left) (ap events_of same.told)
  where
    turns_so : (x y : Site) (es fs : List Event) → x ≡ y → es ≡ fs
        → (let t : Turned = record { site = x; events = es; out = []; ended = Some fault } in let u : Turned = record { site = y; events = fs; out = []; ended = Some fault } in t ≡ u)
    turns_so x y es fs e f = rw (e, f) refl

failed_so : (site : Site) (steps : List Step) (n m : ℕ) (f g : ProviderFault) → SameEnd site steps n m → f ≡ g
    → record (stopped site steps n f) { site = broken (behind site (take n steps) (n + 1)) (entry_at steps n) }
    ≡ record (stopped site steps m g) { site = broken (behind site (take m steps) (m + 1)) (entry_at steps m) }
failed_so site steps n m f g same e =
    ap (λ (t : Turned). record t { site = broken t.site (entry_at steps n) }) (ended_so site steps n m f same)
    ∙ ap (λ (i : Option Entry). record (stopped site steps m f) { site = broken (behind site (take m steps) (m + 1)) i }) same.entry
    ∙ ap (λ (h : ProviderFault). record (stopped site steps m h) { site = broken (behind site (take m steps) (m + 1)) (entry_at steps m) }) e

-- a turn that ended so, with an entry that is interrupted or none
abbrev pub ended_with : Site → List Step → ℕ → ProviderFault → Option Entry → Turned
ended_with site steps n fault entry = record (stopped site steps n fault) { site = broken (behind site (take n steps) (n + 1)) entry }

pub unread_so : (site : Site) (steps : List Step) (n m : ℕ) (f g : ProviderFault) → SameEnd site steps n m → f ≡ g
    → ended_with site steps n f None ≡ ended_with site steps m g None
unread_so site steps n m f g same e =
    ap (λ (t : Turned). record t { site = broken t.site None }) (ended_so site steps n m f same)
    ∙ ap (λ (h : ProviderFault). ended_with site steps m h None) e

-- a fault of a read is neither that of a full journal nor want of memory
pub not_full : (fault : ProviderFault) → IsOfRead fault → Some fault ≡ Some faults.JournalFull → ⊥
not_full fault read e = subst IsOfRead (same_Some fault faults.JournalFull e) read

pub not_stopped : (fault : ProviderFault) → IsOfRead fault → Some fault ≡ Some faults.NoMemory → ⊥
not_stopped fault read e = subst IsOfRead (same_Some fault faults.NoMemory e) read

-- the fault by which a turn ended
abbrev code : Option ProviderFault → ℕ
code None = 0
code (Some faults.DiskFault) = 1
code (Some faults.JournalFull) = 2
code (Some faults.NoMemory) = 3
code (Some _) = 4

pub cut_settled : (trade : Trade) (p : ℕ) (rooms : ℕ → ℕ) (site : Site) (steps : List Step) (a b : Cut) → length (frames_in site.waiting) ≤ length steps
    → IsOfKept a → IsOfKept b → is_looked a ≡ is_looked b
    → (cut_turn trade p rooms site steps a).events ≡ (cut_turn trade p rooms site steps b).events
    → (cut_turn trade p rooms site steps a).ended ≡ (cut_turn trade p rooms site steps b).ended
    → cut_turn trade p rooms site steps a ≡ cut_turn trade p rooms site steps b
cut_settled trade p rooms site steps Whole Whole few k l i e f = refl
cut_settled trade p rooms site steps (Fails n x) (Fails m y) few k l i e f = failed_so site steps n m x y (same_end site steps n m few e) (same_Some x y f)
cut_settled trade p rooms site steps (Full n) (Full m) few k l i e f = ended_so site steps n m faults.JournalFull (same_end site steps n m few e)
cut_settled trade p rooms site steps (Stops n) (Stops m) few k l i e f = ended_so site steps n m faults.NoMemory (same_end site steps n m few e)
cut_settled trade p rooms site steps Whole (Fails m y) few k l i e f = absurd (none-some y f)
cut_settled trade p rooms site steps Whole (Full m) few k l i e f = absurd (let c = ap code f in omega (arith, c))
cut_settled trade p rooms site steps Whole (Stops m) few k l i e f = absurd (let c = ap code f in omega (arith, c))
cut_settled trade p rooms site steps (Fails n x) Whole few k l i e f = absurd (none-some x (sym f))
cut_settled trade p rooms site steps (Fails n x) (Full m) few k l i e f = absurd (not_full x k f)
cut_settled trade p rooms site steps (Fails n x) (Stops m) few k l i e f = absurd (not_stopped x k f)
cut_settled trade p rooms site steps (Full n) Whole few k l i e f = absurd (let c = ap code f in omega (arith, c))
cut_settled trade p rooms site steps (Full n) (Fails m y) few k l i e f = absurd (not_full y l (sym f))
cut_settled trade p rooms site steps (Full n) (Stops m) few k l i e f = absurd (let c = ap code f in omega (arith, c))
cut_settled trade p rooms site steps (Stops n) Whole few k l i e f = absurd (let c = ap code f in omega (arith, c))
cut_settled trade p rooms site steps (Stops n) (Fails m y) few k l i e f = absurd (not_stopped y l (sym f))
cut_settled trade p rooms site steps (Stops n) (Full m) few k l i e f = absurd (let c = ap code f in omega (arith, c))
cut_settled trade p rooms site steps (Other x) b few k l i e f = absurd k
cut_settled trade p rooms site steps a (Other y) few k l i e f = absurd l
cut_settled trade p rooms site steps (Sees x a) b few k l i e f = absurd k
cut_settled trade p rooms site steps a (Sees y b) few k l i e f = absurd l
cut_settled trade p rooms site steps (Unread n x) (Unread m y) few k l i e f = unread_so site steps n m x y (same_end site steps n m few e) (same_Some x y f)
cut_settled trade p rooms site steps (Unread n x) Whole few k l i e f = absurd (false≢true i)
cut_settled trade p rooms site steps (Unread n x) (Fails m y) few k l i e f = absurd (false≢true i)
cut_settled trade p rooms site steps (Unread n x) (Full m) few k l i e f = absurd (false≢true i)
cut_settled trade p rooms site steps (Unread n x) (Stops m) few k l i e f = absurd (false≢true i)
cut_settled trade p rooms site steps Whole (Unread m y) few k l i e f = absurd (false≢true (sym i))
cut_settled trade p rooms site steps (Fails n x) (Unread m y) few k l i e f = absurd (false≢true (sym i))
cut_settled trade p rooms site steps (Full n) (Unread m y) few k l i e f = absurd (false≢true (sym i))
cut_settled trade p rooms site steps (Stops n) (Unread m y) few k l i e f = absurd (false≢true (sym i))

module _ (trade : Trade) (now : ℕ) where
  pub more_steps : (p : ℕ) (looks : Looks) (es : List Entry) (frames : List Bytes) → length frames ≤ length (plan trade p now looks es frames)
  more_steps p looks es [] = omega arith
  more_steps p looks es (frame ∷ frames) = suc_le (more_steps p looks (es ++ option_to_list (arrive trade p now es frame).entry) frames)
    where
      suc_le : {n m : ℕ} → n ≤ m → suc n ≤ suc m
      suc_le l = omega (arith, l)

  by_test : (c : Bool) (x y z : Turned) → (x.events ≡ y.events → x.ended ≡ y.ended → x ≡ y)
      → (if c then x else z).events ≡ (if c then y else z).events → (if c then x else z).ended ≡ (if c then y else z).ended
      → (if c then x else z) ≡ (if c then y else z)
  by_test true x y z s = s
  by_test false x y z s = λ e f. refl

  else_test : (c : Bool) (x y z : Turned) → (x.events ≡ y.events → x.ended ≡ y.ended → x ≡ y)
      → (if c then z else x).events ≡ (if c then z else y).events → (if c then z else x).ended ≡ (if c then z else y).ended
      → (if c then z else x) ≡ (if c then z else y)
  else_test true x y z s = λ e f. refl
  else_test false x y z s = s

  -- the steps of both turns are one
  cut_as_told : (p : ℕ) (rooms : ℕ → ℕ) (site : Site) (taken left : List Step) (a b : Cut) → taken ≡ steps_of trade p now site Whole → left ≡ steps_of trade p now site Whole
      → IsOfKept a → IsOfKept b → is_looked a ≡ is_looked b
      → (cut_turn trade p rooms site taken a).events ≡ (cut_turn trade p rooms site left b).events
      → (cut_turn trade p rooms site taken a).ended ≡ (cut_turn trade p rooms site left b).ended
      → cut_turn trade p rooms site taken a ≡ cut_turn trade p rooms site left b
  cut_as_told p rooms site taken left a b same alike k l i e f =
      let steps = steps_of trade p now site Whole
      in let one : cut_turn trade p rooms site taken a ≡ cut_turn trade p rooms site steps a = ap (λ (s : List Step). cut_turn trade p rooms site s a) same
      in let other : cut_turn trade p rooms site left b ≡ cut_turn trade p rooms site steps b = ap (λ (s : List Step). cut_turn trade p rooms site s b) alike
      in one
      ∙ cut_settled trade p rooms site steps a b (more_steps p (kept_looks trade p site.screens) site.journal (frames_in site.waiting)) k l i
      (sym (ap (λ (t : Turned). t.events) one) ∙ e ∙ ap (λ (t : Turned). t.events) other)
      (sym (ap (λ (t : Turned). t.ended) one) ∙ f ∙ ap (λ (t : Turned). t.ended) other)
      ∙ sym other

  turned_settled : (p : ℕ) (rooms : ℕ → ℕ) (site : Site) (a b : Cut) → IsOfKept a → IsOfKept b → is_looked a ≡ is_looked b
      → (turned trade p now rooms a site).events ≡ (turned trade p now rooms b site).events
      → (turned trade p now rooms a site).ended ≡ (turned trade p now rooms b site).ended
      → turned trade p now rooms a site ≡ turned trade p now rooms b site
  unfolding turned
  turned_settled p rooms site a b k l i =
      by_test site.up _ _ _
      (else_test (nat_lt now (last_of trade p site.journal)) _ _ _
      (cut_as_told p rooms site (steps_of trade p now site a) (steps_of trade p now site b) a b (steps_kept trade p now site a k) (steps_kept trade p now site b l) k l i))

  abbrev events_in : List Turn → List Event
  events_in [] = []
  events_in (turn ∷ turns) = turn.events

  abbrev ended_in : List Turn → Option ProviderFault
  ended_in [] = None
  ended_in (turn ∷ turns) = turn.ended

  abbrev tail_of : List Turn → List Turn
  tail_of [] = []
  tail_of (turn ∷ turns) = turns

  both_turns : (x y : Turned) (xs ys : List Turned) → x ≡ y → xs ≡ ys → x ∷ xs ≡ y ∷ ys
  both_turns x y xs ys e f = rw (e, f) refl

  turns_settled : (all : List Site) (a b : ℕ → Cut) → ((p : ℕ) → IsOfKept (a p)) → ((p : ℕ) → IsOfKept (b p))
      → ((p : ℕ) → is_looked (a p) ≡ is_looked (b p)) → (number : ℕ) (ss : List Site)
      → told_from number (turns_from trade now all a number ss) ≡ told_from number (turns_from trade now all b number ss)
      → turns_from trade now all a number ss ≡ turns_from trade now all b number ss
  turns_settled all a b k l i number [] e = refl
  turns_settled all a b k l i number (s ∷ ss) e =
      both_turns (turned trade number now (rooms_of all number) (a number) s) (turned trade number now (rooms_of all number) (b number) s)
      (turns_from trade now all a (number + 1) ss) (turns_from trade now all b (number + 1) ss)
      (turned_settled number (rooms_of all number) s (a number) (b number) (k number) (l number) (i number)
      (ap events_in e) (ap ended_in e))
      (turns_settled all a b k l i (number + 1) ss (ap tail_of e))

  rounded_settled : (sites : List Site) (a b : ℕ → Cut) → ((p : ℕ) → IsOfKept (a p)) → ((p : ℕ) → IsOfKept (b p))
      → ((p : ℕ) → is_looked (a p) ≡ is_looked (b p)) → (rounded trade now a sites).turns ≡ (rounded trade now b sites).turns
      → (rounded trade now a sites).sites ≡ (rounded trade now b sites).sites
  unfolding rounded turns_of
  rounded_settled sites a b k l i e = ap (λ (turns : List Turned). delivered (outs_of turns) 0 turns) (turns_settled sites a b k l i 0 sites e)

-- ---- commands and scripts

abbrev turns_told : Answer → List Turn
turns_told (Turns turns) = turns
turns_told _ = []

pub played_settled : (trade : Trade) (sites : List Site) (command : Command) (a b : Luck) → GaveWhatWasKept a → GaveWhatWasKept b
    → ReadAlike a b → Settled (played trade a sites command) (played trade b sites command)
unfolding played
played_settled trade sites (Submit p now sender path message) a b k l i = submitted_settled trade sites a b p now sender path message (finds_at sites p message)
played_settled trade sites (Tick p now) a b k l i = ticked_settled trade sites a b p now
played_settled trade sites (Round now) a b k l i = λ e. rounded_settled trade now sites a.cuts b.cuts k l i (ap turns_told e)
played_settled trade sites (Lose from to place) a b k l i = λ e. refl
played_settled trade sites (Repeat from to place) a b k l i = λ e. refl
played_settled trade sites (Swap from to place) a b k l i = λ e. refl
played_settled trade sites (Inject from to frame) a b k l i = λ e. refl
played_settled trade sites (Crash p) a b k l i = λ e. refl
played_settled trade sites (Restart p) a b k l i = restarted_settled trade sites a b p (site_at sites p)
played_settled trade sites (Book address) a b k l i = λ e. refl
played_settled trade sites (Mailbox address) a b k l i = λ e. refl
played_settled trade sites (Show address place) a b k l i =
    asked_settled trade sites a b (λ (p : ℕ) (h : Half). shown trade a sites p (slice_get (mailbox h address) place))
    (λ (p : ℕ) (h : Half). shown trade b sites p (slice_get (mailbox h address) place)) (account_home trade address (trade.home address))
    (λ p h. shown_settled trade sites a b p (slice_get (mailbox h address) place))
played_settled trade sites (Archive address now place) a b k l i =
    archived_settled trade sites a b (account_home trade address (trade.home address)) now address place
played_settled trade sites (Upgrade p now) a b k l i = upgraded_settled trade sites a b p now
played_settled trade sites (Vault address) a b k l i = λ e. refl
played_settled trade sites (VaultShow address place) a b k l i =
    asked_settled trade sites a b (λ (p : ℕ) (h : Half). shown trade a sites p (slice_get (archive h address) place))
    (λ (p : ℕ) (h : Half). shown trade b sites p (slice_get (archive h address) place)) (account_home trade address (trade.home address))
    (λ p h. shown_settled trade sites a b p (slice_get (archive h address) place))
played_settled trade sites (Screen p place spare) a b k l i = λ e. refl

abbrev first_answer : Answer → List Answer → Answer
first_answer other [] = other
first_answer other (answer ∷ answers) = answer

abbrev later_answers : List Answer → List Answer
later_answers [] = []
later_answers (answer ∷ answers) = answers

pub script_settled : (trade : Trade) (sites : List Site) (commands : List Command) (a b : List Luck) → AllByRecursion GaveWhatWasKept a → AllByRecursion GaveWhatWasKept b
    → AllReadAlike a b
    → (script trade a sites commands).answers ≡ (script trade b sites commands).answers → (script trade a sites commands).after ≡ (script trade b sites commands).after
script_settled trade sites [] [] [] k l i e = refl
script_settled trade sites [] [] (y ∷ b) k l i e = refl
script_settled trade sites [] (x ∷ a) [] k l i e = refl
script_settled trade sites [] (x ∷ a) (y ∷ b) k l i e = refl
script_settled trade sites (command ∷ commands) [] [] k l i e = refl
script_settled trade sites (command ∷ commands) [] (y ∷ b) k l i e = absurd (let n = ap length e in omega (arith, n))
script_settled trade sites (command ∷ commands) (x ∷ a) [] k l i e = absurd (let n = ap length e in omega (arith, n))
script_settled trade sites (command ∷ commands) (x ∷ a) (y ∷ b) k l i e =
    let same = played_settled trade sites command x y k.0 l.0 i.0 (ap (first_answer IsUp) e)
    in let rest : (script trade a (played trade x sites command).after commands).answers ≡ (script trade b (played trade x sites command).after commands).answers =
    ap later_answers e ∙ sym (ap (λ (after : List Site). (script trade b after commands).answers) same)
    in script_settled trade (played trade x sites command).after commands a b k.1 l.1 i.1 rest ∙ ap (λ (after : List Site). (script trade b after commands).after) same
