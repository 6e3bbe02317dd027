-- Runs without faults are one: a turn without faults is cut in one way.
use Rattle.std.proofs.Common.{◌≡◌, ℕ, zero, suc, ◌+◌, ◌<◌, List, [], ◌∷◌, ◌++◌, Bool, true, false, inl, inr, length, take, refl, ap, sym, subst, ◌∙◌, arith, nat_lt, Option, Some, None}
use Rattle.std.specs.Prelude.{slice_get, slice_set, slice_index_or, if◌then◌else◌, ◌==◌}
use Rattle.std.specs.Option.{unwrap_or}
use Rattle.std.proofs.lemmas.Bool.{cases_lt, false≢true}
use Rattle.std.proofs.lemmas.List.Elements.{All-cons, All-head, All-nil, All-tail}
use Rattle.std.proofs.lemmas.Option.{none-some, same_Some}
use Rattle.pec_types.specs.Bytes.{Bytes, Path}
use Rattle.pec_types.specs.declared.messages.TheConstants.{MESSAGES}
use Rattle.pec_types.specs.declared.turns.ProviderFault.{ProviderFault}
use Rattle.pec_types.specs.declared.turns.ProviderFault.TheVariants as faults
use Rattle.pec_records.specs.declared.entries.Entry.{Entry}
use Rattle.pec_records.specs.declared.entries.Entry.TheVariants as entries
use Rattle.pec_screen.specs.Verdicts.{Patterns}
use Rattle.pec_ledger.specs.Books.{archive_lines, book, mailbox_lines}
use Rattle.pec_ledger.specs.Half.{Half, Posted}
use Rattle.pec_ledger.specs.Items.{item_text}
use Rattle.pec_ledger.specs.Lookups.{archive, mailbox}
use Rattle.pec_ledger.specs.Network.{Site, chosen, empty_site, frames_between, journal_at, site_at}
use Rattle.pec_ledger.specs.Steps.{half}
use Rattle.pec_ledger.specs.Trade.{Trade}
use Rattle.pec_plays.specs.Commands.{Answer, Command, Luck, Played, IsUp, Refuses, Restarted, Turns, Submit, Tick, Round, Lose, Repeat, Swap, Inject, Crash, Restart, Book, Mailbox, Show, Lines, Items, account_home, answers, append, appended, asked, at_work, messages_at, played, put_again, read_back, restarted, restarted_site, shown, shown_bytes, stopped_site, submitted, swapped, swapped_at, ticked, with_entry, with_frames, with_site, Archive, Upgrade, Vault, VaultShow, Vaults, Screen, archived, finds_at, items_at, screened, upgraded, version_at, with_screens}
use Rattle.pec_plays.specs.Possible.{AllQuiet, GaveWhatWasKept, HaveRoom, IsCalm, IsFull, IsQuiet, MayCut, MayMeet, NoneInterrupted, later_cut, quiet_cut, quiet_luck, quiet_lucks}
use Rattle.pec_plays.specs.Rounds.{Rounded, delivered, link_size, outs_of, rooms_of, rounded, told_from, turns_from, turns_of, with_waiting}
use Rattle.pec_plays.specs.Scripts.{onto, script}
use Rattle.pec_plays.specs.Steps.{Step, has_no_room}
use Rattle.pec_plays.specs.Turns.{Cut, Turned, Whole, Fails, Full, Stops, Unread, Other, Sees, cut_turn, last_of, not_begun, steps_of, turned}
use Rattle.pec_plays.proofs.DeliveryLemmas.{after_is, past_the_end}
use Rattle.pec_plays.proofs.LooksLemmas.{calm_is_kept, steps_kept}
use Rattle.pec_plays.proofs.SiteLemmas.{put_cases}

-- ---- cuts

full_not : (s : Step) → s.full ≡ true → s.full ≡ false → ⊥
full_not s e f = false≢true (sym f ∙ e)

-- the quiet cut of steps, by whether there is room for the first
abbrev cut_by : Bool → List Step → Cut
cut_by full steps = if full then Full zero else later_cut (quiet_cut steps)

whole_is : (s : Step) (steps : List Step) (full : Bool) → s.full ≡ full → HaveRoom (s ∷ steps) → (HaveRoom steps → Whole ≡ quiet_cut steps) → Whole ≡ cut_by full steps
whole_is s steps true e room more = absurd (full_not s e (All-head (λ (x : Step). x.full ≡ false) s steps room))
whole_is s steps false e room more = ap later_cut (more (All-tail (λ (x : Step). x.full ≡ false) s steps room))

full_here : (s : Step) (steps : List Step) (full : Bool) → s.full ≡ full → IsFull (s ∷ steps) zero → Full zero ≡ cut_by full steps
full_here s steps true e is = refl
full_here s steps false e is = absurd (full_not s (subst (λ (x : Step). x.full ≡ true) (sym (same_Some s is.step is.there)) is.full) e)

full_later : (s : Step) (steps : List Step) (n : ℕ) (full : Bool) → s.full ≡ full → IsFull (s ∷ steps) (suc n) → (IsFull steps n → Full n ≡ quiet_cut steps)
    → Full (suc n) ≡ cut_by full steps
full_later s steps n true e is more = absurd (full_not s e (All-head (λ (x : Step). x.full ≡ false) s (take n steps) is.before))
full_later s steps n false e is more =
    ap later_cut
    (more (record { before = All-tail (λ (x : Step). x.full ≡ false) s (take n steps) is.before; step = is.step; there = is.there; full = is.full }))

pub calm_cut : (trade : Trade) (p : ℕ) (steps : List Step) (cut : Cut) → MayCut trade p steps cut → IsCalm cut → cut ≡ quiet_cut steps
calm_cut trade p [] Whole may calm = refl
calm_cut trade p [] (Full n) may calm = absurd (none-some may.step may.there)
calm_cut trade p steps (Fails n fault) may calm = absurd calm
calm_cut trade p steps (Stops n) may calm = absurd calm
calm_cut trade p steps (Unread n fault) may calm = absurd calm
calm_cut trade p steps (Other out) may calm = absurd calm
calm_cut trade p steps (Sees looks cut) may calm = absurd calm
calm_cut trade p (s ∷ steps) Whole may calm = whole_is s steps s.full refl may (λ room. calm_cut trade p steps Whole room tt)
calm_cut trade p (s ∷ steps) (Full zero) may calm = full_here s steps s.full refl may
calm_cut trade p (s ∷ steps) (Full (suc n)) may calm = full_later s steps n s.full refl may (λ is. calm_cut trade p steps (Full n) is tt)

later_may : (trade : Trade) (p : ℕ) (s : Step) (steps : List Step) (cut : Cut) → s.full ≡ false → MayCut trade p steps cut → IsCalm cut
    → MayCut trade p (s ∷ steps) (later_cut cut)
later_may trade p s steps Whole e may calm = All-cons (λ (x : Step). x.full ≡ false) s steps e may
later_may trade p s steps (Fails n fault) e may calm = absurd calm
later_may trade p s steps (Stops n) e may calm = absurd calm
later_may trade p s steps (Unread n fault) e may calm = absurd calm
later_may trade p s steps (Other out) e may calm = absurd calm
later_may trade p s steps (Sees looks cut) e may calm = absurd calm
later_may trade p s steps (Full n) e may calm = record {
  before = All-cons (λ (x : Step). x.full ≡ false) s (take n steps) e may.before;
  step = may.step;
  there = may.there;
  full = may.full;
}

later_calm : (cut : Cut) → IsCalm cut → IsCalm (later_cut cut)
later_calm Whole calm = tt
later_calm (Fails n fault) calm = calm
later_calm (Full n) calm = tt
later_calm (Stops n) calm = calm
later_calm (Unread n fault) calm = calm
later_calm (Other out) calm = calm
later_calm (Sees looks cut) calm = calm

calm_by : (full : Bool) (steps : List Step) → IsCalm (quiet_cut steps) → IsCalm (cut_by full steps)
calm_by true steps calm = tt
calm_by false steps calm = later_calm (quiet_cut steps) calm

pub quiet_is_calm : (steps : List Step) → IsCalm (quiet_cut steps)
quiet_is_calm [] = tt
quiet_is_calm (s ∷ steps) = calm_by s.full steps (quiet_is_calm steps)

may_by : (trade : Trade) (p : ℕ) (s : Step) (steps : List Step) (full : Bool) → s.full ≡ full → MayCut trade p steps (quiet_cut steps)
    → MayCut trade p (s ∷ steps) (cut_by full steps)
may_by trade p s steps true e may = record { before = All-nil (λ (x : Step). x.full ≡ false); step = s; there = refl; full = e }
may_by trade p s steps false e may = later_may trade p s steps (quiet_cut steps) e may (quiet_is_calm steps)

pub quiet_may : (trade : Trade) (p : ℕ) (steps : List Step) → MayCut trade p steps (quiet_cut steps)
quiet_may trade p [] = All-nil (λ (x : Step). x.full ≡ false)
quiet_may trade p (s ∷ steps) = may_by trade p s steps s.full refl (quiet_may trade p steps)

-- the steps of a turn without faults, as it is cut
quiet_meets : (trade : Trade) (p now : ℕ) (site : Site)
    → MayCut trade p (steps_of trade p now site (quiet_cut (steps_of trade p now site Whole))) (quiet_cut (steps_of trade p now site Whole))
quiet_meets trade p now site =
    let steps = steps_of trade p now site Whole
    in let calm = quiet_is_calm steps
    in subst (λ (taken : List Step). MayCut trade p taken (quiet_cut steps))
    (sym (steps_kept trade p now site (quiet_cut steps) (calm_is_kept (quiet_cut steps) calm))) (quiet_may trade p steps)

-- ---- one command

module _ (trade : Trade) (sites : List Site) (a b : Luck) (quiet_a : IsQuiet a) (quiet_b : IsQuiet b) where
  append_one : (p : ℕ) (entry : Entry) (answer : Answer) → append trade a sites p entry answer ≡ append trade b sites p entry answer
  append_one p entry answer =
      ap (λ (fails : Bool). if has_no_room trade p (journal_at sites p) entry then answers sites (Refuses faults.JournalFull) else appended fails sites p entry answer)
      (quiet_a.works ∙ sym quiet_b.works)

  work_one : (p now : ℕ) (x y : Played) → x ≡ y → at_work trade sites p now x ≡ at_work trade sites p now y
  work_one p now x y e = ap (at_work trade sites p now) e

  submitted_one : (p now : ℕ) (sender : Bytes) (path : Path) (message : Bytes) (found : Bool)
      → submitted trade a sites p now sender path message found ≡ submitted trade b sites p now sender path message found
  submitted_one p now sender path message found =
      ap (λ (x : Played). if trade.is_account p sender then x else answers sites (Refuses faults.NoAccount))
      (work_one p now _ _
      (ap (λ (x : Played). if nat_lt (messages_at trade sites p) MESSAGES then x else answers sites (Refuses faults.Full)) (append_one p _ _)))

  ticked_one : (p now : ℕ) → ticked trade a sites p now ≡ ticked trade b sites p now
  ticked_one p now = work_one p now _ _ (append_one p (entries.Ticked now) _)

  archived_one : (found : Option ℕ) (now : ℕ) (account : Bytes) (place : ℕ)
      → archived trade a sites found now account place ≡ archived trade b sites found now account place
  archived_one None now account place = refl
  archived_one (Some p) now account place =
      work_one p now _ _
      (ap (λ (x : Played). if nat_lt place (items_at trade sites p account) then x else answers sites (Refuses faults.NoItem))
      (ap (λ (x : Played). if version_at trade sites p == 2 then x else answers sites (Refuses faults.OldJournal))
      (append_one p (entries.Archived now account place) _)))

  upgraded_one : (p now : ℕ) → upgraded trade a sites p now ≡ upgraded trade b sites p now
  upgraded_one p now =
      work_one p now _ _
      (ap (λ (x : Played). if version_at trade sites p == 1 then x else answers sites (Refuses faults.NoNeed)) (append_one p (entries.Upgraded now) _))

  -- ---- restarts

  chosen_nothing : (x : Bool) (i : Option Entry) → i ≡ None → chosen x i ≡ []
  chosen_nothing true i e = ap (chosen true) e
  chosen_nothing false i e = refl

  found_nothing : (site : Site) (x y : Bool) → site.interrupted ≡ None → restarted_site x site ≡ restarted_site y site
  found_nothing site x y e =
      ap (λ (more : List Entry). record (site) { journal = site.journal ++ more; up = true; interrupted = None })
      (chosen_nothing x site.interrupted e ∙ sym (chosen_nothing y site.interrupted e))

  abbrev restarted_as : Bool → ℕ → Site → Site → Played
  restarted_as fails p old new =
      if old.up then answers sites IsUp
      else (if fails then answers sites (Refuses faults.DiskFault) else record { answer = Restarted (length new.journal); after = with_site sites p new })

  restarted_one : (p : ℕ) (site : Site) → site.interrupted ≡ None → restarted a sites p site ≡ restarted b sites p site
  restarted_one p site none =
      ap (λ (fails : Bool). restarted_as fails p site (restarted_site a.found site)) (quiet_a.works ∙ sym quiet_b.works)
      ∙ ap (restarted_as b.fails p site) (found_nothing site a.found b.found none)

  -- ---- items

  bytes_one : (p : ℕ) (text : Option Bytes) → shown_bytes a sites p text ≡ shown_bytes b sites p text
  bytes_one p None = refl
  bytes_one p (Some bytes) =
      ap (λ (read : Option ProviderFault). read_back read (unwrap_or a.shown bytes) sites p) (quiet_a.reads ∙ sym quiet_b.reads)
      ∙ ap (λ (shown : Option Bytes). read_back b.read (unwrap_or shown bytes) sites p) (quiet_a.shows ∙ sym quiet_b.shows)

  shown_one : (p : ℕ) (found : Option Posted) → shown trade a sites p found ≡ shown trade b sites p found
  shown_one p None = refl
  shown_one p (Some posted) = bytes_one p (item_text trade p (journal_at sites p) posted)

  asked_one : (f g : ℕ → Half → Played) (found : Option ℕ) → ((p : ℕ) (h : Half) → f p h ≡ g p h) → asked sites f trade found ≡ asked sites g trade found
  asked_one f g None same = refl
  asked_one f g (Some p) same =
      ap (λ (x : Played). if (site_at sites p).up then x else answers sites (Refuses faults.Down)) (same p (half trade p (journal_at sites p)))

  -- ---- rounds

  module _ (now : ℕ) where
    -- where a turn begins, it may be cut so
    abbrev MayBegin : ℕ → Site → Cut → Type 0
    MayBegin p site cut = site.up ≡ true → nat_lt now (last_of trade p site.journal) ≡ false → MayCut trade p (steps_of trade p now site cut) cut

    abbrev turn_by : ℕ → (ℕ → ℕ) → Site → Cut → Bool → Bool → Turned
    turn_by p rooms site cut up late =
        if up then (if late then not_begun site (faults.ClockBack (last_of trade p site.journal))
        else cut_turn trade p rooms site (steps_of trade p now site cut) cut)
        else not_begun site faults.Down

    -- the cut of a turn without faults, by the steps that it would have whole
    calm_as_whole : (p : ℕ) (site : Site) (cut : Cut) → MayCut trade p (steps_of trade p now site cut) cut → IsCalm cut
        → cut ≡ quiet_cut (steps_of trade p now site Whole)
    calm_as_whole p site cut may calm =
        calm_cut trade p (steps_of trade p now site Whole) cut
        (subst (λ (taken : List Step). MayCut trade p taken cut) (steps_kept trade p now site cut (calm_is_kept cut calm)) may) calm

    turn_one : (p : ℕ) (rooms : ℕ → ℕ) (site : Site) (x y : Cut) → MayBegin p site x → MayBegin p site y → IsCalm x → IsCalm y
        → (up late : Bool) → site.up ≡ up → nat_lt now (last_of trade p site.journal) ≡ late → turn_by p rooms site x up late ≡ turn_by p rooms site y up late
    turn_one p rooms site x y may_x may_y calm_x calm_y true false e f =
        ap (λ (cut : Cut). cut_turn trade p rooms site (steps_of trade p now site cut) cut)
        (calm_as_whole p site x (may_x e f) calm_x ∙ sym (calm_as_whole p site y (may_y e f) calm_y))
    turn_one p rooms site x y may_x may_y calm_x calm_y true true e f = refl
    turn_one p rooms site x y may_x may_y calm_x calm_y false late e f = refl

    turned_one : (p : ℕ) (rooms : ℕ → ℕ) (site : Site) (x y : Cut) → MayBegin p site x → MayBegin p site y → IsCalm x → IsCalm y
        → turned trade p now rooms x site ≡ turned trade p now rooms y site
    unfolding turned
    turned_one p rooms site x y may_x may_y calm_x calm_y =
        turn_one p rooms site x y may_x may_y calm_x calm_y site.up (nat_lt now (last_of trade p site.journal)) refl refl

    both_turns : (x y : Turned) (xs ys : List Turned) → x ≡ y → xs ≡ ys → x ∷ xs ≡ y ∷ ys
    both_turns x y xs ys e f = rw (e, f) refl

    abbrev AllMay : Luck → ℕ → List Site → Type 0
    AllMay luck number ss = (k : ℕ) → k < length ss → MayBegin (number + k) (slice_index_or ss k empty_site) (luck.cuts (number + k))

    first_may : (luck : Luck) (number : ℕ) (s : Site) (ss : List Site) → AllMay luck number (s ∷ ss) → MayBegin number s (luck.cuts number)
    first_may luck number s ss may = subst (λ (q : ℕ). MayBegin q s (luck.cuts q)) (let z : number + 0 ≡ number = omega arith in z) (may 0 (omega arith))

    rest_may : (luck : Luck) (number : ℕ) (s : Site) (ss : List Site) → AllMay luck number (s ∷ ss) → AllMay luck (number + 1) ss
    rest_may luck number s ss may k l =
        subst (λ (q : ℕ). MayBegin q (slice_index_or ss k empty_site) (luck.cuts q)) (let z : number + suc k ≡ (number + 1) + k = omega arith in z)
        (may (suc k) (omega arith))

    turns_one : (number : ℕ) (ss : List Site) → AllMay a number ss → AllMay b number ss → turns_from trade now sites a.cuts number ss ≡ turns_from trade now sites b.cuts number ss
    turns_one number [] may_a may_b = refl
    turns_one number (s ∷ ss) may_a may_b =
        both_turns (turned trade number now (rooms_of sites number) (a.cuts number) s) (turned trade number now (rooms_of sites number) (b.cuts number) s)
        (turns_from trade now sites a.cuts (number + 1) ss) (turns_from trade now sites b.cuts (number + 1) ss)
        (turned_one number (rooms_of sites number) s (a.cuts number) (b.cuts number) (first_may a number s ss may_a) (first_may b number s ss may_b)
        (quiet_a.cuts number) (quiet_b.cuts number))
        (turns_one (number + 1) ss (rest_may a number s ss may_a) (rest_may b number s ss may_b))

    from_the_first : (luck : Luck) → MayMeet trade luck sites (Round now) → AllMay luck 0 sites
    from_the_first luck may k l =
        subst (λ (q : ℕ). MayBegin q (slice_index_or sites k empty_site) (luck.cuts q)) (let z : k ≡ 0 + k = omega arith in z) (may k l)

    rounded_one : MayMeet trade a sites (Round now) → MayMeet trade b sites (Round now) → rounded trade now a.cuts sites ≡ rounded trade now b.cuts sites
    unfolding rounded turns_of
    rounded_one may_a may_b =
        ap (λ (turns : List Turned). let r : Rounded = record { sites = delivered (outs_of turns) 0 turns; turns = told_from 0 turns } in r)
        (turns_one 0 sites (from_the_first a may_a) (from_the_first b may_b))

  pub played_one : (command : Command) → NoneInterrupted sites → MayMeet trade a sites command → MayMeet trade b sites command
      → played trade a sites command ≡ played trade b sites command
  unfolding played
  played_one (Submit p now sender path message) none may_a may_b = submitted_one p now sender path message (finds_at sites p message)
  played_one (Tick p now) none may_a may_b = ticked_one p now
  played_one (Round now) none may_a may_b =
      ap (λ (r : Rounded). let x : Played = record { answer = Turns r.turns; after = r.sites } in x) (rounded_one now may_a may_b)
  played_one (Lose from to place) none may_a may_b = refl
  played_one (Repeat from to place) none may_a may_b = refl
  played_one (Swap from to place) none may_a may_b = refl
  played_one (Inject from to frame) none may_a may_b = refl
  played_one (Crash p) none may_a may_b = refl
  played_one (Restart p) none may_a may_b = restarted_one p (site_at sites p) (none p)
  played_one (Book address) none may_a may_b = refl
  played_one (Mailbox address) none may_a may_b = refl
  played_one (Show address place) none may_a may_b =
      asked_one (λ (p : ℕ) (h : Half). shown trade a sites p (slice_get (mailbox h address) place))
      (λ (p : ℕ) (h : Half). shown trade b sites p (slice_get (mailbox h address) place)) (account_home trade address (trade.home address))
      (λ p h. shown_one p (slice_get (mailbox h address) place))
  played_one (Archive address now place) none may_a may_b = archived_one (account_home trade address (trade.home address)) now address place
  played_one (Upgrade p now) none may_a may_b = upgraded_one p now
  played_one (Vault address) none may_a may_b = refl
  played_one (VaultShow address place) none may_a may_b =
      asked_one (λ (p : ℕ) (h : Half). shown trade a sites p (slice_get (archive h address) place))
      (λ (p : ℕ) (h : Half). shown trade b sites p (slice_get (archive h address) place)) (account_home trade address (trade.home address))
      (λ p h. shown_one p (slice_get (archive h address) place))
  played_one (Screen p place spare) none may_a may_b = refl

-- ---- no entry is interrupted by a command without faults

module _ (trade : Trade) (sites : List Site) (luck : Luck) (quiet : IsQuiet luck) (none : NoneInterrupted sites) where
  with_none : (p : ℕ) (site : Site) → site.interrupted ≡ None → NoneInterrupted (with_site sites p site)
  with_none p site e q =
      elim (put_cases sites p q site) [
        | inl same ↦ ap (λ (s : Site). s.interrupted) same.1 ∙ e
        | inr unchanged ↦ ap (λ (s : Site). s.interrupted) unchanged ∙ none q
      ]

  none_by : (t : Bool) (x y : Played) → NoneInterrupted x.after → NoneInterrupted y.after → NoneInterrupted (if t then x else y).after
  none_by true x y a b = a
  none_by false x y a b = b

  none_appended : (fails : Bool) (p : ℕ) (entry : Entry) (answer : Answer) → fails ≡ false → NoneInterrupted (appended fails sites p entry answer).after
  none_appended true p entry answer e = absurd (false≢true (sym e))
  none_appended false p entry answer e = with_none p (with_entry (site_at sites p) entry) (none p)

  none_append : (p : ℕ) (entry : Entry) (answer : Answer) → NoneInterrupted (append trade luck sites p entry answer).after
  none_append p entry answer =
      none_by (has_no_room trade p (journal_at sites p) entry) _ (appended luck.fails sites p entry answer) none (none_appended luck.fails p entry answer quiet.works)

  none_work : (p now : ℕ) (done : Played) → NoneInterrupted done.after → NoneInterrupted (at_work trade sites p now done).after
  none_work p now done more =
      none_by (site_at sites p).up _ _ (none_by (nat_lt now (last_of trade p (journal_at sites p))) _ done none more) none

  none_archived : (found : Option ℕ) (now : ℕ) (account : Bytes) (place : ℕ) → NoneInterrupted (archived trade luck sites found now account place).after
  none_archived None now account place = none
  none_archived (Some p) now account place =
      none_work p now _
      (none_by (nat_lt place (items_at trade sites p account)) _ _
      (none_by (version_at trade sites p == 2) _ _ (none_append p (entries.Archived now account place) _) none) none)

  none_screened : (p place : ℕ) (spare : Option Patterns) → NoneInterrupted (screened sites p place spare).after
  none_screened p place None = none
  none_screened p place (Some patterns) =
      none_by (site_at sites p).up _ _
      (none_by (nat_lt place (length (site_at sites p).screens)) _ _
      (with_none p (with_screens (site_at sites p) (slice_set (site_at sites p).screens place patterns)) (none p)) none) none

  none_frames : (from to : ℕ) (frames : List Bytes) → NoneInterrupted (with_frames sites from to frames)
  none_frames from to frames = with_none to (with_waiting (site_at sites to) (slice_set (site_at sites to).waiting from frames)) (none to)

  none_again : (from to : ℕ) (found : Option Bytes) → NoneInterrupted (put_again sites from to found).after
  none_again from to None = none
  none_again from to (Some frame) = none_by (nat_lt (length (frames_between sites from to)) link_size) _ _ (none_frames from to _) none

  none_swapped : (from to : ℕ) (found : Option (List Bytes)) → NoneInterrupted (swapped sites from to found).after
  none_swapped from to None = none
  none_swapped from to (Some frames) = none_frames from to frames

  none_asked : (show : ℕ → Half → Played) (found : Option ℕ) → ((p : ℕ) (h : Half) → NoneInterrupted (show p h).after) → NoneInterrupted (asked sites show trade found).after
  none_asked show None same = none
  none_asked show (Some p) same = none_by (site_at sites p).up _ _ (same p _) none

  none_read : (read : Option ProviderFault) (bytes : Bytes) (p : ℕ) → NoneInterrupted (read_back read bytes sites p).after
  none_read None bytes p = none
  none_read (Some fault) bytes p = with_none p (stopped_site (site_at sites p)) (none p)

  none_bytes : (p : ℕ) (text : Option Bytes) → NoneInterrupted (shown_bytes luck sites p text).after
  none_bytes p None = none
  none_bytes p (Some bytes) = none_read luck.read (unwrap_or luck.shown bytes) p

  none_shown : (p : ℕ) (found : Option Posted) → NoneInterrupted (shown trade luck sites p found).after
  none_shown p None = none
  none_shown p (Some posted) = none_bytes p (item_text trade p (journal_at sites p) posted)

  cut_keeps : (p : ℕ) (rooms : ℕ → ℕ) (site : Site) (steps : List Step) (cut : Cut) → IsCalm cut → (cut_turn trade p rooms site steps cut).site.interrupted ≡ site.interrupted
  cut_keeps p rooms site steps Whole calm = refl
  cut_keeps p rooms site steps (Fails n fault) calm = absurd calm
  cut_keeps p rooms site steps (Full n) calm = refl
  cut_keeps p rooms site steps (Stops n) calm = absurd calm
  cut_keeps p rooms site steps (Unread n fault) calm = absurd calm
  cut_keeps p rooms site steps (Other out) calm = absurd calm
  cut_keeps p rooms site steps (Sees looks cut) calm = absurd calm

  keeps_by : (site : Site) (t : Bool) (x y : Turned) → x.site.interrupted ≡ site.interrupted → y.site.interrupted ≡ site.interrupted
      → (if t then x else y).site.interrupted ≡ site.interrupted
  keeps_by site true x y a b = a
  keeps_by site false x y a b = b

  turn_keeps : (p now : ℕ) (rooms : ℕ → ℕ) (site : Site) (cut : Cut) → IsCalm cut → (turned trade p now rooms cut site).site.interrupted ≡ site.interrupted
  unfolding turned
  turn_keeps p now rooms site cut calm =
      keeps_by site site.up _ _
      (keeps_by site (nat_lt now (last_of trade p site.journal)) _ _ refl
      (cut_keeps p rooms site (steps_of trade p now site cut) cut calm))
      refl

  none_rounded : (now : ℕ) → NoneInterrupted (rounded trade now luck.cuts sites).sites
  unfolding rounded turns_of
  none_rounded now q =
      elim (cases_lt q (length sites)) [
        | inl l ↦
            ap (λ (s : Site). s.interrupted) (after_is trade now luck.cuts sites q l)
            ∙ turn_keeps q now (rooms_of sites q) (site_at sites q) (luck.cuts q) (quiet.cuts q) ∙ none q
        | inr l ↦ ap (λ (s : Site). s.interrupted) (past_the_end trade now luck.cuts sites q l) ∙ none q
      ]

  pub none_behind : (command : Command) → NoneInterrupted (played trade luck sites command).after
  unfolding played
  none_behind (Submit p now sender path message) =
      none_by (trade.is_account p sender) _ _
      (none_work p now _ (none_by (nat_lt (messages_at trade sites p) MESSAGES) _ _ (none_append p _ _) none)) none
  none_behind (Tick p now) = none_work p now _ (none_append p (entries.Ticked now) _)
  none_behind (Round now) = none_rounded now
  none_behind (Lose from to place) = none_by (nat_lt place (length (frames_between sites from to))) _ _ (none_frames from to _) none
  none_behind (Repeat from to place) = none_again from to (slice_get (frames_between sites from to) place)
  none_behind (Swap from to place) = none_swapped from to (swapped_at place (frames_between sites from to))
  none_behind (Inject from to frame) = none_by (nat_lt (length (frames_between sites from to)) link_size) _ _ (none_frames from to _) none
  none_behind (Crash p) = with_none p (stopped_site (site_at sites p)) (none p)
  none_behind (Restart p) =
      none_by (site_at sites p).up _ _ none (none_by luck.fails _ _ none (with_none p (restarted_site luck.found (site_at sites p)) refl))
  none_behind (Book address) =
      none_asked (λ (p : ℕ) (h : Half). answers sites (Lines (book trade p h address))) (account_home trade address (trade.home address)) (λ p h. none)
  none_behind (Mailbox address) =
      none_asked (λ (p : ℕ) (h : Half). answers sites (Items (mailbox_lines h address))) (account_home trade address (trade.home address)) (λ p h. none)
  none_behind (Show address place) =
      none_asked (λ (p : ℕ) (h : Half). shown trade luck sites p (slice_get (mailbox h address) place)) (account_home trade address (trade.home address))
      (λ p h. none_shown p (slice_get (mailbox h address) place))
  none_behind (Archive address now place) = none_archived (account_home trade address (trade.home address)) now address place
  none_behind (Upgrade p now) = none_work p now _ (none_by (version_at trade sites p == 1) _ _ (none_append p (entries.Upgraded now) _) none)
  none_behind (Vault address) =
      none_asked (λ (p : ℕ) (h : Half). answers sites (Vaults (archive_lines h address))) (account_home trade address (trade.home address)) (λ p h. none)
  none_behind (VaultShow address place) =
      none_asked (λ (p : ℕ) (h : Half). shown trade luck sites p (slice_get (archive h address) place)) (account_home trade address (trade.home address))
      (λ p h. none_shown p (slice_get (archive h address) place))
  none_behind (Screen p place spare) = none_screened p place spare

-- ---- scripts

pub script_one : (trade : Trade) (a b : List Luck) (sites : List Site) (commands : List Command) → length a ≡ length b → NoneInterrupted sites
    → AllQuiet trade a sites commands → AllQuiet trade b sites commands → script trade a sites commands ≡ script trade b sites commands
script_one trade [] [] sites commands e none quiet_a quiet_b = refl
script_one trade [] (y ∷ b) sites commands e none quiet_a quiet_b = absurd (omega (arith, e))
script_one trade (x ∷ a) [] sites commands e none quiet_a quiet_b = absurd (omega (arith, e))
script_one trade (x ∷ a) (y ∷ b) sites [] e none quiet_a quiet_b = refl
script_one trade (x ∷ a) (y ∷ b) sites (command ∷ commands) e none quiet_a quiet_b =
    let same = played_one trade sites x y quiet_a.1 quiet_b.1 command none quiet_a.0 quiet_b.0
    in let rest = script_one trade a b (played trade x sites command).after commands (let f : length a ≡ length b = omega (arith, e) in f)
    (none_behind trade sites x quiet_a.1 none command) quiet_a.2
    (subst (λ (p : Played). AllQuiet trade b p.after commands) (sym same) quiet_b.2)
    in ap (onto (played trade x sites command).answer) rest
    ∙ ap (λ (p : Played). onto p.answer (script trade b p.after commands)) same

-- ---- there is a luck without faults

pub quiet_there : (trade : Trade) (sites : List Site) (command : Command) → MayMeet trade (quiet_luck trade sites command) sites command × IsQuiet (quiet_luck trade sites command)
quiet_there trade sites (Round now) = (
  λ p l up late. quiet_meets trade p now (site_at sites p),
  record { cuts = λ p. quiet_is_calm (steps_of trade p now (site_at sites p) Whole); works = refl; reads = refl; shows = refl },
)
quiet_there trade sites (Submit p now sender path message) = (tt, record { cuts = λ p. tt; works = refl; reads = refl; shows = refl })
quiet_there trade sites (Tick p now) = (tt, record { cuts = λ p. tt; works = refl; reads = refl; shows = refl })
quiet_there trade sites (Lose from to place) = (tt, record { cuts = λ p. tt; works = refl; reads = refl; shows = refl })
quiet_there trade sites (Repeat from to place) = (tt, record { cuts = λ p. tt; works = refl; reads = refl; shows = refl })
quiet_there trade sites (Swap from to place) = (tt, record { cuts = λ p. tt; works = refl; reads = refl; shows = refl })
quiet_there trade sites (Inject from to frame) = (tt, record { cuts = λ p. tt; works = refl; reads = refl; shows = refl })
quiet_there trade sites (Crash p) = (tt, record { cuts = λ p. tt; works = refl; reads = refl; shows = refl })
quiet_there trade sites (Restart p) = (tt, record { cuts = λ p. tt; works = refl; reads = refl; shows = refl })
quiet_there trade sites (Book address) = (tt, record { cuts = λ p. tt; works = refl; reads = refl; shows = refl })
quiet_there trade sites (Mailbox address) = (tt, record { cuts = λ p. tt; works = refl; reads = refl; shows = refl })
quiet_there trade sites (Show address place) = (tt, record { cuts = λ p. tt; works = refl; reads = refl; shows = refl })
quiet_there trade sites (Archive address now place) = (tt, record { cuts = λ p. tt; works = refl; reads = refl; shows = refl })
quiet_there trade sites (Upgrade p now) = (tt, record { cuts = λ p. tt; works = refl; reads = refl; shows = refl })
quiet_there trade sites (Vault address) = (tt, record { cuts = λ p. tt; works = refl; reads = refl; shows = refl })
quiet_there trade sites (VaultShow address place) = (tt, record { cuts = λ p. tt; works = refl; reads = refl; shows = refl })
quiet_there trade sites (Screen p place spare) = (tt, record { cuts = λ p. tt; works = refl; reads = refl; shows = refl })

pub quiet_along : (trade : Trade) (sites : List Site) (commands : List Command) → AllQuiet trade (quiet_lucks trade sites commands) sites commands
quiet_along trade sites [] = tt
quiet_along trade sites (command ∷ commands) =
    let there = quiet_there trade sites command
    in (there.0, there.1, quiet_along trade (played trade (quiet_luck trade sites command) sites command).after commands)

pub quiet_enough : (trade : Trade) (sites : List Site) (commands : List Command) → length (quiet_lucks trade sites commands) ≡ length commands
quiet_enough trade sites [] = refl
quiet_enough trade sites (command ∷ commands) = ap suc (quiet_enough trade (played trade (quiet_luck trade sites command) sites command).after commands)

-- ---- without faults each read gave what was kept

pub quiet_is_kept : (luck : Luck) → IsQuiet luck → GaveWhatWasKept luck
quiet_is_kept luck quiet p = calm_is_kept (luck.cuts p) (quiet.cuts p)
