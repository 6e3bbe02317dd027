-- A command of which no fault is told is one without faults.
use Rattle.std.proofs.Common.{◌≡◌, ◌≢◌, ℕ, zero, suc, ◌+◌, ◌<◌, ◌==◌, ◌&&◌, ◌⊎◌, inl, inr, List, [], ◌∷◌, Bool, true, false, length, refl, ap, sym, subst, ◌∙◌, arith, nat_lt, Option, Some, None}
use Rattle.std.specs.Prelude.{All, IfSome, filter, slice_get, slice_index_or, if◌then◌else◌}
use Rattle.std.specs.Option.{unwrap_or}
use Rattle.std.proofs.lemmas.Bool.{eq-eqb, false≢true}
use Rattle.std.proofs.lemmas.List.Elements.{All-cons, All-head, All-nil, All-tail}
use Rattle.pec_types.specs.Bytes.{Bytes, Path}
use Rattle.pec_types.specs.declared.messages.TheConstants.{MESSAGES}
use Rattle.pec_types.specs.declared.turns.ProviderFault.{ProviderFault}
use Rattle.pec_types.specs.declared.turns.ProviderFault.TheVariants as faults
use Rattle.pec_types.specs.declared.turns.Turn.{Turn}
use Rattle.pec_records.specs.declared.entries.Entry.{Entry}
use Rattle.pec_records.specs.declared.entries.Entry.TheVariants as entries
use Rattle.pec_ledger.specs.Along.{times}
use Rattle.pec_ledger.specs.Books.{archive_lines, book, mailbox_lines}
use Rattle.pec_ledger.specs.Half.{Half, Posted}
use Rattle.pec_ledger.specs.Items.{item_text}
use Rattle.pec_ledger.specs.Lookups.{archive, mailbox}
use Rattle.pec_ledger.specs.Network.{Site, empty_site, frames_between, journal_at, site_at}
use Rattle.pec_ledger.specs.Steps.{half}
use Rattle.pec_ledger.specs.Trade.{Trade}
use Rattle.pec_plays.specs.Commands.{Answer, Archive, Archived, Command, Luck, NoScreen, Played, IsUp, Items, LinkFull, Lines, NoFrame, Refuses, Restarted, Turns, Submit, Tick, Round, Lose, Repeat, Swap, Inject, Crash, Restart, Book, Mailbox, Screen, Show, Upgrade, Upgraded, Vault, VaultShow, Vaults}
use Rattle.pec_plays.specs.Commands.{account_home, answers, append, appended, archived, archived_at, asked, at_work, finds_at, items_at, screened, upgraded, version_at}
use Rattle.pec_plays.specs.Commands.{messages_at, played, put_again, read_back, restarted, restarted_site, shown, shown_bytes, submitted, swapped, swapped_at, ticked, with_site}
use Rattle.pec_plays.specs.Possible.{GaveWhatWasKept, IsCalm, IsOfKept, IsOfRead, IsQuiet, MayCut, MayMeet}
use Rattle.pec_plays.specs.Rounds.{Rounded, delivered, link_size, outs_of, rooms_of, rounded, sent_from, told_from, turns_from, turns_of}
use Rattle.pec_plays.specs.Steps.{Step, has_no_room}
use Rattle.pec_plays.specs.Turns.{Cut, Turned, Whole, Fails, Full, Stops, Unread, Other, Sees, cut_turn, last_of, not_begun, steps_of, turned}
use Rattle.pec_screen.specs.Verdicts.{Patterns}
use Rattle.pec_runs.specs.Plays.{HasMemory, IsUnchanged, ShowsItsOwn, faults_at, faults_at_home, faults_by, faults_in, is_change}
use Rattle.pec_runs.specs.Plays.{is_disk_fault}

-- ---- cuts

-- the cut of a turn that didn't fail
abbrev pub calmed : Cut → Cut
calmed Whole = Whole
calmed (Fails n fault) = Whole
calmed (Full n) = Full n
calmed (Stops n) = Whole
calmed (Unread n fault) = Whole
calmed (Other out) = Whole
calmed (Sees looks cut) = Whole

calmed_calm : (cut : Cut) → IsCalm (calmed cut)
calmed_calm Whole = tt
calmed_calm (Fails n fault) = tt
calmed_calm (Full n) = tt
calmed_calm (Stops n) = tt
calmed_calm (Unread n fault) = tt
calmed_calm (Other out) = tt
calmed_calm (Sees looks cut) = tt

calmed_same : (cut : Cut) → IsCalm cut → calmed cut ≡ cut
calmed_same Whole calm = refl
calmed_same (Fails n fault) calm = absurd calm
calmed_same (Full n) calm = refl
calmed_same (Stops n) calm = absurd calm
calmed_same (Unread n fault) calm = absurd calm
calmed_same (Other out) calm = absurd calm
calmed_same (Sees looks cut) calm = absurd calm

-- a turn went well: neither its disk failed, nor was memory missing, nor is an entry told as changed
pub record WentWell (ended : Option ProviderFault) : Type 0 where
  pub disk : is_disk_fault ended ≡ false
  pub memory : ended ≢ Some faults.NoMemory
  pub same : is_change ended ≡ false

-- no read failed in it
not_read : (fault : ProviderFault) → IsOfRead fault → is_disk_fault (Some fault) ≡ false
    → is_change (Some fault) ≡ false → ⊥
not_read faults.DiskFault of disk same = false≢true (sym disk)
not_read faults.NoMemory of disk same = of
not_read faults.Down of disk same = of
not_read (faults.ClockBack last) of disk same = of
not_read faults.NoAccount of disk same = of
not_read faults.Full of disk same = of
not_read faults.NoItem of disk same = of
not_read faults.JournalFull of disk same = of
not_read faults.OldJournal of disk same = of
not_read faults.NoNeed of disk same = of
not_read (faults.Changed entry) of disk same = false≢true (sym same)

cut_calm : (trade : Trade) (p : ℕ) (rooms : ℕ → ℕ) (site : Site) (steps : List Step) (cut : Cut) → IsOfKept cut
    → WentWell (cut_turn trade p rooms site steps cut).ended → IsCalm cut
cut_calm trade p rooms site steps Whole kept well = tt
cut_calm trade p rooms site steps (Fails n fault) kept well = absurd (not_read fault kept well.disk well.same)
cut_calm trade p rooms site steps (Full n) kept well = tt
cut_calm trade p rooms site steps (Stops n) kept well = absurd (well.memory refl)
cut_calm trade p rooms site steps (Unread n fault) kept well = absurd (not_read fault kept well.disk well.same)
cut_calm trade p rooms site steps (Other out) kept well = absurd kept
cut_calm trade p rooms site steps (Sees looks cut) kept well = absurd kept

-- ---- a command

module _ (trade : Trade) (sites : List Site) (luck : Luck) where
  pub calm_luck : Luck
  calm_luck =
      record { cuts = λ p. calmed (luck.cuts p); fails = false; found = luck.found; read = None; shown = None }

  pub calm_quiet : IsQuiet calm_luck
  unfolding calm_luck
  calm_quiet = record { cuts = λ p. calmed_calm (luck.cuts p); works = refl; reads = refl; shows = refl }

  -- a fault of the disk is told, or both are the same
  abbrev Alike : Played → Played → Type 0
  Alike x y = (x.answer ≡ Refuses faults.DiskFault) ⊎ (x ≡ y)

  alike_if : (b : Bool) (x y z w : Played) → Alike x y → Alike z w → Alike (if b then x else z) (if b then y else w)
  alike_if true x y z w a c = a
  alike_if false x y z w a c = c

  appended_alike : (fails : Bool) (p : ℕ) (entry : Entry) (answer : Answer)
      → Alike (appended fails sites p entry answer) (appended false sites p entry answer)
  appended_alike true p entry answer = inl refl
  appended_alike false p entry answer = inr refl

  append_alike : (p : ℕ) (entry : Entry) (answer : Answer)
      → Alike (append trade luck sites p entry answer) (append trade calm_luck sites p entry answer)
  unfolding calm_luck
  append_alike p entry answer =
      alike_if (has_no_room trade p (journal_at sites p) entry) (answers sites (Refuses faults.JournalFull))
      (answers sites (Refuses faults.JournalFull))
      (appended luck.fails sites p entry answer) (appended false sites p entry answer) (inr refl)
      (appended_alike luck.fails p entry answer)

  work_alike : (p now : ℕ) (x y : Played) → Alike x y
      → Alike (at_work trade sites p now x) (at_work trade sites p now y)
  work_alike p now x y a =
      alike_if (site_at sites p).up _ _ (answers sites (Refuses faults.Down)) (answers sites (Refuses faults.Down))
      (alike_if (nat_lt now (last_of trade p (journal_at sites p)))
      (answers sites (Refuses (faults.ClockBack (last_of trade p (journal_at sites p)))))
      (answers sites (Refuses (faults.ClockBack (last_of trade p (journal_at sites p))))) x y (inr refl) a)
      (inr refl)

  submitted_alike : (p now : ℕ) (sender : Bytes) (along : Path) (message : Bytes) (found : Bool)
      → Alike (submitted trade luck sites p now sender along message found)
      (submitted trade calm_luck sites p now sender along message found)
  submitted_alike p now sender along message found =
      alike_if (trade.is_account p sender) _ _ (answers sites (Refuses faults.NoAccount))
      (answers sites (Refuses faults.NoAccount))
      (work_alike p now _ _
      (alike_if (nat_lt (messages_at trade sites p) MESSAGES) _ _ (answers sites (Refuses faults.Full))
      (answers sites (Refuses faults.Full))
      (append_alike p _ _) (inr refl)))
      (inr refl)

  ticked_alike : (p now : ℕ) → Alike (ticked trade luck sites p now) (ticked trade calm_luck sites p now)
  ticked_alike p now = work_alike p now _ _ (append_alike p (entries.Ticked now) _)

  abbrev up_again : ℕ → Site → Played
  up_again p site =
      record {
        answer = Restarted (length (restarted_site luck.found site).journal);
        after = with_site sites p
            (restarted_site luck.found site);
      }

  fails_alike : (fails : Bool) (p : ℕ) (site : Site)
      → Alike (if fails then answers sites (Refuses faults.DiskFault) else up_again p site) (up_again p site)
  fails_alike true p site = inl refl
  fails_alike false p site = inr refl

  restarted_alike : (p : ℕ) (site : Site) → Alike (restarted luck sites p site) (restarted calm_luck sites p site)
  unfolding calm_luck
  restarted_alike p site =
      alike_if site.up (answers sites IsUp) (answers sites IsUp)
      (if luck.fails then answers sites (Refuses faults.DiskFault) else up_again p site) (up_again p site)
      (inr refl) (fails_alike luck.fails p site)

  abbrev one_if : Bool → ℕ
  one_if b = if b then 1 else 0

  one_is_some : (b : Bool) → b ≡ true → one_if b ≡ 0 → ⊥
  one_is_some true e none = omega (arith, none)
  one_is_some false e none = false≢true e

  -- a call at one provider of which no fault of its disk is told
  no_fault : (asked : ℕ) (x y : Played) → Alike x y → faults_at asked asked x.answer ≡ 0 → x ≡ y
  no_fault asked x y (inr same) none = same
  no_fault asked x y (inl told) none =
      absurd (one_is_some (asked == asked) (eq-eqb asked asked refl)
      (subst (λ (a : Answer). faults_at asked asked a ≡ 0) told none))

  -- ---- archives

  archived_alike : (p now : ℕ) (account : Bytes) (place : ℕ)
      → Alike (archived_at trade luck sites p now account place) (archived_at trade calm_luck sites p now account place)
  archived_alike p now account place =
      work_alike p now _ _
      (alike_if (nat_lt place (items_at trade sites p account)) _ _ (answers sites (Refuses faults.NoItem))
      (answers sites (Refuses faults.NoItem))
      (alike_if (version_at trade sites p == 2) _ _ (answers sites (Refuses faults.OldJournal))
      (answers sites (Refuses faults.OldJournal)) (append_alike p (entries.Archived now account place) Archived) (inr refl))
      (inr refl))

  archived_same : (now : ℕ) (account : Bytes) (place : ℕ) (home : Option ℕ)
      → ((k : ℕ) → faults_at_home k home (archived trade luck sites home now account place).answer ≡ 0)
      → archived trade luck sites home now account place ≡ archived trade calm_luck sites home now account place
  archived_same now account place None none = refl
  archived_same now account place (Some p) none =
      no_fault p (archived_at trade luck sites p now account place) (archived_at trade calm_luck sites p now account place)
      (archived_alike p now account place) (none p)

  upgraded_alike : (p now : ℕ) → Alike (upgraded trade luck sites p now) (upgraded trade calm_luck sites p now)
  upgraded_alike p now =
      work_alike p now _ _
      (alike_if (version_at trade sites p == 1) _ _ (answers sites (Refuses faults.NoNeed))
      (answers sites (Refuses faults.NoNeed)) (append_alike p (entries.Upgraded now) Upgraded) (inr refl))

  -- ---- rounds

  module _ (now : ℕ) where
    abbrev turn_by : ℕ → (ℕ → ℕ) → Site → Cut → Bool → Bool → Turned
    turn_by p rooms site cut up late =
        if up then (if late then not_begun site (faults.ClockBack (last_of trade p site.journal))
        else cut_turn trade p rooms site (steps_of trade p now site cut) cut)
        else not_begun site faults.Down

    turn_same : (p : ℕ) (rooms : ℕ → ℕ) (site : Site) (cut : Cut) (up late : Bool) → IsOfKept cut
        → WentWell (turn_by p rooms site cut up late).ended
        → turn_by p rooms site cut up late ≡ turn_by p rooms site (calmed cut) up late
    turn_same p rooms site cut true false kept well =
        ap (λ (c : Cut). cut_turn trade p rooms site (steps_of trade p now site c) c)
        (sym (calmed_same cut (cut_calm trade p rooms site (steps_of trade p now site cut) cut kept well)))
    turn_same p rooms site cut true true kept well = refl
    turn_same p rooms site cut false late kept well = refl

    turned_same : (p : ℕ) (rooms : ℕ → ℕ) (site : Site) (cut : Cut) → IsOfKept cut
        → WentWell (turned trade p now rooms cut site).ended
        → turned trade p now rooms cut site ≡ turned trade p now rooms (calmed cut) site
    unfolding turned
    turned_same p rooms site cut kept well = turn_same p rooms site cut site.up
        (nat_lt now (last_of trade p site.journal)) kept well

    -- a turn that began and went well was calm
    turn_calm : (p : ℕ) (rooms : ℕ → ℕ) (site : Site) (cut : Cut) (up late : Bool) → up ≡ true → late ≡ false
        → IsOfKept cut → WentWell (turn_by p rooms site cut up late).ended → IsCalm cut
    turn_calm p rooms site cut true false u l kept well =
        cut_calm trade p rooms site (steps_of trade p now site cut) cut kept well
    turn_calm p rooms site cut true true u l kept well = absurd (false≢true (sym l))
    turn_calm p rooms site cut false late u l kept well = absurd (false≢true u)

    turned_calm : (p : ℕ) (rooms : ℕ → ℕ) (site : Site) (cut : Cut) → site.up ≡ true
        → nat_lt now (last_of trade p site.journal) ≡ false
        → IsOfKept cut → WentWell (turned trade p now rooms cut site).ended → IsCalm cut
    unfolding turned
    turned_calm p rooms site cut u l kept well = turn_calm p rooms site cut site.up
        (nat_lt now (last_of trade p site.journal)) u l kept well

    -- ---- all turns

    abbrev Tests : ℕ → Turn → Bool
    Tests k turn = (turn.provider == k) && is_disk_fault turn.ended

    none_by : (k : ℕ) (turn : Turn) (turns : List Turn) (b : Bool) → Tests k turn ≡ b
        → length (if b then turn ∷ filter (Tests k) turns else filter (Tests k) turns) ≡ 0
        → (Tests k turn ≡ false) × (times (Tests k) turns ≡ 0)
    none_by k turn turns true is e = absurd (omega (arith, e))
    none_by k turn turns false is e = (is, e)

    none_first : (k : ℕ) (turn : Turn) (turns : List Turn) → faults_in k (turn ∷ turns) ≡ 0
        → (Tests k turn ≡ false) × (faults_in k turns ≡ 0)
    none_first k turn turns e = none_by k turn turns (Tests k turn) refl e

    own_fault : (number : ℕ) (b : Bool) → ((number == number) && b) ≡ false → b ≡ false
    own_fault number b e = sym (ap (λ (c : Bool). c && b) (eq-eqb number number refl)) ∙ e

    -- these turns tell no fault of a disk, no want of memory and no entry that changed
    pub record AllWell (number : ℕ) (turns : List Turned) : Type 0 where
      pub disks : (k : ℕ) → faults_in k (told_from number turns) ≡ 0
      pub memory : All (λ (turn : Turn). turn.ended ≢ Some faults.NoMemory) (told_from number turns)
      pub same : All (λ (turn : Turn). is_change turn.ended ≡ false) (told_from number turns)

    abbrev told_of : ℕ → Turned → Turn
    told_of number turn =
        record { provider = number; events = turn.events; sent = sent_from 0 turn.out; ended = turn.ended }

    well_first : (number : ℕ) (turn : Turned) (turns : List Turned) → AllWell number (turn ∷ turns)
        → WentWell turn.ended
    well_first number turn turns all = record {
      disk = own_fault number (is_disk_fault turn.ended)
          (none_first number (told_of number turn) (told_from (number + 1) turns) (all.disks number)).0;
      memory = All-head (λ (t : Turn). t.ended ≢ Some faults.NoMemory) (told_of number turn)
          (told_from (number + 1) turns) all.memory;
      same = All-head (λ (t : Turn). is_change t.ended ≡ false) (told_of number turn)
          (told_from (number + 1) turns) all.same;
    }

    well_rest : (number : ℕ) (turn : Turned) (turns : List Turned) → AllWell number (turn ∷ turns)
        → AllWell (number + 1) turns
    well_rest number turn turns all = record {
      disks = λ k. (none_first k (told_of number turn) (told_from (number + 1) turns) (all.disks k)).1;
      memory = All-tail (λ (t : Turn). t.ended ≢ Some faults.NoMemory) (told_of number turn)
          (told_from (number + 1) turns) all.memory;
      same = All-tail (λ (t : Turn). is_change t.ended ≡ false) (told_of number turn)
          (told_from (number + 1) turns) all.same;
    }

    both_turns : (x y : Turned) (xs ys : List Turned) → x ≡ y → xs ≡ ys → x ∷ xs ≡ y ∷ ys
    both_turns x y xs ys e f = rw (e, f) refl

    turns_same : (number : ℕ) (ss : List Site) → GaveWhatWasKept luck
        → AllWell number (turns_from trade now sites luck.cuts number ss)
        → turns_from trade now sites luck.cuts number ss ≡ turns_from trade now sites calm_luck.cuts number ss
    unfolding calm_luck
    turns_same number [] kept all = refl
    turns_same number (s ∷ ss) kept all =
        let turn = turned trade number now (rooms_of sites number) (luck.cuts number) s
        in let turns = turns_from trade now sites luck.cuts (number + 1) ss
        in both_turns turn (turned trade number now (rooms_of sites number) (calmed (luck.cuts number)) s) turns
        (turns_from trade now sites (λ p. calmed (luck.cuts p)) (number + 1) ss)
        (turned_same number (rooms_of sites number) s (luck.cuts number) (kept number)
        (well_first number turn turns all))
        (turns_same (number + 1) ss kept (well_rest number turn turns all))

    abbrev CalmAt : ℕ → Site → Type 0
    CalmAt p site = site.up ≡ true → nat_lt now (last_of trade p site.journal) ≡ false → IsCalm (luck.cuts p)

    all_calm : (number : ℕ) (ss : List Site) → GaveWhatWasKept luck
        → AllWell number (turns_from trade now sites luck.cuts number ss)
        → (k : ℕ) → k < length ss → CalmAt (number + k) (slice_index_or ss k empty_site)
    all_calm number [] kept all k l = absurd (omega arith)
    all_calm number (s ∷ ss) kept all zero l =
        let turn = turned trade number now (rooms_of sites number) (luck.cuts number) s
        in subst (λ (q : ℕ). CalmAt q s) (let z : number ≡ number + 0 = omega arith in z)
        (λ u late. turned_calm number (rooms_of sites number) s (luck.cuts number) u late (kept number)
        (well_first number turn (turns_from trade now sites luck.cuts (number + 1) ss) all))
    all_calm number (s ∷ ss) kept all (suc k) l =
        let turn = turned trade number now (rooms_of sites number) (luck.cuts number) s
        in subst (λ (q : ℕ). CalmAt q (slice_index_or ss k empty_site))
        (let z : (number + 1) + k ≡ number + suc k = omega arith in z)
        (all_calm (number + 1) ss kept (well_rest number turn
        (turns_from trade now sites luck.cuts (number + 1) ss) all) k (omega arith))

    -- the turns of a round that is told so
    turns_well : All (λ (turn : Turn). turn.ended ≢ Some faults.NoMemory) (rounded trade now luck.cuts sites).turns
        → ((k : ℕ) → faults_in k (rounded trade now luck.cuts sites).turns ≡ 0)
        → All (λ (turn : Turn). is_change turn.ended ≡ false) (rounded trade now luck.cuts sites).turns
        → AllWell 0 (turns_from trade now sites luck.cuts 0 sites)
    unfolding rounded turns_of
    turns_well memory disks same = record { disks = disks; memory = memory; same = same }

    rounded_same : GaveWhatWasKept luck → AllWell 0 (turns_from trade now sites luck.cuts 0 sites)
        → rounded trade now luck.cuts sites ≡ rounded trade now calm_luck.cuts sites
    unfolding rounded turns_of
    rounded_same kept all =
        ap (λ (turns : List Turned). let r : Rounded = record {
          sites = delivered
              (outs_of turns) 0 turns;
          turns = told_from 0 turns;
        } in r)
        (turns_same 0 sites kept all)

    round_may : GaveWhatWasKept luck → AllWell 0 (turns_from trade now sites luck.cuts 0 sites)
        → MayMeet trade luck sites (Round now)
        → MayMeet trade calm_luck sites (Round now)
    unfolding calm_luck
    round_may kept all may p l u late =
        let calm : IsCalm (luck.cuts p) =
        subst (λ (q : ℕ). CalmAt q (slice_index_or sites p empty_site) → IsCalm (luck.cuts p))
        (let z : p ≡ 0 + p = omega arith in z) (λ at. at u late)
        (all_calm 0 sites kept all p l)
        in subst (λ (cut : Cut). MayCut trade p (steps_of trade p now (site_at sites p) cut) cut)
        (sym (calmed_same (luck.cuts p) calm)) (may p l u late)

  -- ---- looks at items

  module _ (shows : ShowsItsOwn luck) (may : IfSome luck.read IsOfRead) where
    read_same : (p : ℕ) (bytes : Bytes) (read : Option ProviderFault) → IfSome read IsOfRead
        → faults_at p p (read_back read bytes sites p).answer ≡ 0 → IsUnchanged (read_back read bytes sites p).answer
        → read_back read bytes sites p ≡ read_back None bytes sites p
    read_same p bytes None of none same = refl
    read_same p bytes (Some faults.DiskFault) of none same = absurd (one_is_some (p == p) (eq-eqb p p refl) none)
    read_same p bytes (Some faults.NoMemory) of none same = absurd of
    read_same p bytes (Some faults.Down) of none same = absurd of
    read_same p bytes (Some (faults.ClockBack last)) of none same = absurd of
    read_same p bytes (Some faults.NoAccount) of none same = absurd of
    read_same p bytes (Some faults.Full) of none same = absurd of
    read_same p bytes (Some faults.NoItem) of none same = absurd of
    read_same p bytes (Some faults.JournalFull) of none same = absurd of
    read_same p bytes (Some faults.OldJournal) of none same = absurd of
    read_same p bytes (Some faults.NoNeed) of none same = absurd of
    read_same p bytes (Some (faults.Changed entry)) of none same = absurd (false≢true (sym same))

    bytes_same : (p : ℕ) (text : Option Bytes) → faults_at p p (shown_bytes luck sites p text).answer ≡ 0
        → IsUnchanged (shown_bytes luck sites p text).answer
        → shown_bytes luck sites p text ≡ shown_bytes calm_luck sites p text
    unfolding calm_luck
    bytes_same p None none same = refl
    bytes_same p (Some bytes) none same =
        let own = ap (λ (s : Option Bytes). read_back luck.read (unwrap_or s bytes) sites p) shows
        in own ∙ read_same p bytes luck.read may (subst (λ (x : Played). faults_at p p x.answer ≡ 0) own none)
        (subst (λ (x : Played). IsUnchanged x.answer) own same)

    posted_same : (p : ℕ) (posted : Option Posted) → faults_at p p (shown trade luck sites p posted).answer ≡ 0
        → IsUnchanged (shown trade luck sites p posted).answer
        → shown trade luck sites p posted ≡ shown trade calm_luck sites p posted
    unfolding calm_luck
    posted_same p None none same = refl
    posted_same p (Some posted) none same =
        bytes_same p (item_text trade p (journal_at sites p) posted) none same

    -- the item that is looked for in a half
    module _ (find : Half → Option Posted) where
      abbrev look_with : Luck → ℕ → Half → Played
      look_with l p h = shown trade l sites p (find h)

      looked_by : (p : ℕ) (up : Bool) (h : Half)
          → faults_at p p (if up then look_with luck p h else answers sites (Refuses faults.Down)).answer ≡ 0
          → IsUnchanged (if up then look_with luck p h else answers sites (Refuses faults.Down)).answer
          → (if up then look_with luck p h else answers sites (Refuses faults.Down))
          ≡ (if up then look_with calm_luck p h else answers sites (Refuses faults.Down))
      looked_by p true h none same = posted_same p (find h) none same
      looked_by p false h none same = refl

      looked_same : (home : Option ℕ)
          → ((k : ℕ) → faults_at_home k home (asked sites (look_with luck) trade home).answer ≡ 0)
          → IsUnchanged (asked sites (look_with luck) trade home).answer
          → asked sites (look_with luck) trade home ≡ asked sites (look_with calm_luck) trade home
      looked_same None none same = refl
      looked_same (Some p) none same =
          looked_by p (site_at sites p).up (half trade p (journal_at sites p)) (none p) same

  -- ---- all commands

  abbrev Twin : Command → Type 0
  Twin command = MayMeet trade calm_luck sites command
      × (played trade luck sites command ≡ played trade calm_luck sites command)

  abbrev ToldWell : Command → Type 0
  ToldWell command = HasMemory (played trade luck sites command).answer
      × ((k : ℕ) → faults_by trade k command (played trade luck sites command).answer ≡ 0)
      × IsUnchanged (played trade luck sites command).answer

  pub twin : (command : Command) → MayMeet trade luck sites command → GaveWhatWasKept luck → ShowsItsOwn luck
      → ToldWell command → Twin command
  unfolding played calm_luck
  twin (Submit p now sender along message) may kept own well = (
    tt,
    no_fault p (submitted trade luck sites p now sender along message (finds_at sites p message))
        (submitted trade calm_luck sites p now sender along message (finds_at sites p message))
        (submitted_alike p now sender along message (finds_at sites p message)) (well.1 p),
  )
  twin (Tick p now) may kept own well = (
    tt,
    no_fault p (ticked trade luck sites p now) (ticked trade calm_luck sites p now) (ticked_alike p now)
        (well.1 p),
  )
  twin (Round now) may kept own well =
      let all = turns_well now well.0 well.1 well.2
      in (
        round_may now kept all may,
        ap (λ
            (r : Rounded). let x : Played = record { answer = Turns r.turns; after = r.sites } in x)
            (rounded_same now kept all),
      )
  twin (Lose from to place) may kept own well = (tt, refl)
  twin (Repeat from to place) may kept own well = (tt, refl)
  twin (Swap from to place) may kept own well = (tt, refl)
  twin (Inject from to frame) may kept own well = (tt, refl)
  twin (Crash p) may kept own well = (tt, refl)
  twin (Restart p) may kept own well = (
    tt,
    no_fault p (restarted luck sites p (site_at sites p)) (restarted calm_luck sites p (site_at sites p))
        (restarted_alike p (site_at sites p)) (well.1 p),
  )
  twin (Book address) may kept own well = (tt, refl)
  twin (Mailbox address) may kept own well = (tt, refl)
  twin (Show address place) may kept own well = (
    tt,
    looked_same own may (λ h. slice_get (mailbox h address) place) (account_home trade address (trade.home address))
        well.1 well.2,
  )
  twin (Archive address now place) may kept own well = (
    tt,
    archived_same now address place (account_home trade address (trade.home address)) well.1,
  )
  twin (Upgrade p now) may kept own well = (
    tt,
    no_fault p (upgraded trade luck sites p now) (upgraded trade calm_luck sites p now) (upgraded_alike p now) (well.1 p),
  )
  twin (Vault address) may kept own well = (tt, refl)
  twin (VaultShow address place) may kept own well = (
    tt,
    looked_same own may (λ h. slice_get (archive h address) place) (account_home trade address (trade.home address))
        well.1 well.2,
  )
  twin (Screen p place spare) may kept own well = (tt, refl)

-- ---- what is told of a command without faults

module _ (trade : Trade) (sites : List Site) (luck : Luck) (quiet : IsQuiet luck) where
  -- no fault of any disk is told by a call at this provider, no want of memory, and no entry that changed
  abbrev Well : ℕ → Played → Type 0
  Well asked x = HasMemory x.answer × ((k : ℕ) → faults_at k asked x.answer ≡ 0) × IsUnchanged x.answer

  well_if : (asked : ℕ) (b : Bool) (x y : Played) → Well asked x → Well asked y → Well asked (if b then x else y)
  well_if asked true x y a c = a
  well_if asked false x y a c = c

  appended_well : (asked : ℕ) (fails : Bool) → fails ≡ false → (p : ℕ) (entry : Entry) (answer : Answer)
      → Well asked (answers sites answer)
      → Well asked (appended fails sites p entry answer)
  appended_well asked true e p entry answer a = absurd (false≢true (sym e))
  appended_well asked false e p entry answer a = a

  append_well : (asked p : ℕ) (entry : Entry) (answer : Answer) → Well asked (answers sites answer)
      → Well asked (append trade luck sites p entry answer)
  append_well asked p entry answer a =
      well_if asked (has_no_room trade p (journal_at sites p) entry) (answers sites (Refuses faults.JournalFull))
      (appended luck.fails sites p entry answer) (tt, λ k. refl, refl)
      (appended_well asked luck.fails quiet.works p entry answer a)

  work_well : (asked p now : ℕ) (done : Played) → Well asked done → Well asked (at_work trade sites p now done)
  work_well asked p now done a =
      well_if asked (site_at sites p).up _ (answers sites (Refuses faults.Down))
      (well_if asked (nat_lt now (last_of trade p (journal_at sites p)))
      (answers sites (Refuses (faults.ClockBack (last_of trade p (journal_at sites p))))) done (tt, λ k. refl, refl) a)
      (tt, λ k. refl, refl)

  submitted_well : (p now : ℕ) (sender : Bytes) (along : Path) (message : Bytes) (found : Bool)
      → Well p (submitted trade luck sites p now sender along message found)
  submitted_well p now sender along message found =
      well_if p (trade.is_account p sender) _ (answers sites (Refuses faults.NoAccount))
      (work_well p p now _
      (well_if p (nat_lt (messages_at trade sites p) MESSAGES) _ (answers sites (Refuses faults.Full))
      (append_well p p _ _ (tt, λ k. refl, tt)) (tt, λ k. refl, refl)))
      (tt, λ k. refl, refl)

  ticked_well : (p now : ℕ) → Well p (ticked trade luck sites p now)
  ticked_well p now = work_well p p now _ (append_well p p (entries.Ticked now) _ (tt, λ k. refl, tt))

  restarted_well : (p : ℕ) (site : Site) → Well p (restarted luck sites p site)
  restarted_well p site =
      well_if p site.up (answers sites IsUp) _ (tt, λ k. refl, tt) (by_luck luck.fails quiet.works)
    where
      by_luck : (fails : Bool) → fails ≡ false
          → Well p (if fails then answers sites (Refuses faults.DiskFault) else up_again trade sites luck p site)
      by_luck true e = absurd (false≢true (sym e))
      by_luck false e = (tt, λ k. refl, tt)

  -- ---- rounds

  cut_well : (p : ℕ) (rooms : ℕ → ℕ) (site : Site) (steps : List Step) (cut : Cut) → IsCalm cut
      → WentWell (cut_turn trade p rooms site steps cut).ended
  cut_well p rooms site steps Whole calm = record { disk = refl; memory = λ e. cc; same = refl }
  cut_well p rooms site steps (Fails n fault) calm = absurd calm
  cut_well p rooms site steps (Full n) calm = record { disk = refl; memory = λ e. cc; same = refl }
  cut_well p rooms site steps (Stops n) calm = absurd calm
  cut_well p rooms site steps (Unread n fault) calm = absurd calm
  cut_well p rooms site steps (Other out) calm = absurd calm
  cut_well p rooms site steps (Sees looks cut) calm = absurd calm

  ended_if : (b : Bool) (x y : Turned) → WentWell x.ended → WentWell y.ended → WentWell (if b then x else y).ended
  ended_if true x y a c = a
  ended_if false x y a c = c

  turned_well : (p now : ℕ) (rooms : ℕ → ℕ) (site : Site) (cut : Cut) → IsCalm cut
      → WentWell (turned trade p now rooms cut site).ended
  unfolding turned
  turned_well p now rooms site cut calm =
      ended_if site.up _ (not_begun site faults.Down)
      (ended_if (nat_lt now (last_of trade p site.journal))
      (not_begun site (faults.ClockBack (last_of trade p site.journal))) _
      (record { disk = refl; memory = λ e. cc; same = refl })
      (cut_well p rooms site (steps_of trade p now site cut) cut calm))
      (record { disk = refl; memory = λ e. cc; same = refl })

  none_more : (k : ℕ) (turn : Turn) (turns : List Turn) (b : Bool) → b ≡ false
      → length (filter (Tests trade sites luck 0 k) turns) ≡ 0
      → length (if b then turn ∷ filter (Tests trade sites luck 0 k) turns else filter
      (Tests trade sites luck 0 k) turns) ≡ 0
  none_more k turn turns true e n = absurd (false≢true (sym e))
  none_more k turn turns false e n = n

  and_false : (a b : Bool) → b ≡ false → (a && b) ≡ false
  and_false true b e = e
  and_false false b e = refl

  turns_none : (k now number : ℕ) (ss : List Site)
      → faults_in k (told_from number (turns_from trade now sites luck.cuts number ss)) ≡ 0
  turns_none k now number [] = refl
  turns_none k now number (s ∷ ss) =
      let turn = turned trade number now (rooms_of sites number) (luck.cuts number) s
      in let told = told_of trade sites luck now number turn
      in none_more k told (told_from (number + 1) (turns_from trade now sites luck.cuts (number + 1) ss))
      (Tests trade sites luck 0 k told)
      (and_false (number == k) (is_disk_fault turn.ended)
      (turned_well number now (rooms_of sites number) s (luck.cuts number) (quiet.cuts number)).disk)
      (turns_none k now (number + 1) ss)

  turns_memory : (now number : ℕ) (ss : List Site)
      → All (λ (turn : Turn). turn.ended ≢ Some faults.NoMemory)
      (told_from number (turns_from trade now sites luck.cuts number ss))
  turns_memory now number [] = All-nil (λ (turn : Turn). turn.ended ≢ Some faults.NoMemory)
  turns_memory now number (s ∷ ss) =
      let turn = turned trade number now (rooms_of sites number) (luck.cuts number) s
      in All-cons (λ (t : Turn). t.ended ≢ Some faults.NoMemory) (told_of trade sites luck now number turn)
      (told_from (number + 1) (turns_from trade now sites luck.cuts (number + 1) ss))
      (turned_well number now (rooms_of sites number) s (luck.cuts number) (quiet.cuts number)).memory
      (turns_memory now (number + 1) ss)

  turns_unchanged : (now number : ℕ) (ss : List Site)
      → All (λ (turn : Turn). is_change turn.ended ≡ false)
      (told_from number (turns_from trade now sites luck.cuts number ss))
  turns_unchanged now number [] = All-nil (λ (turn : Turn). is_change turn.ended ≡ false)
  turns_unchanged now number (s ∷ ss) =
      let turn = turned trade number now (rooms_of sites number) (luck.cuts number) s
      in All-cons (λ (t : Turn). is_change t.ended ≡ false) (told_of trade sites luck now number turn)
      (told_from (number + 1) (turns_from trade now sites luck.cuts (number + 1) ss))
      (turned_well number now (rooms_of sites number) s (luck.cuts number) (quiet.cuts number)).same
      (turns_unchanged now (number + 1) ss)

  rounded_well : (now : ℕ) → All (λ (turn : Turn). turn.ended ≢ Some faults.NoMemory)
      (rounded trade now luck.cuts sites).turns
      × ((k : ℕ) → faults_in k (rounded trade now luck.cuts sites).turns ≡ 0)
      × All (λ (turn : Turn). is_change turn.ended ≡ false) (rounded trade now luck.cuts sites).turns
  unfolding rounded turns_of
  rounded_well now = (turns_memory now 0 sites, λ k. turns_none k now 0 sites, turns_unchanged now 0 sites)

  -- ---- what accounts are shown, and links

  abbrev Remembers : Played → Type 0
  Remembers x = HasMemory x.answer × IsUnchanged x.answer

  remembers_if : (b : Bool) (x y : Played) → Remembers x → Remembers y → Remembers (if b then x else y)
  remembers_if true x y a c = a
  remembers_if false x y a c = c

  asked_well : (show : ℕ → Half → Played) (home : Option ℕ) → ((p : ℕ) (h : Half) → Well p (show p h))
      → HasMemory (asked sites show trade home).answer
      × ((k : ℕ) → faults_at_home k home (asked sites show trade home).answer ≡ 0)
      × IsUnchanged (asked sites show trade home).answer
  asked_well show None each = (tt, λ k. refl, refl)
  asked_well show (Some p) each =
      well_if p (site_at sites p).up (show p (half trade p (journal_at sites p)))
      (answers sites (Refuses faults.Down)) (each p _) (tt, λ k. refl, refl)

  bytes_well : (p : ℕ) (text : Option Bytes) → Well p (shown_bytes luck sites p text)
  bytes_well p None = (tt, λ k. refl, refl)
  bytes_well p (Some bytes) =
      subst (λ (read : Option ProviderFault). Well p (read_back read (unwrap_or luck.shown bytes) sites p))
      (sym quiet.reads) (tt, λ k. refl, tt)

  shown_well : (p : ℕ) (found : Option Posted) → Well p (shown trade luck sites p found)
  shown_well p None = (tt, λ k. refl, refl)
  shown_well p (Some posted) = bytes_well p (item_text trade p (journal_at sites p) posted)

  again_well : (from to : ℕ) (found : Option Bytes) → Remembers (put_again sites from to found)
  again_well from to None = (tt, tt)
  again_well from to (Some frame) = remembers_if (nat_lt (length (frames_between sites from to)) link_size) _
      (answers sites LinkFull) (tt, tt) (tt, tt)

  swapped_well : (from to : ℕ) (found : Option (List Bytes)) → Remembers (swapped sites from to found)
  swapped_well from to None = (tt, tt)
  swapped_well from to (Some frames) = (tt, tt)

  screened_well : (p place : ℕ) (spare : Option Patterns) → Remembers (screened sites p place spare)
  screened_well p place None = (tt, tt)
  screened_well p place (Some patterns) =
      remembers_if (site_at sites p).up _ (answers sites (Refuses faults.Down))
      (remembers_if (nat_lt place (length (site_at sites p).screens)) _ (answers sites NoScreen) (tt, tt) (tt, tt)) (tt, refl)

  -- ---- archives

  archived_well : (now : ℕ) (account : Bytes) (place : ℕ) (home : Option ℕ)
      → HasMemory (archived trade luck sites home now account place).answer
      × ((k : ℕ) → faults_at_home k home (archived trade luck sites home now account place).answer ≡ 0)
      × IsUnchanged (archived trade luck sites home now account place).answer
  archived_well now account place None = (tt, λ k. refl, refl)
  archived_well now account place (Some p) =
      work_well p p now _
      (well_if p (nat_lt place (items_at trade sites p account)) _ (answers sites (Refuses faults.NoItem))
      (well_if p (version_at trade sites p == 2) _ (answers sites (Refuses faults.OldJournal))
      (append_well p p (entries.Archived now account place) Archived (tt, λ k. refl, tt)) (tt, λ k. refl, refl))
      (tt, λ k. refl, refl))

  upgraded_well : (p now : ℕ) → Well p (upgraded trade luck sites p now)
  upgraded_well p now =
      work_well p p now _
      (well_if p (version_at trade sites p == 1) _ (answers sites (Refuses faults.NoNeed))
      (append_well p p (entries.Upgraded now) Upgraded (tt, λ k. refl, tt)) (tt, λ k. refl, refl))

  pub quiet_well : (command : Command) → ToldWell trade sites luck command
  unfolding played
  quiet_well (Submit p now sender along message) =
      submitted_well p now sender along message (finds_at sites p message)
  quiet_well (Tick p now) = ticked_well p now
  quiet_well (Round now) = rounded_well now
  quiet_well (Lose from to place) =
      let so = remembers_if (nat_lt place (length (frames_between sites from to))) _ (answers sites NoFrame) (tt, tt)
      (tt, tt)
      in (so.0, λ k. refl, so.1)
  quiet_well (Repeat from to place) =
      let so = again_well from to (slice_get (frames_between sites from to) place) in (so.0, λ k. refl, so.1)
  quiet_well (Swap from to place) =
      let so = swapped_well from to (swapped_at place (frames_between sites from to)) in (so.0, λ k. refl, so.1)
  quiet_well (Inject from to frame) =
      let so = remembers_if (nat_lt (length (frames_between sites from to)) link_size) _ (answers sites LinkFull) (tt, tt)
      (tt, tt)
      in (so.0, λ k. refl, so.1)
  quiet_well (Crash p) = (tt, λ k. refl, tt)
  quiet_well (Restart p) = restarted_well p (site_at sites p)
  quiet_well (Book address) =
      let so = asked_well (λ (p : ℕ) (h : Half). answers sites (Lines (book trade p h address)))
      (account_home trade address (trade.home address)) (λ p h. (tt, λ k. refl, tt))
      in (so.0, λ k. refl, so.2)
  quiet_well (Mailbox address) =
      let so = asked_well (λ (p : ℕ) (h : Half). answers sites (Items (mailbox_lines h address)))
      (account_home trade address (trade.home address)) (λ p h. (tt, λ k. refl, tt))
      in (so.0, λ k. refl, so.2)
  quiet_well (Show address place) =
      asked_well (λ (p : ℕ) (h : Half). shown trade luck sites p (slice_get (mailbox h address) place))
      (account_home trade address (trade.home address))
      (λ p h. shown_well p (slice_get (mailbox h address) place))
  quiet_well (Archive address now place) =
      archived_well now address place (account_home trade address (trade.home address))
  quiet_well (Upgrade p now) = upgraded_well p now
  quiet_well (Vault address) =
      let so = asked_well (λ (p : ℕ) (h : Half). answers sites (Vaults (archive_lines h address)))
      (account_home trade address (trade.home address)) (λ p h. (tt, λ k. refl, tt))
      in (so.0, λ k. refl, so.2)
  quiet_well (VaultShow address place) =
      asked_well (λ (p : ℕ) (h : Half). shown trade luck sites p (slice_get (archive h address) place))
      (account_home trade address (trade.home address))
      (λ p h. shown_well p (slice_get (archive h address) place))
  quiet_well (Screen p place spare) = let so = screened_well p place spare in (so.0, λ k. refl, so.1)
