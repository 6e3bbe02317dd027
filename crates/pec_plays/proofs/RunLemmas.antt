-- No two answers of a run decide one pair, and none learn one: each told pair is that of a new row at its one provider.
use Rattle.std.proofs.Common.{◌≡◌, ℕ, suc, ◌+◌, ◌<◌, ◌≤◌, List, [], ◌∷◌, ◌++◌, Bool, true, false, inl, inr, length, refl, ap, sym, subst, ◌∙◌, arith, nat_lt, Option, Some, None}
use Rattle.std.specs.Prelude.{slice_get, ◌==◌, if◌then◌else◌}
use Rattle.std.specs.List.{find, flat_map}
use Rattle.std.specs.Option.{unwrap_or}
use Rattle.std.proofs.lemmas.Bool.{cases_eq, cases_lt}
use Rattle.std.proofs.lemmas.Option.{none-some, same_Some, slice_get_past}
use Rattle.pec_types.specs.Bytes.{Bytes}
use Rattle.pec_types.specs.declared.turns.Event.{Event}
use Rattle.pec_types.specs.declared.messages.TheConstants.{MESSAGES}
use Rattle.pec_types.specs.declared.turns.ProviderFault.{ProviderFault}
use Rattle.pec_records.specs.declared.entries.Entry.{Entry}
use Rattle.pec_records.specs.declared.entries.Entry.TheVariants as entries
use Rattle.pec_screen.specs.Verdicts.{Patterns}
use Rattle.pec_ledger.specs.Along.{AllDiffer, GoesOnAs, times}
use Rattle.pec_ledger.specs.Half.{Fate, Half, Known, Posted}
use Rattle.pec_ledger.specs.Items.{item_text}
use Rattle.pec_ledger.specs.Ledger.{Fit, Journals, ledger}
use Rattle.pec_ledger.specs.Lookups.{archive, decided_of, known_of, mailbox}
use Rattle.pec_ledger.specs.Books.{archive_lines, book, mailbox_lines}
use Rattle.pec_ledger.specs.Network.{Site, Sound, frames_between, journal_at, journals_of, site_at}
use Rattle.pec_ledger.specs.Own.{IsOwnPair}
use Rattle.pec_ledger.specs.Guarantees.{OneOutcome}
use Rattle.pec_ledger.specs.Pairs.{Pair, same_pair}
use Rattle.pec_ledger.specs.Steps.{half}
use Rattle.pec_ledger.specs.Trade.{Trade}
use Rattle.pec_plays.specs.Commands.{Answer, Command, Luck, Played, Submit, Tick, Round, Lose, Repeat, Swap, Inject, Crash, Restart, Book, Mailbox, Show, Lines, Items, account_home, answers, append, appended, asked, at_work, messages_at, played, put_again, read_back, shown, shown_bytes, swapped, swapped_at, Archive, Upgrade, Vault, VaultShow, Archived, Upgraded, Vaults, Screen, archived, items_at, screened, upgraded, version_at}
use Rattle.pec_plays.specs.Steps.{has_no_room}
use Rattle.pec_plays.specs.Rounds.{delivered, link_size, outs_of, rooms_of, rounded, told_from, turns_from, turns_of}
use Rattle.pec_plays.specs.Scripts.{AllUnforged, IsUnforged, script}
use Rattle.pec_plays.specs.Told.{decided_told, decides, learned_told, learns, named_by, named_in}
use Rattle.pec_plays.specs.Turns.{Turned, last_of, turned}
use Rattle.pec_plays.proofs.DeliveryLemmas.{after_is, past_the_end, turn_in, turn_is, turns_length}
use Rattle.pec_plays.proofs.GoesOnLemmas.{played_goes_on}
use Rattle.pec_plays.proofs.ToldLemmas.{decided_more, decided_on, decided_rows, differ_by_counts, known_more, known_on, known_rows, none_counted, times_append, times_mapped, turn_tells}

-- Where a pair can have a row at all, and how often it has one: at most once, and nowhere else.
pub record Once (rows : Half → List Pair) (home : Pair → Option ℕ) (trade : Trade) (J : Journals) : Type 0 where
  pub once : (p : ℕ) (pair : Pair) → times (same_pair pair) (rows (half trade p (J p))) ≤ 1
  pub elsewhere : (p : ℕ) (pair : Pair) → (home pair ≡ Some p → ⊥) → times (same_pair pair) (rows (half trade p (J p))) ≡ 0

module _ (trade : Trade) (names : Event → List Pair) (rows : Half → List Pair) (by : Entry → List Pair) (home : Pair → Option ℕ)
    (rows_on : (p : ℕ) (es more : List Entry) → rows (half trade p (es ++ more)) ≡ rows (half trade p es) ++ flat_map by more)
    (tells : (p now : ℕ) (rooms : ℕ → ℕ) (site : Site) (luck : Luck) → (more : List Entry)
    × ((turned trade p now rooms (luck.cuts p) site).site.journal ≡ site.journal ++ more)
    × (flat_map names (turned trade p now rooms (luck.cuts p) site).events ≡ flat_map by more)) where
  abbrev row_count : Pair → ℕ → List Entry → ℕ
  row_count pair p es = times (same_pair pair) (rows (half trade p es))

  abbrev told_count : Pair → Turned → ℕ
  told_count pair turn = times (same_pair pair) (flat_map names turn.events)

  -- rows that go on
  counted_on : (pair : Pair) (p : ℕ) (es more : List Entry) → row_count pair p (es ++ more) ≡ row_count pair p es + times (same_pair pair) (flat_map by more)
  counted_on pair p es more = ap (times (same_pair pair)) (rows_on p es more) ∙ times_append (same_pair pair) (rows (half trade p es)) (flat_map by more)

  never_fewer : (pair : Pair) (p : ℕ) (es fs : List Entry) → GoesOnAs es fs → row_count pair p es ≤ row_count pair p fs
  never_fewer pair p es fs more =
      let e = ap (row_count pair p) more.1 ∙ counted_on pair p es more.0 in omega (arith, e)

  -- the rows of a pair, where it can have some
  abbrev at_home : Journals → Pair → Option ℕ → ℕ
  at_home J pair None = 0
  at_home J pair (Some p) = row_count pair p (J p)

  -- ---- a round

  -- what is told of many turns is at most what is told of one, where none of the others tells of the pair
  none_told : (pair : Pair) (turns : List Turned) (number : ℕ) → ((k : ℕ) (turn : Turned) → slice_get turns k ≡ Some turn → told_count pair turn ≡ 0)
      → times (same_pair pair) (named_in names (told_from number turns)) ≡ 0
  none_told pair [] number each = refl
  none_told pair (turn ∷ turns) number each =
      let first = each 0 turn refl
      in let later = none_told pair turns (number + 1) (λ k t e. each (suc k) t e)
      in let all = times_append (same_pair pair) (flat_map names turn.events) (named_in names (told_from (number + 1) turns))
      in omega (arith, first, later, all)

  one_tells : (pair : Pair) (q bound : ℕ) (turns : List Turned) (number : ℕ)
      → ((k : ℕ) (turn : Turned) → slice_get turns k ≡ Some turn → number + k ≡ q → told_count pair turn ≤ bound)
      → ((k : ℕ) (turn : Turned) → slice_get turns k ≡ Some turn → (number + k ≡ q → ⊥) → told_count pair turn ≡ 0)
      → times (same_pair pair) (named_in names (told_from number turns)) ≤ bound
  one_tells pair q bound [] number here there = omega arith
  one_tells pair q bound (turn ∷ turns) number here there =
      let all = times_append (same_pair pair) (flat_map names turn.events) (named_in names (told_from (number + 1) turns))
      in elim (cases_eq number q) [
        | inl same ↦
            let first = here 0 turn refl (let z : number + 0 ≡ number = omega arith in z ∙ same)
            in let later = none_told pair turns (number + 1)
            (λ k t e. there (suc k) t e (λ (z : number + suc k ≡ q). absurd (let l : number < number + suc k = omega arith in omega (arith, l, same, z))))
            in omega (arith, all, first, later)
        | inr other ↦
            let first = there 0 turn refl (λ (z : number + 0 ≡ q). other (let y : number ≡ number + 0 = omega arith in y ∙ z))
            in let later = one_tells pair q bound turns (number + 1)
            (λ k t e z. here (suc k) t e (let y : number + suc k ≡ (number + 1) + k = omega arith in y ∙ z))
            (λ k t e n. there (suc k) t e (λ (z : number + suc k ≡ q). n (let y : (number + 1) + k ≡ number + suc k = omega arith in y ∙ z)))
            in omega (arith, all, first, later)
      ]

  module _ (sites : List Site) (now : ℕ) (luck : Luck) where
    abbrev after : List Site
    after = delivered (outs_of (turns_from trade now sites luck.cuts 0 sites)) 0 (turns_from trade now sites luck.cuts 0 sites)

    turn_counts : (pair : Pair) (p : ℕ) → p < length sites
        → told_count pair (turn_in trade now luck.cuts sites p) + row_count pair p (journal_at sites p) ≡ row_count pair p (journal_at after p)
    turn_counts pair p l =
        let turn = tells p now (rooms_of sites p) (site_at sites p) luck
        in let told = ap (times (same_pair pair)) turn.2
        in let grown = counted_on pair p (journal_at sites p) turn.0
        in let ends = ap (row_count pair p) (ap (λ (s : Site). s.journal) (after_is trade now luck.cuts sites p l) ∙ turn.1)
        in omega (arith, told, grown, ends)

    at_place : (k : ℕ) (turn : Turned) → slice_get (turns_from trade now sites luck.cuts 0 sites) k ≡ Some turn
        → (k < length sites) × (turn_in trade now luck.cuts sites k ≡ turn)
    at_place k turn e =
        elim (cases_lt k (length sites)) [
          | inl l ↦ (l, same_Some (turn_in trade now luck.cuts sites k) turn (sym (turn_is trade now luck.cuts sites k l) ∙ e))
          | inr l ↦ absurd (none-some turn (sym (slice_get_past (turns_from trade now sites luck.cuts 0 sites) k
              (let n = turns_length trade now sites luck.cuts 0 sites in omega (arith, l, n))) ∙ e))
        ]

    told_by : (pair : Pair) (k : ℕ) (turn : Turned) → slice_get (turns_from trade now sites luck.cuts 0 sites) k ≡ Some turn
        → told_count pair turn + row_count pair k (journal_at sites k) ≡ row_count pair k (journal_at after k)
    told_by pair k turn e =
        let place = at_place k turn e
        in subst (λ (t : Turned). told_count pair t + row_count pair k (journal_at sites k) ≡ row_count pair k (journal_at after k)) place.1 (turn_counts pair k place.0)

    -- what a round tells of a pair is new at its home
    round_tells : Once rows home trade (journals_of after) → (pair : Pair) (at : Option ℕ) → home pair ≡ at
        → times (same_pair pair) (named_in names (told_from 0 (turns_from trade now sites luck.cuts 0 sites))) + at_home (journals_of sites) pair at
        ≤ at_home (journals_of after) pair at
    round_tells one pair None e =
        let none = none_told pair (turns_from trade now sites luck.cuts 0 sites) 0
        (λ k turn t.
        let told = told_by pair k turn t
        in let zero_rows = one.elsewhere k pair (λ z. none-some k (sym e ∙ z))
        in omega (arith, told, zero_rows))
        in omega (arith, none)
    round_tells one pair (Some q) e =
        let before = row_count pair q (journal_at sites q)
        in let behind = row_count pair q (journal_at after q)
        in elim (cases_lt q (length sites)) [
          | inl l ↦
              let counts = turn_counts pair q l
              in let most = one_tells pair q (told_count pair (turn_in trade now luck.cuts sites q)) (turns_from trade now sites luck.cuts 0 sites) 0
              (λ k turn t z.
              let place = at_place k turn t
              in let same : turn_in trade now luck.cuts sites q ≡ turn =
              subst (λ (i : ℕ). turn_in trade now luck.cuts sites i ≡ turn) (let y : k ≡ 0 + k = omega arith in y ∙ z) place.1
              in subst (λ (t : Turned). told_count pair t ≤ told_count pair (turn_in trade now luck.cuts sites q)) same (omega arith))
              (λ k turn t n.
              let told = told_by pair k turn t
              in let zero_rows = one.elsewhere k pair (λ z. n (let y : 0 + k ≡ k = omega arith in y ∙ same_Some k q (sym z ∙ e)))
              in omega (arith, told, zero_rows))
              in omega (arith, counts, most)
          | inr l ↦
              let none = none_told pair (turns_from trade now sites luck.cuts 0 sites) 0
              (λ k turn t.
              let place = at_place k turn t
              in let told = told_by pair k turn t
              in let zero_rows = one.elsewhere k pair
              (λ z. let y : k ≡ q = same_Some k q (sym z ∙ e) in let m = place.0 in omega (arith, y, m, l))
              in omega (arith, told, zero_rows))
              in let same = ap (λ (s : Site). row_count pair q s.journal) (past_the_end trade now luck.cuts sites q l)
              in omega (arith, none, same)
        ]

  -- ---- commands

  abbrev NamesNone : Played → Type 0
  NamesNone x = named_by names x.answer ≡ []

  by_test : (b : Bool) (x y : Played) → NamesNone x → NamesNone y → NamesNone (if b then x else y)
  by_test true x y a b = a
  by_test false x y a b = b

  append_names : (luck : Luck) (sites : List Site) (p : ℕ) (entry : Entry) (answer : Answer) → named_by names answer ≡ []
      → NamesNone (append trade luck sites p entry answer)
  append_names luck sites p entry answer n = by_test (has_no_room trade p (journal_at sites p) entry) _ _ refl (appended_names luck.fails)
    where
      appended_names : (fails : Bool) → NamesNone (appended fails sites p entry answer)
      appended_names true = refl
      appended_names false = n

  work_names : (sites : List Site) (p now : ℕ) (done : Played) → NamesNone done → NamesNone (at_work trade sites p now done)
  work_names sites p now done n =
      by_test (site_at sites p).up _ _ (by_test (nat_lt now (last_of trade p (journal_at sites p))) _ done refl n) refl

  again_names : (sites : List Site) (from to : ℕ) (found : Option Bytes) → NamesNone (put_again sites from to found)
  again_names sites from to None = refl
  again_names sites from to (Some frame) = by_test (nat_lt (length (frames_between sites from to)) link_size) _ _ refl refl

  swapped_names : (sites : List Site) (from to : ℕ) (found : Option (List Bytes)) → NamesNone (swapped sites from to found)
  swapped_names sites from to None = refl
  swapped_names sites from to (Some frames) = refl

  asked_names : (sites : List Site) (show : ℕ → Half → Played) (found : Option ℕ) → ((p : ℕ) (h : Half) → NamesNone (show p h)) → NamesNone (asked sites show trade found)
  asked_names sites show None same = refl
  asked_names sites show (Some p) same = by_test (site_at sites p).up _ _ (same p _) refl

  read_names : (read : Option ProviderFault) (bytes : Bytes) (sites : List Site) (p : ℕ) → NamesNone (read_back read bytes sites p)
  read_names None bytes sites p = refl
  read_names (Some fault) bytes sites p = refl

  bytes_names : (luck : Luck) (sites : List Site) (p : ℕ) (text : Option Bytes) → NamesNone (shown_bytes luck sites p text)
  bytes_names luck sites p None = refl
  bytes_names luck sites p (Some bytes) = read_names luck.read (unwrap_or luck.shown bytes) sites p

  shown_names : (luck : Luck) (sites : List Site) (p : ℕ) (found : Option Posted) → NamesNone (shown trade luck sites p found)
  shown_names luck sites p None = refl
  shown_names luck sites p (Some posted) = bytes_names luck sites p (item_text trade p (journal_at sites p) posted)

  archived_names : (luck : Luck) (sites : List Site) (found : Option ℕ) (now : ℕ) (account : Bytes) (place : ℕ) → NamesNone (archived trade luck sites found now account place)
  archived_names luck sites None now account place = refl
  archived_names luck sites (Some p) now account place =
      work_names sites p now _
      (by_test (nat_lt place (items_at trade sites p account)) _ _
      (by_test (version_at trade sites p == 2) _ _ (append_names luck sites p (entries.Archived now account place) Archived refl) refl) refl)

  upgraded_names : (luck : Luck) (sites : List Site) (p now : ℕ) → NamesNone (upgraded trade luck sites p now)
  upgraded_names luck sites p now =
      work_names sites p now _
      (by_test (version_at trade sites p == 1) _ _ (append_names luck sites p (entries.Upgraded now) Upgraded refl) refl)

  screened_names : (sites : List Site) (p place : ℕ) (spare : Option Patterns) → NamesNone (screened sites p place spare)
  screened_names sites p place None = refl
  screened_names sites p place (Some patterns) =
      by_test (site_at sites p).up _ _ (by_test (nat_lt place (length (site_at sites p).screens)) _ _ refl refl) refl

  home_grows : (sites : List Site) (luck : Luck) (command : Command) (pair : Pair) (at : Option ℕ)
      → at_home (journals_of sites) pair at ≤ at_home (journals_of (played trade luck sites command).after) pair at
  home_grows sites luck command pair None = omega arith
  home_grows sites luck command pair (Some q) =
      never_fewer pair q (journal_at sites q) (journal_at (played trade luck sites command).after q) (played_goes_on trade sites luck command q)

  -- what a command tells of a pair is new at its home
  abbrev Grows : List Site → Luck → Command → Type 0
  Grows sites luck command = (pair : Pair)
      → times (same_pair pair) (named_by names (played trade luck sites command).answer) + at_home (journals_of sites) pair (home pair)
      ≤ at_home (journals_of (played trade luck sites command).after) pair (home pair)

  names_none : (sites : List Site) (luck : Luck) (command : Command) → NamesNone (played trade luck sites command) → Grows sites luck command
  names_none sites luck command n pair =
      let none = ap (times (same_pair pair)) n in let grows = home_grows sites luck command pair (home pair) in omega (arith, none, grows)

  round_grows : (sites : List Site) (luck : Luck) (now : ℕ) → Once rows home trade (journals_of (played trade luck sites (Round now)).after)
      → Grows sites luck (Round now)
  unfolding played rounded turns_of
  round_grows sites luck now one pair = round_tells sites now luck one pair (home pair) refl

  command_grows : (sites : List Site) (luck : Luck) (command : Command) → Once rows home trade (journals_of (played trade luck sites command).after)
      → Grows sites luck command
  unfolding played
  command_grows sites luck (Round now) one = round_grows sites luck now one
  command_grows sites luck (Submit p now sender path message) one =
      names_none sites luck (Submit p now sender path message)
      (by_test (trade.is_account p sender) _ _
      (work_names sites p now _ (by_test (nat_lt (messages_at trade sites p) MESSAGES) _ _ (append_names luck sites p _ _ refl) refl)) refl)
  command_grows sites luck (Tick p now) one =
      names_none sites luck (Tick p now) (work_names sites p now _ (append_names luck sites p (entries.Ticked now) _ refl))
  command_grows sites luck (Lose from to place) one =
      names_none sites luck (Lose from to place) (by_test (nat_lt place (length (frames_between sites from to))) _ _ refl refl)
  command_grows sites luck (Repeat from to place) one =
      names_none sites luck (Repeat from to place) (again_names sites from to (slice_get (frames_between sites from to) place))
  command_grows sites luck (Swap from to place) one =
      names_none sites luck (Swap from to place) (swapped_names sites from to (swapped_at place (frames_between sites from to)))
  command_grows sites luck (Inject from to frame) one =
      names_none sites luck (Inject from to frame) (by_test (nat_lt (length (frames_between sites from to)) link_size) _ _ refl refl)
  command_grows sites luck (Crash p) one = names_none sites luck (Crash p) refl
  command_grows sites luck (Restart p) one =
      names_none sites luck (Restart p) (by_test (site_at sites p).up _ _ refl (by_test luck.fails _ _ refl refl))
  command_grows sites luck (Book address) one =
      names_none sites luck (Book address)
      (asked_names sites (λ (p : ℕ) (h : Half). answers sites (Lines (book trade p h address))) (account_home trade address (trade.home address)) (λ p h. refl))
  command_grows sites luck (Mailbox address) one =
      names_none sites luck (Mailbox address)
      (asked_names sites (λ (p : ℕ) (h : Half). answers sites (Items (mailbox_lines h address))) (account_home trade address (trade.home address)) (λ p h. refl))
  command_grows sites luck (Show address place) one =
      names_none sites luck (Show address place)
      (asked_names sites (λ (p : ℕ) (h : Half). shown trade luck sites p (slice_get (mailbox h address) place)) (account_home trade address (trade.home address))
      (λ p h. shown_names luck sites p (slice_get (mailbox h address) place)))
  command_grows sites luck (Archive address now place) one =
      names_none sites luck (Archive address now place) (archived_names luck sites (account_home trade address (trade.home address)) now address place)
  command_grows sites luck (Upgrade p now) one = names_none sites luck (Upgrade p now) (upgraded_names luck sites p now)
  command_grows sites luck (Vault address) one =
      names_none sites luck (Vault address)
      (asked_names sites (λ (p : ℕ) (h : Half). answers sites (Vaults (archive_lines h address))) (account_home trade address (trade.home address)) (λ p h. refl))
  command_grows sites luck (VaultShow address place) one =
      names_none sites luck (VaultShow address place)
      (asked_names sites (λ (p : ℕ) (h : Half). shown trade luck sites p (slice_get (archive h address) place)) (account_home trade address (trade.home address))
      (λ p h. shown_names luck sites p (slice_get (archive h address) place)))
  command_grows sites luck (Screen p place spare) one = names_none sites luck (Screen p place spare) (screened_names sites p place spare)

  -- ---- scripts

  module _ (one : (sites : List Site) → Sound trade sites → Once rows home trade (journals_of sites))
      (next : (luck : Luck) (sites : List Site) (command : Command) → Sound trade sites → IsUnforged trade luck sites command → Sound trade (played trade luck sites command).after)
      (ends : (lucks : List Luck) (sites : List Site) (commands : List Command) → Sound trade sites → AllUnforged trade lucks sites commands
      → Sound trade (script trade lucks sites commands).after) where
    script_grows : (lucks : List Luck) (sites : List Site) (commands : List Command) → Sound trade sites → AllUnforged trade lucks sites commands → (pair : Pair)
        → times (same_pair pair) (flat_map (named_by names) (script trade lucks sites commands).answers) + at_home (journals_of sites) pair (home pair)
        ≤ at_home (journals_of (script trade lucks sites commands).after) pair (home pair)
    script_grows [] sites commands sound given pair = omega arith
    script_grows (luck ∷ lucks) sites [] sound given pair = omega arith
    script_grows (luck ∷ lucks) sites (command ∷ commands) sound given pair =
        let behind = next luck sites command sound given.0
        in let first = command_grows sites luck command (one (played trade luck sites command).after behind) pair
        in let later = script_grows lucks (played trade luck sites command).after commands behind given.1 pair
        in let all = times_append (same_pair pair) (named_by names (played trade luck sites command).answer)
        (flat_map (named_by names) (script trade lucks (played trade luck sites command).after commands).answers)
        in omega (arith, first, later, all)

    at_most_one : (sites : List Site) → Sound trade sites → (pair : Pair) (at : Option ℕ) → at_home (journals_of sites) pair at ≤ 1
    at_most_one sites sound pair None = omega arith
    at_most_one sites sound pair (Some q) = (one sites sound).once q pair

    pub told_differ : (lucks : List Luck) (sites : List Site) (commands : List Command) → Sound trade sites → AllUnforged trade lucks sites commands
        → AllDiffer (flat_map (named_by names) (script trade lucks sites commands).answers)
    told_differ lucks sites commands sound given =
        differ_by_counts (flat_map (named_by names) (script trade lucks sites commands).answers)
        (λ pair.
        let grows = script_grows lucks sites commands sound given pair
        in let most = at_most_one (script trade lucks sites commands).after (ends lucks sites commands sound given) pair (home pair)
        in omega (arith, grows, most))

-- ---- decided and learned

module _ (trade : Trade) (outcome : (J : Journals) → Fit trade J → OneOutcome trade J) where
  no_row : {X : Type 0} (p : X → Bool) (xs : List X) (found : Option X) → find p xs ≡ found → ((x : X) → find p xs ≡ Some x → ⊥) → times p xs ≡ 0
  no_row p xs None e n = none_counted p xs e
  no_row p xs (Some x) e n = absurd (n x e)

  decided_once : (homes : (J : Journals) → Fit trade J → (p : ℕ) (pair : Pair) (fate : Fate) → decided_of (ledger trade J p) pair ≡ Some fate → trade.home pair.recipient ≡ Some p)
      → (J : Journals) → Fit trade J → Once decided_rows (λ (pair : Pair). trade.home pair.recipient) trade J
  unfolding ledger
  decided_once homes J fit = record {
    once = λ p pair.
        let same = times_mapped (same_pair pair) (λ (fate : Fate). fate.pair) (half trade p (J p)).decided
        in let most = (outcome J fit).decided_once p pair
        in omega (arith, same, most);
    elsewhere = λ p pair n.
        times_mapped (same_pair pair) (λ (fate : Fate). fate.pair) (half trade p (J p)).decided
        ∙ no_row (λ (fate : Fate). same_pair pair fate.pair) (half trade p (J p)).decided (decided_of (half trade p (J p)) pair) refl
        (λ fate e. n (homes J fit p pair fate e));
  }

  known_once : (knowns : (J : Journals) → Fit trade J → (p : ℕ) (pair : Pair) (row : Known) → known_of (ledger trade J p) pair ≡ Some row → IsOwnPair trade p (ledger trade J p) pair)
      → (J : Journals) → Fit trade J → Once known_rows (λ (pair : Pair). Some pair.id.provider) trade J
  unfolding ledger
  known_once knowns J fit = record {
    once = λ p pair.
        let same = times_mapped (same_pair pair) (λ (known : Known). known.pair) (half trade p (J p)).known
        in let most = (outcome J fit).known_once p pair
        in omega (arith, same, most);
    elsewhere = λ p pair n.
        times_mapped (same_pair pair) (λ (known : Known). known.pair) (half trade p (J p)).known
        ∙ no_row (λ (known : Known). same_pair pair known.pair) (half trade p (J p)).known (known_of (half trade p (J p)) pair) refl
        (λ row e. n (ap (λ (q : ℕ). Some q) (knowns J fit p pair row e).ours));
  }

  module _ (next : (luck : Luck) (sites : List Site) (command : Command) → Sound trade sites → IsUnforged trade luck sites command → Sound trade (played trade luck sites command).after)
      (ends : (lucks : List Luck) (sites : List Site) (commands : List Command) → Sound trade sites → AllUnforged trade lucks sites commands
      → Sound trade (script trade lucks sites commands).after)
      (lucks : List Luck) (sites : List Site) (commands : List Command) (sound : Sound trade sites) (given : AllUnforged trade lucks sites commands) where
    pub decided_differ : (homes : (J : Journals) → Fit trade J → (p : ℕ) (pair : Pair) (fate : Fate) → decided_of (ledger trade J p) pair ≡ Some fate → trade.home pair.recipient ≡ Some p)
        → AllDiffer (decided_told (script trade lucks sites commands).answers)
    decided_differ homes =
        told_differ trade decides decided_rows decided_more (λ (pair : Pair). trade.home pair.recipient) (decided_on trade)
        (λ p now rooms site luck.
        let turn = turn_tells trade p now rooms site (luck.cuts p) in (turn.more, turn.journal, turn.tells.decided))
        (λ ss s. decided_once homes (journals_of ss) s.fit) next ends lucks sites commands sound given

    pub learned_differ : (knowns : (J : Journals) → Fit trade J → (p : ℕ) (pair : Pair) (row : Known) → known_of (ledger trade J p) pair ≡ Some row → IsOwnPair trade p (ledger trade J p) pair)
        → AllDiffer (learned_told (script trade lucks sites commands).answers)
    learned_differ knowns =
        told_differ trade learns known_rows known_more (λ (pair : Pair). Some pair.id.provider) (known_on trade)
        (λ p now rooms site luck.
        let turn = turn_tells trade p now rooms site (luck.cuts p) in (turn.more, turn.journal, turn.tells.known))
        (λ ss s. known_once knowns (journals_of ss) s.fit) next ends lucks sites commands sound given
