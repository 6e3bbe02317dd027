-- A round by its turns: each provider had the turn that is told of it, and what they put is delivered. Here by sites;
-- what it is to providers and their disks stands in `PassLemmas`.
use Rattle.std.proofs.Common.{◌≡◌, ◌≢◌, ℕ, zero, suc, ◌+◌, ◌<◌, ◌≤◌, true, false, List, [], ◌∷◌, ◌++◌, length, get_or, set}
use Rattle.std.proofs.Common.{refl, ap, sym, subst, ◌∙◌, ◌⊎◌, inl, inr, arith, Option, Some, None}
use Rattle.std.specs.Prelude.{nat_lt, slice_get}
use Rattle.std.proofs.Math.Seq.{get_or-append_seam}
use Rattle.std.proofs.lemmas.Bool.{cases_eq, cases_lt}
use Rattle.std.proofs.lemmas.List.{ext_get_or, get_or-set_other, get_or-set_same, get_or_append_left, get_or_past}
use Rattle.std.proofs.lemmas.List.Elements.{All-append, All-from_get_or, All-nil}
use Rattle.std.proofs.lemmas.Option.{none-some, same_Some, slice_get-get_or}
use Rattle.pec_types.specs.Bytes.{Bytes}
use Rattle.pec_types.specs.declared.turns.ProviderFault.TheVariants as faults
use Rattle.pec_types.specs.declared.turns.Turn.{Turn}
use Rattle.pec_ledger.specs.Ledger.{Fit, Journals}
use Rattle.pec_ledger.specs.Network.{AreGenuine, IsGenuine, Site, Sound, empty_site, journals_of, site_at}
use Rattle.pec_ledger.specs.Trade.{Trade}
use Rattle.pec_plays.specs.Commands.{Luck, Played, Round, Turns, played}
use Rattle.pec_plays.specs.Possible.{IsOfKept, MayCut, TellsCut}
use Rattle.pec_plays.specs.Rounds.{delivered, delivered_to, outs_of, rooms_of, rounded, told_from}
use Rattle.pec_plays.specs.Rounds.{turns_from, turns_of, with_waiting}
use Rattle.pec_plays.specs.Scripts.{put_instead}
use Rattle.pec_plays.specs.Turns.{Cut, Fails, Full, Other, Sees, Stops, Turned, Unread, Whole, frames_in, last_of, steps_of, turned}
use Rattle.pec_posts.specs.Arrivals.{Waiting, waiting_from}
use Rattle.pec_network.specs.Turning.{StopsShort, Took, told_of, turn_of}
use Rattle.pec_network.specs.Rounds.{IsRound, KeepsSound, NoneChanged, StopsOver, StopsWithin, luck_of_cuts}
use Rattle.pec_network.proofs.DeliveryLemmas.{after_is, after_length, out_at, outs_length, turn_in, turn_is, turns_length}
use Rattle.pec_network.proofs.TurnLemmas.{kept_without, puts_none, short_cut, stops_first, without_other, without_same}

-- ---- lists

-- an element of a list with one more
pub get_push : {X : Type 0} (xs : List X) (x y : X) (k : ℕ) → slice_get (xs ++ x ∷ []) k ≡ Some y
    → ((k < length xs) × (slice_get xs k ≡ Some y)) ⊎ ((k ≡ length xs) × (x ≡ y))
get_push [] x y zero e = inr (refl, same_Some x y e)
get_push [] x y (suc k) e = absurd (none-some y e)
get_push (z ∷ xs) x y zero e = inl (omega arith, e)
get_push (z ∷ xs) x y (suc k) e =
    elim (get_push xs x y k e) [
      | inl front ↦ inl (omega arith, front.1)
      | inr last ↦ inr (ap suc last.0, last.1)
    ]

told_length : (first : ℕ) (turns : List Turned) → length (told_from first turns) ≡ length turns
told_length first [] = refl
told_length first (turn ∷ turns) = ap suc (told_length (first + 1) turns)

told_at : (first : ℕ) (turns : List Turned) (k : ℕ) (turn : Turned) (other : Turn) → slice_get turns k ≡ Some turn
    → get_or (told_from first turns) k other ≡ told_of (first + k) turn
told_at first [] k turn other e = absurd (none-some turn e)
told_at first (t ∷ turns) zero turn other e =
    ap (λ (x : Turned). told_of first x) (same_Some t turn e)
    ∙ ap (λ (n : ℕ). told_of n turn) (let here : first ≡ first + 0 = omega arith in here)
told_at first (t ∷ turns) (suc k) turn other e =
    told_at (first + 1) turns k turn other e
    ∙ ap (λ (n : ℕ). told_of n turn) (let there : (first + 1) + k ≡ first + suc k = omega arith in there)

-- any turn
abbrev untold : Turn
untold = record { provider = 0; events = []; sent = []; ended = None }

-- a turn in which what was read is what was kept puts no other frames
kept_instead : (cut : Cut) → IsOfKept cut → put_instead cut ≡ None
kept_instead Whole kept = refl
kept_instead (Fails number fault) kept = refl
kept_instead (Full number) kept = refl
kept_instead (Stops number) kept = refl
kept_instead (Unread number fault) kept = refl
kept_instead (Other out) kept = absurd kept
kept_instead (Sees looks cut) kept = absurd kept

abbrev rounds_to : List Turn → List Site → Played
rounds_to turns sites = record { answer = Turns turns; after = sites }

module _ (Stood : Type 0) (trade : Trade) (moment : ℕ) (old : List Site) where
  -- ---- turns so far

  -- The provider of this number had this turn, and stands so behind it.
  pub record HadTurn (number : ℕ) (new : Site) (turn : Turn) (out : List (List Bytes)) : Type 0 where
    pub took : Took Stood trade number moment (rooms_of old number) (site_at old number) (turn_of new turn out)
    pub told : turn ≡ told_of number (turn_of new turn out)
    pub fit : (to : ℕ) → length (get_or out to []) ≤ rooms_of old number to
    pub memory : turn.ended ≢ Some faults.NoMemory

  -- Each provider of which a turn is told had that turn.
  abbrev pub AllHad : List Site → List Turn → List (List (List Bytes)) → Type 0
  AllHad new turns outs =
      (number : ℕ) (turn : Turn) → slice_get turns number ≡ Some turn
      → HadTurn number (site_at new number) turn (get_or outs number [])

  pub had_more : (new : List Site) (turns : List Turn) (outs : List (List (List Bytes))) (number : ℕ) (site : Site)
      (turn : Turn) (out : List (List Bytes))
      → length turns ≡ number → length outs ≡ number → number < length new → AllHad new turns outs
      → HadTurn number site turn out
      → AllHad (set new number site) (turns ++ turn ∷ []) (outs ++ out ∷ [])
  had_more new turns outs number site turn out count puts within so_far here = λ k told e.
      elim (get_push turns turn told k e) [
        | inl front ↦
            let apart : k ≡ number → ⊥ = λ same. let l = front.0 in absurd (omega arith) in
            let few : k < length outs = let l = front.0 in omega arith in
            subst (λ (s : Site). HadTurn k s told (get_or (outs ++ out ∷ []) k []))
            (sym (get_or-set_other new number k site empty_site apart))
            (subst (λ (o : List (List Bytes)). HadTurn k (site_at new k) told o)
            (sym (get_or_append_left outs (out ∷ []) [] k few))
            (so_far k told front.1))
        | inr last ↦
            let place : k ≡ number = last.0 ∙ count in
            let put : get_or (outs ++ out ∷ []) number [] ≡ out =
            ap (λ (n : ℕ). get_or (outs ++ out ∷ []) n []) (sym puts) ∙ get_or-append_seam outs out [] [] in
            subst (λ (n : ℕ). HadTurn n (site_at (set new number site) n) told (get_or (outs ++ out ∷ []) n []))
            (sym place)
            (subst (λ (s : Site). HadTurn number s told (get_or (outs ++ out ∷ []) number []))
            (sym (get_or-set_same new number site empty_site within))
            (subst (λ (o : List (List Bytes)). HadTurn number site told o) (sym put)
            (subst (λ (t : Turn). HadTurn number site t out) last.1 here)))
      ]

  -- ---- all turns

  module _ (new : List Site) (turns : List Turn) (outs : List (List (List Bytes)))
      (count : length turns ≡ length old) (puts : length outs ≡ length old) (had : AllHad new turns outs) where
    -- how its turn was cut, where one is told
    abbrev cut_by_turn : (k : ℕ) (found : Option Turn) → slice_get turns k ≡ found → Cut
    cut_by_turn k None e = Whole
    cut_by_turn k (Some turn) e = (had k turn e).took.cut

    abbrev cuts : ℕ → Cut
    cuts k = cut_by_turn k (slice_get turns k) refl

    -- what is said of it
    pub record IsCutOf (k : ℕ) (turn : Turn) (cut : Cut) : Type 0 where
      pub tells : TellsCut turn.ended (length turn.events) cut
      pub is : turned trade k moment (rooms_of old k) cut (site_at old k)
          ≡ turn_of (site_at new k) turn (get_or outs k [])
      pub may : (site_at old k).up ≡ true → nat_lt moment (last_of trade k (site_at old k).journal) ≡ false
          → MayCut trade k (steps_of trade k moment (site_at old k) cut) cut

    found_cut : (k : ℕ) (found : Option Turn) (e : slice_get turns k ≡ found) (turn : Turn) → found ≡ Some turn
        → IsCutOf k turn (cut_by_turn k found e)
    found_cut k None e turn is = absurd (none-some turn is)
    found_cut k (Some told) e turn is =
        let had_it = had k told e in
        subst (λ (t : Turn). IsCutOf k t had_it.took.cut) (same_Some told turn is)
        (record { tells = had_it.took.tells; is = had_it.took.is; may = had_it.took.may })

    cut_is : (k : ℕ) (turn : Turn) → slice_get turns k ≡ Some turn → IsCutOf k turn (cuts k)
    cut_is k turn e = found_cut k (slice_get turns k) refl turn e

    found_kept : Stood → (k : ℕ) (found : Option Turn) (e : slice_get turns k ≡ found) → IsOfKept (cut_by_turn k found e)
    found_kept stood k None e = tt
    found_kept stood k (Some turn) e = (had k turn e).took.kept stood

    abbrev all : List Turned
    all = turns_from trade moment old cuts 0 old

    there : (k : ℕ) → k < length old → slice_get turns k ≡ Some (get_or turns k untold)
    there k l = slice_get-get_or turns k untold (omega arith)

    had_at : (k : ℕ) → k < length old → HadTurn k (site_at new k) (get_or turns k untold) (get_or outs k [])
    had_at k l = had k (get_or turns k untold) (there k l)

    turn_so : (k : ℕ) → k < length old → turn_in trade moment cuts old k
        ≡ turn_of (site_at new k) (get_or turns k untold) (get_or outs k [])
    turn_so k l = (cut_is k (get_or turns k untold) (there k l)).is

    told_so : told_from 0 all ≡ turns
    told_so =
        let many = told_length 0 all ∙ turns_length trade moment old cuts 0 old in
        ext_get_or untold (told_from 0 all) turns (many ∙ sym count) (λ k within.
        let l : k < length old = omega arith in
        told_at 0 all k (turn_in trade moment cuts old k) untold (turn_is trade moment cuts old k l)
        ∙ ap (λ (n : ℕ). told_of n (turn_in trade moment cuts old k)) (let here : 0 + k ≡ k = omega arith in here)
        ∙ ap (λ (t : Turned). told_of k t) (turn_so k l)
        ∙ sym (had_at k l).told)

    outs_so : outs_of all ≡ outs
    outs_so =
        let many = outs_length all ∙ turns_length trade moment old cuts 0 old in
        ext_get_or [] (outs_of all) outs (many ∙ sym puts) (λ k within.
        let l : k < length old = omega arith in
        out_at all k (turn_in trade moment cuts old k) (turn_is trade moment cuts old k l)
        ∙ ap (λ (t : Turned). t.out) (turn_so k l))

    -- each site is what its turn left, with what was put for it
    abbrev pub AreDelivered : List Site → Type 0
    AreDelivered after =
        (k : ℕ) → k < length old → site_at after k
        ≡ with_waiting (site_at new k) (delivered_to k outs (site_at new k).waiting)

    sites_so : (after : List Site) → length after ≡ length old → AreDelivered after → delivered (outs_of all) 0 all
        ≡ after
    sites_so after same each =
        let many = after_length trade moment cuts old in
        ext_get_or empty_site (delivered (outs_of all) 0 all) after (many ∙ sym same) (λ k within.
        let l : k < length old = omega arith in
        after_is trade moment cuts old k l
        ∙ ap (λ (t : Turned). with_waiting t.site (delivered_to k (outs_of all) t.site.waiting)) (turn_so k l)
        ∙ ap (λ (o : List (List (List Bytes))). with_waiting (site_at new k) (delivered_to k o (site_at new k).waiting))
        outs_so
        ∙ sym (each k l))

    -- no entry is told as changed, where the journals behind the round are Fit
    none_changed : Stood → (after : List Site) → AreDelivered after → Fit trade (journals_of after) → NoneChanged turns
    none_changed stood after each fit =
        All-from_get_or (λ (t : Turn). (number : ℕ) → t.ended ≢ Some (faults.Changed number)) turns untold
        (λ k within.
        let l : k < length old = omega arith in
        (had_at k l).took.unchanged stood (journals_of after) fit (ap (λ (s : Site). s.journal) (each k l)))

    played_so : (after : List Site) → length after ≡ length old → AreDelivered after
        → played trade (luck_of_cuts cuts) old (Round moment) ≡ rounds_to turns after
    unfolding played rounded turns_of
    played_so after same each =
        ap (λ (t : List Turn). rounds_to t (delivered (outs_of all) 0 all)) told_so
        ∙ ap (λ (s : List Site). rounds_to turns s) (sites_so after same each)

    pub is_round : (after : List Site) → length after ≡ length old → AreDelivered after → KeepsSound trade moment old
        → IsRound Stood trade moment old turns after
    is_round after same each keeps = record {
      cuts = cuts;
      tells = λ k turn e. (cut_is k turn e).tells;
      is = played_so after same each;
      may = λ k l. (cut_is k (get_or turns k untold) (there k l)).may;
      kept = λ stood k. found_kept stood k (slice_get turns k) refl;
      unchanged = λ stood sound.
          none_changed stood after each
          (subst (λ (p : Played). Sound trade p.after) (played_so after same each)
          (keeps (luck_of_cuts cuts) (λ k. kept_instead (cuts k) (found_kept stood k (slice_get turns k) refl)) sound)).fit;
      memory = All-from_get_or (λ (t : Turn). t.ended ≢ Some faults.NoMemory) turns untold
          (λ k within. (had_at k (omega arith)).memory);
    }

  -- ---- want of memory

  -- The provider of this number has the entries of a turn that was cut somewhere.
  pub record HasFront (number : ℕ) (site : Site) : Type 0 where
    pub cut : Cut
    pub instead : put_instead cut ≡ None
    pub kept : Stood → IsOfKept cut
    pub journal : number < length old
        → site.journal ≡ (turned trade number moment (rooms_of old number) cut (site_at old number)).site.journal
    pub interrupted : number < length old
        → site.interrupted ≡ (turned trade number moment (rooms_of old number) cut
        (site_at old number)).site.interrupted

  abbrev pub HaveFronts : List Site → Type 0
  HaveFronts new = (number : ℕ) → HasFront number (site_at new number)

  pub no_turn_yet : HaveFronts old
  no_turn_yet = λ number.
      let first = stops_first trade number moment (rooms_of old number) (site_at old number) in
      record { cut = Stops 0; instead = refl; kept = λ stood. tt; journal = λ l. first.0; interrupted = λ l. first.1 }

  pub front_of : (number : ℕ) (new : Site) (turn : Turn) (out : List (List Bytes)) → HadTurn number new turn out
      → HasFront number new
  front_of number new turn out had = record {
    cut = without_other trade number moment had.took.cut;
    instead = puts_none trade number moment had.took.cut;
    kept = λ stood. kept_without trade number moment had.took.cut (had.took.kept stood);
    journal = λ l. sym (ap (λ (s : Site). s.journal)
        (without_same trade number moment (rooms_of old number) had.took.cut (site_at old number))
        ∙ ap (λ (t : Turned). t.site.journal) had.took.is);
    interrupted = λ l. sym (ap (λ (s : Site). s.interrupted)
        (without_same trade number moment (rooms_of old number) had.took.cut (site_at old number))
        ∙ ap (λ (t : Turned). t.site.interrupted) had.took.is);
  }

  pub front_short : (number : ℕ) (was new : Site) → was ≡ site_at old number → StopsShort Stood trade number moment was new
      → HasFront number new
  front_short number was new here short =
      let at : StopsShort Stood trade number moment (site_at old number) new = subst
      (λ (s : Site). StopsShort Stood trade number moment s new) here short in
      let so = short_cut trade number moment Stood (rooms_of old number) (site_at old number) new at in
      record {
        cut = so.cut;
        instead = so.instead;
        kept = so.kept;
        journal = λ l. so.journal;
        interrupted = λ l. so.interrupted;
      }

  pub fronts_more : (new : List Site) (number : ℕ) (site : Site) → number < length new → HaveFronts new
      → HasFront number site
      → HaveFronts (set new number site)
  fronts_more new number site within so_far here = λ k.
      elim (cases_eq k number) [
        | inl same ↦
            subst (λ (n : ℕ). HasFront n (site_at (set new number site) n)) (sym same)
            (subst (λ (s : Site). HasFront number s) (sym (get_or-set_same new number site empty_site within)) here)
        | inr apart ↦ subst (λ (s : Site). HasFront k s) (sym (get_or-set_other new number k site empty_site apart))
            (so_far k)
      ]

  pub stops_within : (new : List Site) → length new ≡ length old → HaveFronts new → StopsOver Stood trade moment old new
  unfolding played rounded turns_of
  stops_within new same fronts =
      let luck : Luck = luck_of_cuts (λ number. (fronts number).cut) in
      let after = delivered (outs_of (turns_from trade moment old luck.cuts 0 old)) 0
      (turns_from trade moment old luck.cuts 0 old) in
      let many = after_length trade moment luck.cuts old in
      let past : (k : ℕ) → length old ≤ k → site_at new k ≡ site_at after k = λ k l.
      get_or_past new k empty_site (omega arith) ∙ sym (get_or_past after k empty_site (omega arith)) in
      let stops : StopsWithin trade moment old new = record {
        luck = luck;
        instead = λ k. (fronts k).instead;
        journals = λ k.
            elim (cases_lt k (length old)) [
              | inl l ↦ (fronts k).journal l ∙ sym (ap (λ (s : Site). s.journal)
                  (after_is trade moment luck.cuts old k l))
              | inr l ↦ ap (λ (s : Site). s.journal) (past k l)
            ];
        interrupted = λ k.
            elim (cases_lt k (length old)) [
              | inl l ↦ (fronts k).interrupted l ∙ sym (ap (λ (s : Site). s.interrupted)
                  (after_is trade moment luck.cuts old k l))
              | inr l ↦ ap (λ (s : Site). s.interrupted) (past k l)
            ];
      } in
      (stops, λ stood k. (fronts k).kept stood)

-- ---- frames that wait

-- where the frames of each link are genuine all of them are
pub all_waiting : (trade : Trade) (journals : Journals) (links : Waiting)
    → ((from : ℕ) → AreGenuine trade journals (waiting_from links from)) → AreGenuine trade journals (frames_in links)
all_waiting trade journals [] each = All-nil (IsGenuine trade journals)
all_waiting trade journals (link ∷ links) each =
    All-append (IsGenuine trade journals) link (frames_in links) (each 0)
    (all_waiting trade journals links (λ from. each (suc from)))
