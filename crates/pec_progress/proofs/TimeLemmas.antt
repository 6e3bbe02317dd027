-- Rounds whose moments are in order go well: behind a whole turn no moment of the journal is greater than that of the
-- round, and who is up stays so.
use Rattle.std.proofs.Common.{◌≡◌, ℕ, ◌<◌, ◌≤◌, List, [], ◌∷◌, ◌++◌, false, length, refl, ap, sym, subst, ◌∙◌, arith, Option, Some, None}
use Rattle.std.specs.Prelude.{Contains, slice_get}
use Rattle.std.specs.Option.{option_to_list}
use Rattle.std.proofs.lemmas.List.{append-nil, append_assoc}
use Rattle.std.proofs.lemmas.Option.{get_or_from_slice_get, same_Some, slice_get_within}
use Rattle.std.proofs.lemmas.Bool.{false≢true, le-ltb}
use Rattle.std.proofs.lemmas.List.Elements.{All-contains}
use Rattle.pec_types.specs.Bytes.{Bytes}
use Rattle.pec_records.specs.declared.entries.Entry.{Entry}
use Rattle.pec_ledger.specs.Half.{Half}
use Rattle.pec_ledger.specs.Network.{Site, is_up, journal_at, site_at}
use Rattle.pec_ledger.specs.Pairs.{Pair}
use Rattle.pec_ledger.specs.Steps.{half, moment_of, step}
use Rattle.pec_ledger.specs.Trade.{Trade}
use Rattle.pec_plays.specs.Commands.{Luck, Round}
use Rattle.pec_plays.specs.Possible.{HaveRoom, IsCalm, IsQuiet, MayCut, MayMeet}
use Rattle.pec_plays.specs.Decisions.{Looks, decide, undecided}
use Rattle.pec_plays.specs.Reception.{arrive}
use Rattle.pec_plays.specs.Rounds.{rooms_of, rounded}
use Rattle.pec_plays.specs.Steps.{Step, journal_after}
use Rattle.pec_plays.specs.Turns.{Cut, Fails, Full, Other, Sees, Stops, Turned, Unread, Whole, cut_turn, decisions, entries_of, frames_in, last_of, looks_by, plan, steps_of, turned}
use Rattle.pec_progress.specs.Progress.{AllGoWell, FollowInTime, GoesWell, RoundAt, StandsReady, after_round, whole_steps}
use Rattle.pec_progress.proofs.LawLemmas.{half_one}
use Rattle.pec_progress.proofs.PlanLemmas.{turn_is}

module _ (trade : Trade) (moments : (provider now : ℕ) (journal : List Entry) (frame : Bytes) (entry : Entry)
    → (arrive trade provider now journal frame).entry ≡ Some entry → moment_of entry ≡ now) where
  module _ (p now : ℕ) (looks : Looks) where
    last_after : (h : Half) (e : Entry) → h.last ≤ now → moment_of e ≡ now → (step trade p h e).last ≤ now
    unfolding step
    last_after h e l m = omega arith

    abbrev InTime : List Entry → Type 0
    InTime es = (half trade p es).last ≤ now

    step_in_time : (es : List Entry) (o : Option Entry) → ((e : Entry) → o ≡ Some e → moment_of e ≡ now) → InTime es → InTime (es ++ option_to_list o)
    step_in_time es None at time = subst InTime (sym (append-nil es)) time
    step_in_time es (Some e) at time =
        subst (λ (h : Half). h.last ≤ now) (sym (half_one trade p es e)) (last_after (half trade p es) e time (at e refl))

    decide_at : (es : List Entry) (pair : Pair) (e : Entry) → (decide trade p now looks es pair).entry ≡ Some e → moment_of e ≡ now
    unfolding decide
    decide_at es pair e is = ap moment_of (sym (same_Some _ e is))

    all_in_time : (es : List Entry) (s : Step) (rest : List Step) → InTime (journal_after es s ++ entries_of rest) → InTime (es ++ entries_of (s ∷ rest))
    all_in_time es s rest time = subst InTime (append_assoc es (option_to_list s.entry) (entries_of rest)) time

    decisions_in_time : (pairs : List Pair) (es : List Entry) → InTime es → InTime (es ++ entries_of (decisions trade p now looks es pairs))
    decisions_in_time [] es time = subst InTime (sym (append-nil es)) time
    decisions_in_time (pair ∷ pairs) es time =
        let s = decide trade p now looks es pair
        in all_in_time es s (decisions trade p now looks (journal_after es s) pairs)
        (decisions_in_time pairs (journal_after es s) (step_in_time es s.entry (decide_at es pair) time))

    pub plan_in_time : (frames : List Bytes) (es : List Entry) → InTime es → InTime (es ++ entries_of (plan trade p now looks es frames))
    plan_in_time [] es time = decisions_in_time (undecided trade p es) es time
    plan_in_time (frame ∷ frames) es time =
        let s = arrive trade p now es frame
        in all_in_time es s (plan trade p now looks (journal_after es s) frames)
        (plan_in_time frames (journal_after es s) (step_in_time es s.entry (moments p now es frame) time))

  module _ (count : (now : ℕ) (cuts : ℕ → Cut) (sites : List Site) → length (rounded trade now cuts sites).sites ≡ length sites)
      (journals : (now : ℕ) (cuts : ℕ → Cut) (sites : List Site) (provider : ℕ) → provider < length sites
      → journal_at (rounded trade now cuts sites).sites provider
      ≡ (turned trade provider now (rooms_of sites provider) (cuts provider) (site_at sites provider)).site.journal)
      (ups : (now : ℕ) (cuts : ℕ → Cut) (sites : List Site) (provider : ℕ) → provider < length sites
      → is_up (rounded trade now cuts sites).sites provider
      ≡ (turned trade provider now (rooms_of sites provider) (cuts provider) (site_at sites provider)).site.up) where
    module _ (now : ℕ) (cuts : ℕ → Cut) (sites : List Site) (providers : length sites ≡ trade.providers) (well : GoesWell trade now cuts sites) where
      whole : (p : ℕ) → p < length sites → turned trade p now (rooms_of sites p) (cuts p) (site_at sites p)
          ≡ cut_turn trade p (rooms_of sites p) (site_at sites p) (whole_steps trade now sites p) Whole
      whole p l = turn_is trade p now (rooms_of sites p) (cuts p) (site_at sites p) (well.up p l) (well.in_time p l) (well.whole p l)

      ready_after : StandsReady trade now (after_round trade now cuts sites)
      ready_after = record {
        count = count now cuts sites ∙ providers;
        up = λ p l.
            let here = subst (λ (n : ℕ). p < n) (count now cuts sites) l
            in ups now cuts sites p here ∙ ap (λ (t : Turned). t.site.up) (whole p here) ∙ well.up p here;
        in_time = λ p l.
            let here = subst (λ (n : ℕ). p < n) (count now cuts sites) l
            in subst (λ (es : List Entry). last_of trade p es ≤ now) (sym (journals now cuts sites p here ∙ ap (λ (t : Turned). t.site.journal) (whole p here)))
            (plan_in_time p now (looks_by trade p (site_at sites p).screens Whole) (frames_in (site_at sites p).waiting) (journal_at sites p) (well.in_time p here));
      }

    pub in_time_go_well : (rs : List RoundAt) (sites : List Site) (moment : ℕ) → StandsReady trade moment sites → FollowInTime trade moment rs → AllGoWell trade rs sites
    in_time_go_well [] sites moment ready follow = tt
    in_time_go_well (r ∷ rs) sites moment ready follow =
        let well : GoesWell trade r.now r.cuts sites = record {
          in_range = follow.1;
          in_time = λ p l. let time = ready.in_time p l in let from = follow.0 in omega (arith, time, from);
          up = ready.up;
          whole = λ p l. follow.2 p (subst (λ (n : ℕ). p < n) ready.count l);
        }
        in (well, in_time_go_well rs (after_round trade r.now r.cuts sites) r.now (ready_after r.now r.cuts sites ready.count well) follow.3)

-- ---- which lucks those are

row_in : {X : Type 0} (xs : List X) (n : ℕ) (x : X) → slice_get xs n ≡ Some x → Contains xs x
row_in xs n x e = (n, slice_get_within xs n x e, get_or_from_slice_get xs n x x e)

-- without a fault a turn is cut only where the journal has no room
pub calm_is_whole : (trade : Trade) (p now : ℕ) (site : Site) (cut : Cut) → IsCalm cut → MayCut trade p (steps_of trade p now site cut) cut
    → HaveRoom (steps_of trade p now site Whole) → cut ≡ Whole
calm_is_whole trade p now site Whole calm may room = refl
calm_is_whole trade p now site (Full n) calm may room =
    let steps = steps_of trade p now site Whole
    in absurd (false≢true (sym (All-contains (λ (s : Step). s.full ≡ false) steps may.step room (row_in steps n may.step may.there)) ∙ may.full))
calm_is_whole trade p now site (Fails n fault) calm may room = absurd calm
calm_is_whole trade p now site (Stops n) calm may room = absurd calm
calm_is_whole trade p now site (Unread n fault) calm may room = absurd calm
calm_is_whole trade p now site (Other out) calm may room = absurd calm
calm_is_whole trade p now site (Sees looks cut) calm may room = absurd calm

pub quiet_is_whole : (trade : Trade) (sites : List Site) (luck : Luck) (now : ℕ) → IsQuiet luck → MayMeet trade luck sites (Round now) → StandsReady trade now sites
    → ((p : ℕ) → p < length sites → HaveRoom (whole_steps trade now sites p)) → (p : ℕ) → p < length sites → luck.cuts p ≡ Whole
quiet_is_whole trade sites luck now quiet may ready room p l =
    calm_is_whole trade p now (site_at sites p) (luck.cuts p) (quiet.cuts p)
    (may p l (ready.up p l) (le-ltb now (last_of trade p (journal_at sites p)) (ready.in_time p l))) (room p l)
