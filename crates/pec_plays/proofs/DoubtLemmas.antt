-- An answer settles the state but for entries in doubt: of two lucks with one answer the sites are one, or they differ
-- by the entry of a decision.
use Rattle.std.proofs.Common.{◌≡◌, ◌⊎◌, ℕ, zero, suc, ◌+◌, ◌<◌, ◌≤◌, List, [], ◌∷◌, Bool, true, false, inl, inr, length, take, refl, ap, sym, subst, ◌∙◌, arith, nat_lt, Option, Some, None}
use Rattle.std.specs.Prelude.{IsSome, slice_get, slice_index_or, if◌then◌else◌}
use Rattle.std.specs.Option.{option_and_then}
use Rattle.std.proofs.lemmas.Bool.{cases_lt}
use Rattle.std.proofs.lemmas.Option.{none-some, same_Some}
use Rattle.pec_types.specs.Bytes.{Bytes}
use Rattle.pec_types.specs.declared.turns.Event.{Event}
use Rattle.pec_types.specs.declared.turns.ProviderFault.{ProviderFault}
use Rattle.pec_types.specs.declared.turns.ProviderFault.TheVariants as faults
use Rattle.pec_types.specs.declared.turns.Turn.{Turn}
use Rattle.pec_records.specs.declared.entries.Entry.{Entry}
use Rattle.pec_records.specs.declared.entries.Entry.TheVariants as entries
use Rattle.pec_ledger.specs.Network.{Site, empty_site, site_at}
use Rattle.pec_ledger.specs.Trade.{Trade}
use Rattle.pec_plays.specs.Commands.{Answer, Command, Luck, Played, Submit, Tick, Round, Lose, Repeat, Swap, Inject, Crash, Restart, Book, Mailbox, Show, Archive, Upgrade, Vault, VaultShow, Screen, Turns, played}
use Rattle.pec_plays.specs.Decisions.{kept_looks}
use Rattle.pec_plays.specs.Possible.{GaveWhatWasKept, IsLookedAt, IsOfKept, MayCut, MayFail, MayMeet}
use Rattle.pec_plays.specs.Rounds.{delivered, delivered_to, outs_of, rooms_of, rounded, told_from, turns_from, turns_of, with_waiting}
use Rattle.pec_plays.specs.Settled.{AreOneBut, DifferBy, IsInDoubt}
use Rattle.pec_plays.specs.Steps.{Step}
use Rattle.pec_plays.specs.Turns.{Cut, Turned, Whole, Fails, Full, Stops, Unread, Other, Sees, behind, broken, cut_turn, entry_at, events_of, frames_in, last_of, not_begun, steps_of, turned}
use Rattle.pec_plays.proofs.DeliveryLemmas.{after_is, after_length, past_the_end, turn_in}
use Rattle.pec_plays.proofs.LooksLemmas.{steps_kept}
use Rattle.pec_plays.proofs.SettleLemmas.{cut_settled, ended_with, more_steps, not_full, not_stopped, played_settled, same_end, unread_so}
use Rattle.pec_plays.proofs.TurnLemmas.{slice_get_at, step_there, told_so}

-- ---- turns that were planned so

-- an entry of these steps is in doubt behind two turns
pub record Doubts (trade : Trade) (p : ℕ) (steps : List Step) (x y : Turned) : Type 0 where
  pub entry : Entry
  pub failed : x.ended ≡ Some faults.DiskFault
  pub looked : IsLookedAt trade p steps (length x.events)
  pub is : entry_at steps (length x.events) ≡ Some entry
  pub out : x.out ≡ y.out
  pub sites : DifferBy entry x.site y.site ⊎ DifferBy entry y.site x.site

abbrev pub InDoubt : Trade → ℕ → List Step → Turned → Turned → Type 0
InDoubt trade p steps x y = (x ≡ y) ⊎ Doubts trade p steps x y

-- the place of a decision that is in doubt
same_place : (site : Site) (steps : List Step) (n m : ℕ) → m < length steps → events_of (take n steps) ≡ events_of (take m steps) → n ≤ length steps → n ≡ m
same_place site steps n m l e few =
    let a = told_so n steps few
    in let b = told_so m steps (omega (arith, l))
    in let c = ap length e
    in omega (arith, a, b, c)

-- an append failed at a decision, and not a read behind all steps
appended_there : (steps : List Step) (n m : ℕ) (fault : ProviderFault) → m < length steps → MayFail steps n fault → n ≡ m → fault ≡ faults.DiskFault
appended_there steps n m fault l (inl append) e = append.0
appended_there steps n m fault l (inr read) e = absurd (let r = read.0 in omega (arith, r, e, l))

fails_few : (steps : List Step) (n : ℕ) (fault : ProviderFault) → MayFail steps n fault → n ≤ length steps
fails_few steps n fault (inl append) = by_entry (slice_get steps n) refl append.1
  where
    by_entry : (found : Option Step) → slice_get steps n ≡ found → IsSome (option_and_then (λ (step : Step). step.entry) found) → n ≤ length steps
    by_entry found e some = let l = step_there n steps found e some in omega (arith, l)
fails_few steps n fault (inr read) = let e = read.0 in omega (arith, e)

module _ (trade : Trade) (p : ℕ) (rooms : ℕ → ℕ) (site : Site) (steps : List Step) where
  -- where the append of a decision failed, or the read before it
  doubt_at : (m : ℕ) (y : ProviderFault) → IsLookedAt trade p steps m → y ≡ faults.DiskFault
      → Doubts trade p steps (ended_with site steps m y (entry_at steps m)) (ended_with site steps m y None)
  doubt_at m y looked disk =
      let l = slice_get_at m steps (slice_get steps m) refl looked.there
      in let count = told_so m steps (omega (arith, l))
      in let entry = entries.Decided looked.moment looked.id looked.recipient looked.decision
      in record {
        entry = entry;
        failed = ap (λ (f : ProviderFault). Some f) disk;
        looked = subst (λ (k : ℕ). IsLookedAt trade p steps k) (sym count) looked;
        is = ap (entry_at steps) count ∙ looked.there;
        out = refl;
        sites = inl (record { has = ap (broken (behind site (take m steps) (m + 1))) looked.there; none = refl });
      }

  turned_round : (x y : Turned) → x.events ≡ y.events → x.ended ≡ y.ended → Doubts trade p steps x y → Doubts trade p steps y x
  turned_round x y e f doubt = record {
    entry = doubt.entry;
    failed = sym f ∙ doubt.failed;
    looked = subst (λ (es : List Event). IsLookedAt trade p steps (length es)) e doubt.looked;
    is = ap (λ (es : List Event). entry_at steps (length es)) (sym e) ∙ doubt.is;
    out = sym doubt.out;
    sites = other_way doubt.entry doubt.sites;
  }
    where
      other_way : (entry : Entry) → DifferBy entry x.site y.site ⊎ DifferBy entry y.site x.site → DifferBy entry y.site x.site ⊎ DifferBy entry x.site y.site
      other_way entry (inl one) = inr one
      other_way entry (inr one) = inl one

  -- an append that failed against a read that failed
  failed_doubt : (n m : ℕ) (x y : ProviderFault) → MayFail steps n x → IsLookedAt trade p steps m
      → events_of (take n steps) ≡ events_of (take m steps) → Some x ≡ Some y
      → Doubts trade p steps (ended_with site steps n x (entry_at steps n)) (ended_with site steps m y None)
  failed_doubt n m x y may looked e f =
      let l = slice_get_at m steps (slice_get steps m) refl looked.there
      in let same = same_place site steps n m l e (fails_few steps n x may)
      in let alike = same_Some x y f
      in subst (λ (k : ℕ). Doubts trade p steps (ended_with site steps k x (entry_at steps k)) (ended_with site steps m y None)) (sym same)
      (subst (λ (g : ProviderFault). Doubts trade p steps (ended_with site steps m g (entry_at steps m)) (ended_with site steps m y None)) (sym alike)
      (doubt_at m y looked (sym alike ∙ appended_there steps n m x l may same)))

  pub cut_doubt : (a b : Cut) → length (frames_in site.waiting) ≤ length steps → IsOfKept a → IsOfKept b
      → MayCut trade p steps a → MayCut trade p steps b
      → (cut_turn trade p rooms site steps a).events ≡ (cut_turn trade p rooms site steps b).events
      → (cut_turn trade p rooms site steps a).ended ≡ (cut_turn trade p rooms site steps b).ended
      → InDoubt trade p steps (cut_turn trade p rooms site steps a) (cut_turn trade p rooms site steps b)
  cut_doubt (Unread n x) (Unread m y) few k l may others e f = inl (unread_so site steps n m x y (same_end site steps n m few e) (same_Some x y f))
  cut_doubt (Fails n x) (Unread m y) few k l may others e f = inr (failed_doubt n m x y may.1 others.2 e f)
  cut_doubt (Unread n x) (Fails m y) few k l may others e f =
      inr (turned_round (cut_turn trade p rooms site steps (Fails m y)) (cut_turn trade p rooms site steps (Unread n x)) (sym e) (sym f)
      (failed_doubt m n y x others.1 may.2 (sym e) (sym f)))
  cut_doubt (Unread n x) Whole few k l may others e f = absurd (none-some x (sym f))
  cut_doubt (Unread n x) (Full m) few k l may others e f = absurd (not_full x k f)
  cut_doubt (Unread n x) (Stops m) few k l may others e f = absurd (not_stopped x k f)
  cut_doubt Whole (Unread m y) few k l may others e f = absurd (none-some y f)
  cut_doubt (Full n) (Unread m y) few k l may others e f = absurd (not_full y l (sym f))
  cut_doubt (Stops n) (Unread m y) few k l may others e f = absurd (not_stopped y l (sym f))
  cut_doubt Whole Whole few k l may others e f = inl refl
  cut_doubt Whole (Fails m y) few k l may others e f = inl (cut_settled trade p rooms site steps Whole (Fails m y) few k l refl e f)
  cut_doubt Whole (Full m) few k l may others e f = inl (cut_settled trade p rooms site steps Whole (Full m) few k l refl e f)
  cut_doubt Whole (Stops m) few k l may others e f = inl (cut_settled trade p rooms site steps Whole (Stops m) few k l refl e f)
  cut_doubt (Fails n x) Whole few k l may others e f = inl (cut_settled trade p rooms site steps (Fails n x) Whole few k l refl e f)
  cut_doubt (Fails n x) (Fails m y) few k l may others e f = inl (cut_settled trade p rooms site steps (Fails n x) (Fails m y) few k l refl e f)
  cut_doubt (Fails n x) (Full m) few k l may others e f = inl (cut_settled trade p rooms site steps (Fails n x) (Full m) few k l refl e f)
  cut_doubt (Fails n x) (Stops m) few k l may others e f = inl (cut_settled trade p rooms site steps (Fails n x) (Stops m) few k l refl e f)
  cut_doubt (Full n) Whole few k l may others e f = inl (cut_settled trade p rooms site steps (Full n) Whole few k l refl e f)
  cut_doubt (Full n) (Fails m y) few k l may others e f = inl (cut_settled trade p rooms site steps (Full n) (Fails m y) few k l refl e f)
  cut_doubt (Full n) (Full m) few k l may others e f = inl (cut_settled trade p rooms site steps (Full n) (Full m) few k l refl e f)
  cut_doubt (Full n) (Stops m) few k l may others e f = inl (cut_settled trade p rooms site steps (Full n) (Stops m) few k l refl e f)
  cut_doubt (Stops n) Whole few k l may others e f = inl (cut_settled trade p rooms site steps (Stops n) Whole few k l refl e f)
  cut_doubt (Stops n) (Fails m y) few k l may others e f = inl (cut_settled trade p rooms site steps (Stops n) (Fails m y) few k l refl e f)
  cut_doubt (Stops n) (Full m) few k l may others e f = inl (cut_settled trade p rooms site steps (Stops n) (Full m) few k l refl e f)
  cut_doubt (Stops n) (Stops m) few k l may others e f = inl (cut_settled trade p rooms site steps (Stops n) (Stops m) few k l refl e f)
  cut_doubt (Other x) b few k l may others e f = absurd k
  cut_doubt a (Other y) few k l may others e f = absurd l
  cut_doubt (Sees x a) b few k l may others e f = absurd k
  cut_doubt a (Sees y b) few k l may others e f = absurd l

-- ---- turns

module _ (trade : Trade) (now : ℕ) where
  abbrev MayBegin : ℕ → Site → Cut → Type 0
  MayBegin p site cut = site.up ≡ true → nat_lt now (last_of trade p site.journal) ≡ false → MayCut trade p (steps_of trade p now site cut) cut

  -- two turns of a provider of which the same is told
  abbrev Alike : ℕ → Site → Turned → Turned → Type 0
  Alike p site x y = x.events ≡ y.events → x.ended ≡ y.ended → InDoubt trade p (steps_of trade p now site Whole) x y

  abbrev turn_by : ℕ → (ℕ → ℕ) → Site → Cut → Bool → Bool → Turned
  turn_by p rooms site cut up late =
      if up then (if late then not_begun site (faults.ClockBack (last_of trade p site.journal))
      else cut_turn trade p rooms site (steps_of trade p now site cut) cut)
      else not_begun site faults.Down

  begun_doubt : (p : ℕ) (rooms : ℕ → ℕ) (site : Site) (a b : Cut) → IsOfKept a → IsOfKept b
      → (taken left : List Step) → taken ≡ steps_of trade p now site Whole → left ≡ steps_of trade p now site Whole
      → MayCut trade p taken a → MayCut trade p left b → Alike p site (cut_turn trade p rooms site taken a) (cut_turn trade p rooms site left b)
  begun_doubt p rooms site a b k l taken left same alike may others =
      let steps = steps_of trade p now site Whole
      in subst (λ (s : List Step). Alike p site (cut_turn trade p rooms site s a) (cut_turn trade p rooms site left b)) (sym same)
      (subst (λ (s : List Step). Alike p site (cut_turn trade p rooms site steps a) (cut_turn trade p rooms site s b)) (sym alike)
      (λ e f. cut_doubt trade p rooms site steps a b (more_steps trade now p (kept_looks trade p site.screens) site.journal (frames_in site.waiting)) k l
      (subst (λ (s : List Step). MayCut trade p s a) same may) (subst (λ (s : List Step). MayCut trade p s b) alike others) e f))

  turn_doubt : (p : ℕ) (rooms : ℕ → ℕ) (site : Site) (a b : Cut) → IsOfKept a → IsOfKept b → MayBegin p site a → MayBegin p site b
      → (up late : Bool) → site.up ≡ up → nat_lt now (last_of trade p site.journal) ≡ late
      → Alike p site (turn_by p rooms site a up late) (turn_by p rooms site b up late)
  turn_doubt p rooms site a b k l may others true false up time =
      begun_doubt p rooms site a b k l (steps_of trade p now site a) (steps_of trade p now site b) (steps_kept trade p now site a k) (steps_kept trade p now site b l)
      (may up time) (others up time)
  turn_doubt p rooms site a b k l may others true true up time = λ e f. inl refl
  turn_doubt p rooms site a b k l may others false late up time = λ e f. inl refl

  turned_doubt : (p : ℕ) (rooms : ℕ → ℕ) (site : Site) (a b : Cut) → IsOfKept a → IsOfKept b → MayBegin p site a → MayBegin p site b
      → Alike p site (turned trade p now rooms a site) (turned trade p now rooms b site)
  unfolding turned
  turned_doubt p rooms site a b k l may others =
      turn_doubt p rooms site a b k l may others site.up (nat_lt now (last_of trade p site.journal)) refl refl

  -- ---- the turns of a round

  abbrev events_in : List Turn → List Event
  events_in [] = []
  events_in (turn ∷ turns) = turn.events

  abbrev ended_in : List Turn → Option ProviderFault
  ended_in [] = None
  ended_in (turn ∷ turns) = turn.ended

  abbrev tail_of : List Turn → List Turn
  tail_of [] = []
  tail_of (turn ∷ turns) = turns

  outs_so : (x y : List (List Bytes)) (xs ys : List (List (List Bytes))) → x ≡ y → xs ≡ ys → x ∷ xs ≡ y ∷ ys
  outs_so x y xs ys e f = rw (e, f) refl

  out_so : (p : ℕ) (steps : List Step) (x y : Turned) → InDoubt trade p steps x y → x.out ≡ y.out
  out_so p steps x y (inl same) = ap (λ (t : Turned). t.out) same
  out_so p steps x y (inr doubt) = doubt.out

  module _ (all : List Site) (a b : ℕ → Cut) (k : (p : ℕ) → IsOfKept (a p)) (l : (p : ℕ) → IsOfKept (b p)) where
    abbrev AllMay : (ℕ → Cut) → ℕ → List Site → Type 0
    AllMay cuts number ss = (i : ℕ) → i < length ss → MayBegin (number + i) (slice_index_or ss i empty_site) (cuts (number + i))

    first_may : (cuts : ℕ → Cut) (number : ℕ) (s : Site) (ss : List Site) → AllMay cuts number (s ∷ ss) → MayBegin number s (cuts number)
    first_may cuts number s ss may = subst (λ (q : ℕ). MayBegin q s (cuts q)) (let z : number + 0 ≡ number = omega arith in z) (may 0 (omega arith))

    rest_may : (cuts : ℕ → Cut) (number : ℕ) (s : Site) (ss : List Site) → AllMay cuts number (s ∷ ss) → AllMay cuts (number + 1) ss
    rest_may cuts number s ss may i m =
        subst (λ (q : ℕ). MayBegin q (slice_index_or ss i empty_site) (cuts q)) (let z : number + suc i ≡ (number + 1) + i = omega arith in z)
        (may (suc i) (omega (arith, m)))

    abbrev turn_so : (ℕ → Cut) → ℕ → Site → Turned
    turn_so cuts q site = turned trade q now (rooms_of all q) (cuts q) site

    first_doubt : (number : ℕ) (s : Site) (ss : List Site) → AllMay a number (s ∷ ss) → AllMay b number (s ∷ ss)
        → told_from number (turns_from trade now all a number (s ∷ ss)) ≡ told_from number (turns_from trade now all b number (s ∷ ss))
        → InDoubt trade number (steps_of trade number now s Whole) (turn_so a number s) (turn_so b number s)
    first_doubt number s ss may others e =
        turned_doubt number (rooms_of all number) s (a number) (b number) (k number) (l number) (first_may a number s ss may) (first_may b number s ss others)
        (ap events_in e) (ap ended_in e)

    outs_doubt : (number : ℕ) (ss : List Site) → AllMay a number ss → AllMay b number ss
        → told_from number (turns_from trade now all a number ss) ≡ told_from number (turns_from trade now all b number ss)
        → outs_of (turns_from trade now all a number ss) ≡ outs_of (turns_from trade now all b number ss)
    outs_doubt number [] may others e = refl
    outs_doubt number (s ∷ ss) may others e =
        outs_so (turn_so a number s).out (turn_so b number s).out (outs_of (turns_from trade now all a (number + 1) ss)) (outs_of (turns_from trade now all b (number + 1) ss))
        (out_so number (steps_of trade number now s Whole) (turn_so a number s) (turn_so b number s) (first_doubt number s ss may others e))
        (outs_doubt (number + 1) ss (rest_may a number s ss may) (rest_may b number s ss others) (ap tail_of e))

    each_doubt : (number : ℕ) (ss : List Site) → AllMay a number ss → AllMay b number ss
        → told_from number (turns_from trade now all a number ss) ≡ told_from number (turns_from trade now all b number ss)
        → (i : ℕ) → i < length ss → (q : ℕ) → number + i ≡ q
        → InDoubt trade q (steps_of trade q now (slice_index_or ss i empty_site) Whole) (turn_so a q (slice_index_or ss i empty_site)) (turn_so b q (slice_index_or ss i empty_site))
    each_doubt number [] may others e i m q z = absurd (omega (arith, m))
    each_doubt number (s ∷ ss) may others e zero m q z =
        subst (λ (r : ℕ). InDoubt trade r (steps_of trade r now s Whole) (turn_so a r s) (turn_so b r s)) (let y : number ≡ q = omega (arith, z) in y)
        (first_doubt number s ss may others e)
    each_doubt number (s ∷ ss) may others e (suc i) m q z =
        each_doubt (number + 1) ss (rest_may a number s ss may) (rest_may b number s ss others) (ap tail_of e) i (omega (arith, m)) q
        (let y : (number + 1) + i ≡ q = omega (arith, z) in y)

-- ---- rounds

module _ (trade : Trade) (now : ℕ) (sites : List Site) (a b : Luck) (k : GaveWhatWasKept a) (l : GaveWhatWasKept b)
    (may : MayMeet trade a sites (Round now)) (others : MayMeet trade b sites (Round now)) where
  abbrev turns_with : Luck → List Turned
  turns_with luck = turns_from trade now sites luck.cuts 0 sites

  abbrev after_with : Luck → List Site
  after_with luck = delivered (outs_of (turns_with luck)) 0 (turns_with luck)

  abbrev OneBut : ℕ → Site → Site → Type 0
  OneBut q one other = (one ≡ other) ⊎ ((entry : Entry) × IsInDoubt trade now sites a q entry × (DifferBy entry one other ⊎ DifferBy entry other one))

  from_the_first : (luck : Luck) → MayMeet trade luck sites (Round now) → (i : ℕ) → i < length sites
      → MayBegin trade now (0 + i) (slice_index_or sites i empty_site) (luck.cuts (0 + i))
  from_the_first luck meets i m =
      subst (λ (q : ℕ). MayBegin trade now q (slice_index_or sites i empty_site) (luck.cuts q)) (let z : i ≡ 0 + i = omega arith in z) (meets i m)

  -- what waits behind a delivery is the same
  waiting_so : (entry : Entry) (one other : Site) (waiting : List (List Bytes)) → DifferBy entry one other → DifferBy entry (with_waiting one waiting) (with_waiting other waiting)
  waiting_so entry one other waiting differ = record { has = ap (λ (s : Site). with_waiting s waiting) differ.has; none = differ.none }

  waits_alike : (entry : Entry) (one other : Site) → DifferBy entry one other → one.waiting ≡ other.waiting
  waits_alike entry one other differ = ap (λ (s : Site). s.waiting) differ.has

  given_side : (q : ℕ) (outs : List (List (List Bytes))) (entry : Entry) (x y : Site) → DifferBy entry x y ⊎ DifferBy entry y x
      → DifferBy entry (with_waiting x (delivered_to q outs x.waiting)) (with_waiting y (delivered_to q outs y.waiting))
      ⊎ DifferBy entry (with_waiting y (delivered_to q outs y.waiting)) (with_waiting x (delivered_to q outs x.waiting))
  given_side q outs entry x y (inl one) =
      inl (subst (λ (w : List (List Bytes)). DifferBy entry (with_waiting x (delivered_to q outs x.waiting)) (with_waiting y (delivered_to q outs w)))
      (waits_alike entry x y one) (waiting_so entry x y (delivered_to q outs x.waiting) one))
  given_side q outs entry x y (inr one) =
      inr (subst (λ (w : List (List Bytes)). DifferBy entry (with_waiting y (delivered_to q outs y.waiting)) (with_waiting x (delivered_to q outs w)))
      (waits_alike entry y x one) (waiting_so entry y x (delivered_to q outs y.waiting) one))

  given_doubt : (q : ℕ) (outs : List (List (List Bytes)))
      → InDoubt trade q (steps_of trade q now (site_at sites q) Whole) (turn_in trade now a.cuts sites q) (turn_in trade now b.cuts sites q)
      → OneBut q (with_waiting (turn_in trade now a.cuts sites q).site (delivered_to q outs (turn_in trade now a.cuts sites q).site.waiting))
      (with_waiting (turn_in trade now b.cuts sites q).site (delivered_to q outs (turn_in trade now b.cuts sites q).site.waiting))
  given_doubt q outs (inl same) = inl (ap (λ (t : Turned). with_waiting t.site (delivered_to q outs t.site.waiting)) same)
  given_doubt q outs (inr doubt) =
      inr (
        doubt.entry,
        record { failed = doubt.failed; looked = doubt.looked; is = doubt.is },
        given_side q outs doubt.entry (turn_in trade now a.cuts sites q).site (turn_in trade now b.cuts sites q).site doubt.sites,
      )

  round_doubt : told_from 0 (turns_with a) ≡ told_from 0 (turns_with b) → (q : ℕ) → OneBut q (site_at (after_with a) q) (site_at (after_with b) q)
  round_doubt e q =
      elim (cases_lt q (length sites)) [
        | inl m ↦
            let outs = outs_doubt trade now sites a.cuts b.cuts k l 0 sites (from_the_first a may) (from_the_first b others) e
            in let doubt = each_doubt trade now sites a.cuts b.cuts k l 0 sites (from_the_first a may) (from_the_first b others) e q m q (let z : 0 + q ≡ q = omega arith in z)
            in let turn = turn_in trade now b.cuts sites q
            in subst (λ (s : Site). OneBut q s (site_at (after_with b) q)) (sym (after_is trade now a.cuts sites q m))
            (subst (λ (s : Site). OneBut q (with_waiting (turn_in trade now a.cuts sites q).site (delivered_to q (outs_of (turns_with a)) (turn_in trade now a.cuts sites q).site.waiting)) s)
            (sym (after_is trade now b.cuts sites q m ∙ ap (λ (o : List (List (List Bytes))). with_waiting turn.site (delivered_to q o turn.site.waiting)) (sym outs)))
            (given_doubt q (outs_of (turns_with a)) doubt))
        | inr m ↦ inl (past_the_end trade now a.cuts sites q m ∙ sym (past_the_end trade now b.cuts sites q m))
      ]

  pub rounded_doubt : (rounded trade now a.cuts sites).turns ≡ (rounded trade now b.cuts sites).turns
      → AreOneBut trade (Round now) sites a (rounded trade now a.cuts sites).sites (rounded trade now b.cuts sites).sites
  unfolding rounded turns_of
  rounded_doubt e = record {
    count = after_length trade now a.cuts sites ∙ sym (after_length trade now b.cuts sites);
    each = round_doubt e;
  }

-- ---- commands

abbrev turns_told : Answer → List Turn
turns_told (Turns turns) = turns
turns_told _ = []

-- a luck in which no turn goes wrong, and devices do the same apart from that
abbrev calm_turns : Luck → Luck
calm_turns luck = record { cuts = λ provider. Whole; fails = luck.fails; found = luck.found; read = luck.read; shown = luck.shown }

module _ (trade : Trade) (sites : List Site) (a b : Luck) where
  -- a command that isn't a round does the same however turns are cut
  settled_calmly : (command : Command) → played trade a sites command ≡ played trade (calm_turns a) sites command
      → played trade b sites command ≡ played trade (calm_turns b) sites command
      → (played trade a sites command).answer ≡ (played trade b sites command).answer
      → (played trade a sites command).after ≡ (played trade b sites command).after
  settled_calmly command one other e =
      ap (λ (p : Played). p.after) one
      ∙ played_settled trade sites command (calm_turns a) (calm_turns b) (λ p. tt) (λ p. tt) (λ p. refl)
      (sym (ap (λ (p : Played). p.answer) one) ∙ e ∙ ap (λ (p : Played). p.answer) other)
      ∙ sym (ap (λ (p : Played). p.after) other)

  same_sites : (one other : List Site) → one ≡ other → (length one ≡ length other) × ((q : ℕ) → site_at one q ≡ site_at other q)
  same_sites one other e = (ap length e, λ q. ap (λ (ss : List Site). site_at ss q) e)

pub played_doubt : (trade : Trade) (sites : List Site) (command : Command) (a b : Luck) → GaveWhatWasKept a → GaveWhatWasKept b
    → MayMeet trade a sites command → MayMeet trade b sites command
    → (played trade a sites command).answer ≡ (played trade b sites command).answer
    → AreOneBut trade command sites a (played trade a sites command).after (played trade b sites command).after
unfolding played
played_doubt trade sites (Round now) a b k l may others e = rounded_doubt trade now sites a b k l may others (ap turns_told e)
played_doubt trade sites (Submit p now sender path message) a b k l may others e =
    let same = same_sites trade sites a b _ _ (settled_calmly trade sites a b (Submit p now sender path message) refl refl e) in record { count = same.0; each = same.1 }
played_doubt trade sites (Tick p now) a b k l may others e =
    let same = same_sites trade sites a b _ _ (settled_calmly trade sites a b (Tick p now) refl refl e) in record { count = same.0; each = same.1 }
played_doubt trade sites (Lose from to place) a b k l may others e =
    let same = same_sites trade sites a b _ _ (settled_calmly trade sites a b (Lose from to place) refl refl e) in record { count = same.0; each = same.1 }
played_doubt trade sites (Repeat from to place) a b k l may others e =
    let same = same_sites trade sites a b _ _ (settled_calmly trade sites a b (Repeat from to place) refl refl e) in record { count = same.0; each = same.1 }
played_doubt trade sites (Swap from to place) a b k l may others e =
    let same = same_sites trade sites a b _ _ (settled_calmly trade sites a b (Swap from to place) refl refl e) in record { count = same.0; each = same.1 }
played_doubt trade sites (Inject from to frame) a b k l may others e =
    let same = same_sites trade sites a b _ _ (settled_calmly trade sites a b (Inject from to frame) refl refl e) in record { count = same.0; each = same.1 }
played_doubt trade sites (Crash p) a b k l may others e =
    let same = same_sites trade sites a b _ _ (settled_calmly trade sites a b (Crash p) refl refl e) in record { count = same.0; each = same.1 }
played_doubt trade sites (Restart p) a b k l may others e =
    let same = same_sites trade sites a b _ _ (settled_calmly trade sites a b (Restart p) refl refl e) in record { count = same.0; each = same.1 }
played_doubt trade sites (Book address) a b k l may others e =
    let same = same_sites trade sites a b _ _ (settled_calmly trade sites a b (Book address) refl refl e) in record { count = same.0; each = same.1 }
played_doubt trade sites (Mailbox address) a b k l may others e =
    let same = same_sites trade sites a b _ _ (settled_calmly trade sites a b (Mailbox address) refl refl e) in record { count = same.0; each = same.1 }
played_doubt trade sites (Show address place) a b k l may others e =
    let same = same_sites trade sites a b _ _ (settled_calmly trade sites a b (Show address place) refl refl e) in record { count = same.0; each = same.1 }
played_doubt trade sites (Archive address now place) a b k l may others e =
    let same = same_sites trade sites a b _ _ (settled_calmly trade sites a b (Archive address now place) refl refl e) in record { count = same.0; each = same.1 }
played_doubt trade sites (Upgrade p now) a b k l may others e =
    let same = same_sites trade sites a b _ _ (settled_calmly trade sites a b (Upgrade p now) refl refl e) in record { count = same.0; each = same.1 }
played_doubt trade sites (Vault address) a b k l may others e =
    let same = same_sites trade sites a b _ _ (settled_calmly trade sites a b (Vault address) refl refl e) in record { count = same.0; each = same.1 }
played_doubt trade sites (VaultShow address place) a b k l may others e =
    let same = same_sites trade sites a b _ _ (settled_calmly trade sites a b (VaultShow address place) refl refl e) in record { count = same.0; each = same.1 }
played_doubt trade sites (Screen p place spare) a b k l may others e =
    let same = same_sites trade sites a b _ _ (settled_calmly trade sites a b (Screen p place spare) refl refl e) in record { count = same.0; each = same.1 }
