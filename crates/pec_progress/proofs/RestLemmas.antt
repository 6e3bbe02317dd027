-- Behind four rounds that go well all is settled, so that a fifth puts nothing.
use Rattle.std.proofs.Common.{◌≡◌, ℕ, suc, ◌+◌, ◌<◌, ◌≤◌, List, [], ◌∷◌, true, not, inl, inr, length, map, refl, ap, sym, subst, ◌∙◌, arith, Option, Some, None}
use Rattle.std.specs.Prelude.{Contains, is_some, slice_get, slice_index_or}
use Rattle.std.specs.Option.{option_and_then}
use Rattle.std.proofs.lemmas.Bool.{cases_lt, false≢true}
use Rattle.std.proofs.lemmas.List.{get_or_past}
use Rattle.std.proofs.lemmas.List.Elements.{Contains-append_cases}
use Rattle.std.proofs.lemmas.Option.{same_Some}
use Rattle.pec_types.specs.Bytes.{Bytes}
use Rattle.pec_ledger.specs.Half.{Message}
use Rattle.pec_ledger.specs.Ledger.{Fit, Journals, ledger}
use Rattle.pec_ledger.specs.Lookups.{Accepted, accepted_of, addresses_of, at_home, is_acked, is_home}
use Rattle.pec_ledger.specs.Network.{Site, Sound, empty_site, frames_between, journal_at, journals_of, site_at}
use Rattle.pec_ledger.specs.Pairs.{Pair, id_of, pair_of}
use Rattle.pec_ledger.specs.Trade.{Trade}
use Rattle.pec_ledger.specs.TradeLaws.{IsTrade}
use Rattle.pec_progress.specs.Progress.{AllCarry, AllGoWell, IsSettled, NothingWaits, RoundAt, WasAccepted, after_round, behind, open_over, pairs_at, pairs_from, unsettled}
use Rattle.pec_progress.proofs.AnswerLemmas.{Each, IsQuiet, costs_free}
use Rattle.pec_progress.proofs.FewLemmas.{answers_over, looks_at, nobody_puts, nothing_waits, quiet_behind}
use Rattle.pec_progress.proofs.LawLemmas.{FitLaws, PlayLaws, RoundLaws, RowLaws}
use Rattle.pec_progress.proofs.ListLemmas.{contains_cases, contains_here, contains_none, contains_there, from_filter, home_is}
use Rattle.pec_progress.proofs.ProgressLemmas.{is_there, settled_behind_four}
use Rattle.pec_progress.proofs.RoundLemmas.{sound_after}
use Rattle.pec_progress.proofs.UnsettledLemmas.{fewer_unsettled, open_bound, same_messages}

no_item : {X : Type 0} (xs : List X) → ((x : X) → Contains xs x → ⊥) → xs ≡ []
no_item [] none = refl
no_item (x ∷ xs) none = absurd (none x (contains_here x xs))

no_length : {X : Type 0} (xs : List X) → length xs ≤ 0 → xs ≡ []
no_length [] l = refl
no_length (x ∷ xs) l = absurd (omega (arith, l))

from_map : {X Y : Type 0} (f : X → Y) (xs : List X) (y : Y) → Contains (map f xs) y → (x : X) × Contains xs x × (f x ≡ y)
from_map f [] y c = absurd (contains_none y c)
from_map f (x ∷ xs) y c =
    elim (contains_cases (f x) (map f xs) y c) [
      | inl same ↦ (x, contains_here x xs, same)
      | inr there ↦ let more = from_map f xs y there in (more.0, contains_there x xs more.0 more.1, more.2)
    ]

-- ---- pairs of accepted messages

-- a pair of the messages of a provider, numbered from here on, at another one
record IsAmong (trade : Trade) (provider home number : ℕ) (ms : List Message) (pair : Pair) : Type 0 where
  place : ℕ
  message : Accepted
  there : option_and_then accepted_of (slice_get ms place) ≡ Some message
  recipient : Bytes
  among : Contains (at_home trade home (addresses_of message.facts)) recipient
  is : pair_of (id_of provider (number + place)) recipient ≡ pair

pairs_here : (trade : Trade) (provider home number : ℕ) (m : Message) (ms : List Message) (found : Option Accepted) → accepted_of m ≡ found
    → (pair : Pair) → Contains (pairs_at trade home (id_of provider number) found) pair → IsAmong trade provider home number (m ∷ ms) pair
pairs_here trade provider home number m ms None e pair c = absurd (contains_none pair c)
pairs_here trade provider home number m ms (Some message) e pair c =
    let at = from_map (pair_of (id_of provider number)) (at_home trade home (addresses_of message.facts)) pair c
    in record {
      place = 0;
      message = message;
      there = e;
      recipient = at.0;
      among = at.1;
      is = ap (λ (n : ℕ). pair_of (id_of provider n) at.0) (let z : number + 0 ≡ number = omega arith in z) ∙ at.2;
    }

pairs_among : (trade : Trade) (provider home number : ℕ) (ms : List Message) (pair : Pair) → Contains (pairs_from trade provider home number ms) pair
    → IsAmong trade provider home number ms pair
pairs_among trade provider home number [] pair c = absurd (contains_none pair c)
pairs_among trade provider home number (m ∷ ms) pair c =
    elim (Contains-append_cases (pairs_at trade home (id_of provider number) (accepted_of m)) (pairs_from trade provider home (number + 1) ms) pair c) [
      | inl here ↦ pairs_here trade provider home number m ms (accepted_of m) refl pair here
      | inr later ↦
          let is = pairs_among trade provider home (number + 1) ms pair later
          in record {
            place = suc is.place;
            message = is.message;
            there = is.there;
            recipient = is.recipient;
            among = is.among;
            is = ap (λ (n : ℕ). pair_of (id_of provider n) is.recipient) (let z : number + suc is.place ≡ (number + 1) + is.place = omega arith in z) ∙ is.is;
          }
    ]

from_zero : (provider place : ℕ) (recipient : Bytes) → pair_of (id_of provider place) recipient ≡ pair_of (id_of provider (0 + place)) recipient
from_zero provider place recipient = ap (λ (n : ℕ). pair_of (id_of provider n) recipient) (let z : place ≡ 0 + place = omega arith in z)

-- where each pair is settled none is unsettled
none_unsettled : (trade : Trade) (sites : List Site) → ((pair : Pair) → WasAccepted trade sites pair → IsSettled trade sites pair) → (from home : ℕ) → unsettled trade sites from home ≡ []
none_unsettled trade sites all from home =
    no_item (unsettled trade sites from home)
    (λ pair c.
    let kept = from_filter (λ (pair : Pair). not (is_acked (ledger trade (journals_of sites) home) pair)) (pairs_from trade from home 0 (ledger trade (journals_of sites) from).messages) pair c
    in let is = pairs_among trade from home 0 (ledger trade (journals_of sites) from).messages pair kept.0
    in let test = from_filter (λ (address : Bytes). is_home home (trade.home address)) (addresses_of is.message.facts) is.recipient is.among
    in let at = home_is home (trade.home is.recipient) test.1
    in let settled = all (pair_of (id_of from is.place) is.recipient) (record { message = is.message; accepted = is.there; has = (test.0, ap is_some at) })
    in let same = same_Some settled.home home (sym settled.at_home ∙ at)
    in let acked : is_acked (ledger trade (journals_of sites) home) pair ≡ true =
    subst (λ (q : ℕ). is_acked (ledger trade (journals_of sites) q) pair ≡ true) same (subst (λ (x : Pair). is_acked (ledger trade (journals_of sites) settled.home) x ≡ true) (from_zero from is.place is.recipient ∙ is.is) settled.acked)
    in false≢true (sym (ap not acked) ∙ kept.1))

-- ---- rounds

module _ (trade : Trade) (world : IsTrade trade) (rows : RowLaws trade) (plays : PlayLaws trade) (rounds : RoundLaws trade)
    (fits : (J : Journals) → Fit trade J → FitLaws trade J) where
  -- what is accepted behind rounds was accepted before them
  was_before : (rs : List RoundAt) (sites : List Site) → Sound trade sites → AllGoWell trade rs sites → (pair : Pair) → WasAccepted trade (behind trade rs sites) pair
      → WasAccepted trade sites pair
  unfolding ledger
  was_before [] sites sound well pair is = is
  was_before (r ∷ rs) sites sound well pair is =
      let p = pair.id.provider
      in let after = after_round trade r.now r.cuts sites
      in let next = was_before rs after (sound_after trade rows plays rounds fits r.now r.cuts sites sound well.0) well.1 pair is
      in let l = subst (λ (n : ℕ). p < n) (rounds.count r.now r.cuts sites) (is_there trade after pair.id next.message next.accepted)
      in record {
        message = next.message;
        accepted = ap (λ (ms : List Message). option_and_then accepted_of (slice_get ms pair.id.number))
            (sym (same_messages trade rows plays rounds fits r.now r.cuts sites sound well.0 p l)) ∙ next.accepted;
        has = next.has;
      }

  -- a round behind which nothing is unsettled, and the one behind it
  module _ (r s : RoundAt) (sites : List Site) (sound : Sound trade sites) (well : AllGoWell trade (r ∷ s ∷ []) sites) (carry : AllCarry trade (r ∷ s ∷ []) sites)
      (none : (from home : ℕ) → unsettled trade (after_round trade r.now r.cuts sites) from home ≡ []) where
    abbrev one : List Site
    one = after_round trade r.now r.cuts sites

    abbrev two : List Site
    two = after_round trade s.now s.cuts one

    sound1 : Sound trade one
    sound1 = sound_after trade rows plays rounds fits r.now r.cuts sites sound well.0

    here : (k : ℕ) → k < length one → k < length sites
    here k l = subst (λ (n : ℕ). k < n) (rounds.count r.now r.cuts sites) l

    none_open : (from to : ℕ) → from < length sites → open_over trade r.now sites from to ≡ []
    none_open from to lf =
        let most = open_bound trade rows plays rounds fits r.now r.cuts sites sound well.0 from to lf
        in let a = ap (λ (l : List Pair). length l) (none to from)
        in let b = ap (λ (l : List Pair). length l) (none from to)
        in no_length (open_over trade r.now sites from to) (omega (arith, most, a, b))

    none_open_then : (from to : ℕ) → from < length one → to < length one → open_over trade s.now one from to ≡ []
    none_open_then from to lf lt =
        let most = open_bound trade rows plays rounds fits s.now s.cuts one sound1 well.1.0 from to lf
        in let a = fewer_unsettled trade rows plays rounds fits s.now s.cuts one sound1 well.1.0 to from lt lf
        in let b = fewer_unsettled trade rows plays rounds fits s.now s.cuts one sound1 well.1.0 from to lf lt
        in let c = ap (λ (l : List Pair). length l) (none to from)
        in let d = ap (λ (l : List Pair). length l) (none from to)
        in no_length (open_over trade s.now one from to) (omega (arith, most, a, b, c, d))

    all_quiet : (to : ℕ) → to < length one → (from : ℕ) → Each (IsQuiet trade to) (frames_between one from to)
    all_quiet to l from =
        elim (cases_lt from (length sites)) [
          | inl lf ↦ quiet_behind trade rows plays rounds fits r.now r.cuts sites sound well.0 carry.0.room from to lf (here to l) (none_open from to lf)
          | inr past ↦ subst (Each (IsQuiet trade to)) (sym (nobody_puts trade rows plays rounds fits r.now r.cuts sites sound well.0 from to past (here to l))) (λ f c. absurd (contains_none f c))
        ]

    no_answers : (from to : ℕ) → from < length one → answers_over trade rows plays rounds fits s.now s.cuts one sound1 well.1.0 from to ≡ []
    no_answers from to l =
        no_length _ (costs_free trade plays from s.now (looks_at trade rows plays rounds fits s.now s.cuts one sound1 well.1.0 from) to (site_at one from).waiting (all_quiet from l) (journal_at one from))

    pub links_empty : NothingWaits two
    links_empty from to =
        elim (cases_lt to (length one)) [
          | inr past ↦ ap (λ (site : Site). slice_index_or site.waiting from []) (get_or_past two to empty_site (let e = rounds.count s.now s.cuts one in omega (arith, past, e)))
          | inl lt ↦
              elim (cases_lt from (length one)) [
                | inr past ↦ nobody_puts trade rows plays rounds fits s.now s.cuts one sound1 well.1.0 from to past lt
                | inl lf ↦ nothing_waits trade rows plays rounds fits s.now s.cuts one sound1 well.1.0 carry.1.0.room from to lf lt (no_answers from to lf) (none_open_then from to lf lt)
              ]
        ]

  pub quiet_behind_five : (first second third fourth fifth : RoundAt) (sites : List Site) → Sound trade sites
      → AllGoWell trade (first ∷ second ∷ third ∷ fourth ∷ fifth ∷ []) sites → AllCarry trade (first ∷ second ∷ third ∷ fourth ∷ fifth ∷ []) sites
      → NothingWaits (behind trade (first ∷ second ∷ third ∷ fourth ∷ fifth ∷ []) sites)
  quiet_behind_five first second third fourth fifth sites sound well carry =
      let next : RoundAt → List Site → List Site = λ r sites. after_round trade r.now r.cuts sites
      in let one = next first sites
      in let two = next second one
      in let three = next third two
      in let s1 = sound_after trade rows plays rounds fits first.now first.cuts sites sound well.0
      in let s2 = sound_after trade rows plays rounds fits second.now second.cuts one s1 well.1.0
      in let s3 = sound_after trade rows plays rounds fits third.now third.cuts two s2 well.1.1.0
      in let well4 : AllGoWell trade (first ∷ second ∷ third ∷ fourth ∷ []) sites = (well.0, (well.1.0, (well.1.1.0, (well.1.1.1.0, tt))))
      in links_empty fourth fifth three s3 well.1.1.1 carry.1.1.1
      (none_unsettled trade (next fourth three)
      (λ pair is.
      settled_behind_four trade world rows plays rounds fits pair first second third fourth sites sound
      (was_before (first ∷ second ∷ third ∷ fourth ∷ []) sites sound well4 pair is) well4 (carry.0, (carry.1.0, (carry.1.1.0, tt)))))
