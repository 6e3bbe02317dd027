-- The entries of a planned turn follow, and so does every front of it.
use Rattle.std.proofs.Common.{◌≡◌, ℕ, zero, suc, ◌<◌, ◌≤◌, List, [], ◌∷◌, ◌++◌, Bool, true, false, ◌&&◌, cond, inl, inr, take, refl, ap, sym, subst, ◌∙◌, arith, Option, Some, None}
use Rattle.std.specs.Prelude.{filter, is_none}
use Rattle.std.specs.List.{find}
use Rattle.std.specs.Option.{option_or, option_to_list}
use Rattle.std.proofs.lemmas.Bool.{and_from, and_parts, cases_Bool}
use Rattle.std.proofs.lemmas.List.{append-nil, append_assoc}
use Rattle.std.proofs.lemmas.List.Elements.{All-head, All-tail}
use Rattle.std.proofs.lemmas.List.Folds.{find-append}
use Rattle.std.proofs.lemmas.List.Sums.{fold-append}
use Rattle.pec_types.specs.Bytes.{Bytes}
use Rattle.pec_types.specs.declared.messages.Decision.{Decision}
use Rattle.pec_types.specs.declared.moments.TheConstants.{END_OF_TIME}
use Rattle.pec_records.specs.declared.entries.Entry.{Entry}
use Rattle.pec_records.specs.declared.entries.Entry.TheVariants as entries
use Rattle.pec_ledger.specs.Along.{AllAlong, AllDiffer, StandsNotIn}
use Rattle.pec_ledger.specs.Half.{Fate, Half, Taken, empty}
use Rattle.pec_ledger.specs.Ledger.{Follows, Journals, Meets}
use Rattle.pec_ledger.specs.Lookups.{decided_of, taken_of}
use Rattle.pec_ledger.specs.Network.{AreGenuine, IsGenuine}
use Rattle.pec_ledger.specs.Pairs.{Pair, same_id, same_pair}
use Rattle.pec_ledger.specs.Steps.{half, moment_of, step}
use Rattle.pec_ledger.specs.Trade.{Trade}
use Rattle.pec_ledger.specs.TradeLaws.{IsTrade}
use Rattle.pec_plays.specs.Decisions.{Looks, decide, decided_as, is_open, is_recipient_of, pairs_taken, undecided}
use Rattle.pec_plays.specs.Reception.{arrive, each_once}
use Rattle.pec_plays.specs.Steps.{Step, journal_after}
use Rattle.pec_plays.specs.Turns.{decisions, entries_of, entry_at, plan}
use Rattle.pec_plays.proofs.ListLemmas.{differ_filter, found_none, once_differ, pair_again, same_pairs}
use Rattle.pec_plays.proofs.StepLemmas.{ArrivalLaws, arrive_good, decide_good}

along_left : {S X : Type 0} (step : S → X → S) (M : S → X → Type 0) (s : S) (xs ys : List X) → AllAlong step M s (xs ++ ys) → AllAlong step M s xs
along_left step M s [] ys a = tt
along_left step M s (x ∷ xs) ys a = (a.0, along_left step M (step s x) xs ys a.1)

-- the entries before a step, that step's, and those after it
pub parted : (n : ℕ) (steps : List Step) → (rest : List Entry) × (entries_of steps ≡ entries_of (take n steps) ++ (option_to_list (entry_at steps n) ++ rest))
parted zero [] = ([], refl)
parted zero (s ∷ steps) = (entries_of steps, refl)
parted (suc n) [] = ([], refl)
parted (suc n) (s ∷ steps) =
    let more = parted n steps
    in (
      more.0,
      ap (λ (l : List Entry). option_to_list s.entry ++ l) more.1
          ∙ sym (append_assoc (option_to_list s.entry) (entries_of (take n steps)) (option_to_list (entry_at steps n) ++ more.0)),
    )

abbrev pub open_by : List Taken → List Fate → Pair → Bool
open_by taken decided pair =
    is_recipient_of pair.recipient (find (λ (t : Taken). same_id pair.id t.id) taken) && is_none (find (λ (f : Fate). same_pair pair f.pair) decided)

not_found : (pair other : Pair) (decision : Decision) (moment : ℕ) → (pair ≡ other → ⊥)
    → find (λ (f : Fate). same_pair other f.pair) (record { pair = pair; decision = decision; moment = moment } ∷ []) ≡ None
not_found pair other decision moment differ =
    elim (cases_Bool (same_pair other pair)) [
      | inl e ↦ absurd (differ (sym (same_pairs other pair e)))
      | inr e ↦ ap (λ b. cond b (Some (let f : Fate = record { pair = pair; decision = decision; moment = moment } in f)) None) e
    ]

pub half_one : (trade : Trade) (p : ℕ) (es : List Entry) (e : Entry) → half trade p (es ++ e ∷ []) ≡ step trade p (half trade p es) e
unfolding half
half_one trade p es e = fold-append (step trade p) empty es (e ∷ [])

-- what follows of given entries doesn't hang on what is found
abbrev pub nothing_found : Looks
nothing_found journal pair = false

module _ (trade : Trade) (world : IsTrade trade) (J : Journals) (laws : ArrivalLaws trade J) (p now : ℕ) (looks : Looks) where
  last_after : (h : Half) (e : Entry) → h.last ≤ now → moment_of e ≡ now → (step trade p h e).last ≤ now
  unfolding step
  last_after h e l m = omega arith

  abbrev GoodEntry : List Entry → Option Entry → Type 0
  GoodEntry es o = (e : Entry) → o ≡ Some e → Meets trade J p (half trade p es) e × (moment_of e ≡ now)

  one_step : (es : List Entry) (o : Option Entry) (rest : List Entry) → GoodEntry es o → (half trade p es).last ≤ now
      → ((half trade p (es ++ option_to_list o)).last ≤ now → Follows trade J p (half trade p (es ++ option_to_list o)) rest)
      → Follows trade J p (half trade p es) (option_to_list o ++ rest)
  one_step es None rest good time more =
      subst (λ (l : List Entry). Follows trade J p (half trade p l) rest) (append-nil es)
      (more (subst (λ (l : List Entry). (half trade p l).last ≤ now) (sym (append-nil es)) time))
  one_step es (Some e) rest good time more =
      let is = good e refl
      in (
        is.0,
        subst (λ (h : Half). Follows trade J p h rest) (half_one trade p es e)
            (more (subst (λ (h : Half). h.last ≤ now) (sym (half_one trade p es e)) (last_after (half trade p es) e time is.1))),
      )

  -- ---- decisions

  abbrev AllOpen : List Entry → List Pair → Type 0
  AllOpen es [] = Unit {0}
  AllOpen es (pair ∷ pairs) = (is_open (half trade p es) pair ≡ true) × AllOpen es pairs

  stays_open : (h : Half) (pair other : Pair) (decision : Decision) → (pair ≡ other → ⊥) → is_open h other ≡ true
      → is_open (step trade p h (entries.Decided now pair.id pair.recipient decision)) other ≡ true
  unfolding step
  stays_open h pair other decision differ e =
      let fate : Fate = record { pair = pair; decision = decision; moment = now }
      in let parts = and_parts (is_recipient_of other.recipient (taken_of h other.id)) (is_none (decided_of h other)) e
      in let test = λ (f : Fate). same_pair other f.pair
      in let none : find test (h.decided ++ fate ∷ []) ≡ None =
      find-append test h.decided (fate ∷ []) ∙ ap (λ (o : Option Fate). option_or o (find test (fate ∷ []))) (found_none (decided_of h other) parts.1) ∙ not_found pair other decision now differ
      in subst (λ (taken : List Taken). open_by taken (h.decided ++ fate ∷ []) other ≡ true) (sym (append-nil h.taken))
      (and_from (is_recipient_of other.recipient (taken_of h other.id)) (is_none (find test (h.decided ++ fate ∷ []))) parts.0 (ap is_none none))

  all_stay_open : (es : List Entry) (pair : Pair) (pairs : List Pair) → StandsNotIn pair pairs → AllOpen es pairs
      → AllOpen (journal_after es (decide trade p now looks es pair)) pairs
  unfolding decide
  all_stay_open es pair [] n all = tt
  all_stay_open es pair (other ∷ pairs) n all = (
    subst (λ (h : Half). is_open h other ≡ true) (sym (half_one trade p es (entries.Decided now pair.id pair.recipient (decided_as trade p looks es pair))))
        (stays_open (half trade p es) pair other (decided_as trade p looks es pair) n.0 all.0),
    all_stay_open es pair pairs n.1 all.1,
  )

  decisions_follow : (es : List Entry) (pairs : List Pair) → AllDiffer pairs → AllOpen es pairs → (half trade p es).last ≤ now → now < END_OF_TIME
      → Follows trade J p (half trade p es) (entries_of (decisions trade p now looks es pairs))
  decisions_follow es [] differ all time range = tt
  decisions_follow es (pair ∷ pairs) differ all time range =
      one_step es (decide trade p now looks es pair).entry (entries_of (decisions trade p now looks (journal_after es (decide trade p now looks es pair)) pairs))
      (decide_good trade world J laws p now es time range looks pair all.0) time
      (λ later. decisions_follow (journal_after es (decide trade p now looks es pair)) pairs differ.1 (all_stay_open es pair pairs differ.0 all.1) later range)

  passing : (es : List Entry) (pairs : List Pair) → AllOpen es (filter (is_open (half trade p es)) pairs)
  passing es [] = tt
  passing es (pair ∷ pairs) = by_test (is_open (half trade p es) pair) refl (passing es pairs)
    where
      by_test : (b : Bool) → is_open (half trade p es) pair ≡ b → AllOpen es (filter (is_open (half trade p es)) pairs)
          → AllOpen es (cond b (pair ∷ filter (is_open (half trade p es)) pairs) (filter (is_open (half trade p es)) pairs))
      by_test true e rest = (e, rest)
      by_test false e rest = rest

  undecided_follow : (es : List Entry) → (half trade p es).last ≤ now → now < END_OF_TIME
      → Follows trade J p (half trade p es) (entries_of (decisions trade p now looks es (undecided trade p es)))
  unfolding undecided
  undecided_follow es time range =
      let all = each_once same_pair (pairs_taken (half trade p es).taken)
      in decisions_follow es (filter (is_open (half trade p es)) all)
      (differ_filter (is_open (half trade p es)) all (once_differ same_pair pair_again (pairs_taken (half trade p es).taken))) (passing es all) time range

  -- ---- plans

  pub plan_follows : (es : List Entry) (frames : List Bytes) → AreGenuine trade J frames → (half trade p es).last ≤ now → now < END_OF_TIME
      → Follows trade J p (half trade p es) (entries_of (plan trade p now looks es frames))
  plan_follows es [] good time range = undecided_follow es time range
  plan_follows es (frame ∷ frames) good time range =
      one_step es (arrive trade p now es frame).entry (entries_of (plan trade p now looks (journal_after es (arrive trade p now es frame)) frames))
      (arrive_good trade world J laws p now es time range frame (All-head (IsGenuine trade J) frame frames good)) time
      (λ later. plan_follows (journal_after es (arrive trade p now es frame)) frames (All-tail (IsGenuine trade J) frame frames good) later range)

  -- a front of it, and that front with the next entry
  pub front_follows : (h : Half) (n : ℕ) (steps : List Step) → Follows trade J p h (entries_of steps) → Follows trade J p h (entries_of (take n steps))
  front_follows h n steps f =
      let cut = parted n steps
      in along_left (step trade p) (Meets trade J p) h (entries_of (take n steps)) (option_to_list (entry_at steps n) ++ cut.0)
      (subst (λ (l : List Entry). Follows trade J p h l) cut.1 f)

  pub next_follows : (h : Half) (n : ℕ) (steps : List Step) → Follows trade J p h (entries_of steps)
      → Follows trade J p h (entries_of (take n steps) ++ option_to_list (entry_at steps n))
  next_follows h n steps f =
      let cut = parted n steps
      in along_left (step trade p) (Meets trade J p) h (entries_of (take n steps) ++ option_to_list (entry_at steps n)) cut.0
      (subst (λ (l : List Entry). Follows trade J p h l)
      (cut.1 ∙ sym (append_assoc (entries_of (take n steps)) (option_to_list (entry_at steps n)) cut.0)) f)
