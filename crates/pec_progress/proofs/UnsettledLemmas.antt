-- Where few pairs are unsettled little is owed, and rounds make them no more.
use Rattle.std.proofs.Common.{◌≡◌, ℕ, zero, suc, ◌+◌, ◌<◌, ◌≤◌, List, [], ◌∷◌, ◌++◌, Bool, true, false, not, ◌&&◌, ◌||◌, inl, inr, length, map, refl, ap, sym, subst, ◌∙◌, arith, nat_lt, Option, Some, None}
use Rattle.std.specs.Prelude.{Contains, IsSome, filter, is_none, is_some, slice_get, ◌==◌, if◌then◌else◌}
use Rattle.std.specs.List.{list_any}
use Rattle.std.specs.Option.{option_to_list}
use Rattle.std.proofs.lemmas.Bool.{and_parts, cases_Bool, eqb-true, false≢true, ltb-true}
use Rattle.std.proofs.lemmas.List.{append-nil, append_assoc, length-append, length-map}
use Rattle.std.proofs.lemmas.List.Elements.{Contains-append_left, Contains-append_right, filter-append}
use Rattle.std.proofs.lemmas.Option.{none-some, same_Some}
use Rattle.pec_types.specs.Bytes.{Bytes, Path}
use Rattle.pec_types.specs.Message.{Id}
use Rattle.pec_types.specs.declared.letters.Letter.TheVariants as letters
use Rattle.pec_records.specs.declared.entries.Entry.{Entry}
use Rattle.pec_records.specs.declared.entries.Entry.TheVariants as entries
use Rattle.pec_ledger.specs.Due.{awaits, envelope_to, envelopes_from, hears_of, is_unheard, outcome_on, outcomes_to, owed_letters}
use Rattle.pec_ledger.specs.Half.{Fate, Half, Message}
use Rattle.pec_ledger.specs.Ledger.{Fit, Journals, accepted_in, ledger}
use Rattle.pec_ledger.specs.Lookups.{Accepted, accepted_at, accepted_of, addresses_of, at_home, charged_of, is_acked, known_of}
use Rattle.pec_ledger.specs.Network.{Site, Sound, journal_at, journals_of, site_at}
use Rattle.pec_ledger.specs.Pairs.{Pair, id_of, pair_of, same_pair}
use Rattle.pec_ledger.specs.Steps.{half, messages_by, step}
use Rattle.pec_ledger.specs.Trade.{Framed, Trade}
use Rattle.pec_plays.specs.Decisions.{Looks, decide, undecided}
use Rattle.pec_plays.specs.Reception.{arrive, by_frame}
use Rattle.pec_plays.specs.ReceptionRows.{IsReceived, NewEnvelope, KnownEnvelope, NewCharge, KnownCharge, NewOutcome, KnownOutcome, NewAck, KnownAck, SomeRoom, NoRoom}
use Rattle.pec_plays.specs.Steps.{Step, journal_after}
use Rattle.pec_plays.specs.Turns.{Cut, Whole, decisions, entries_of, frames_in, looks_by, plan}
use Rattle.pec_progress.specs.Progress.{AllGoWell, AllOweLittle, FewAreUnsettled, GoesWell, NoneIsEverTooLong, RoundAt, after_round, most_open, open_over, pairs_at, pairs_from, unsettled}
use Rattle.pec_progress.proofs.CountLemmas.{filter_fewer, no_more, times_of_filter}
use Rattle.pec_progress.proofs.LawLemmas.{FitLaws, PlayLaws, RoundLaws, RowLaws, half_one}
use Rattle.pec_progress.proofs.ListLemmas.{both, contains_cases, contains_here, contains_none, contains_there, from_filter, into_filter, none_or_some, pair_again, some_found, some_length, what_is}
use Rattle.pec_progress.proofs.RoundLemmas.{goes_on, journal_is, laws_after, sound_after}

into_map : {X Y : Type 0} (f : X → Y) (xs : List X) (x : X) → Contains xs x → Contains (map f xs) (f x)
into_map f [] x c = absurd (contains_none x c)
into_map f (y ∷ xs) x c =
    elim (contains_cases y xs x c) [
      | inl same ↦ subst (λ z. Contains (f y ∷ map f xs) z) (ap f same) (contains_here (f y) (map f xs))
      | inr there ↦ contains_there (f y) (map f xs) (f x) (into_map f xs x there)
    ]

some_item : {X : Type 0} (xs : List X) → 0 < length xs → (x : X) × Contains xs x
some_item [] l = absurd (omega arith)
some_item (x ∷ xs) l = (x, contains_here x xs)

-- ---- a turn adds no message

module _ (trade : Trade) (plays : PlayLaws trade) (p now : ℕ) (looks : Looks) where
  abbrev AddsNone : Entry → Type 0
  AddsNone e = (h : Half) → messages_by trade p h e ≡ []

  adds_so : (s : Step) (entry : Entry) → s.entry ≡ Some entry → AddsNone entry → (e : Entry) → s.entry ≡ Some e → AddsNone e
  adds_so s entry appends none e is = subst AddsNone (same_Some entry e (sym appends ∙ is)) none

  adds_nothing : (s : Step) → s.entry ≡ None → (e : Entry) → s.entry ≡ Some e → AddsNone e
  adds_nothing s none e is = absurd (none-some e (sym none ∙ is))

  row_adds : (es : List Entry) (f : Framed) (s : Step) → IsReceived trade p es f now s → (e : Entry) → s.entry ≡ Some e → AddsNone e
  row_adds es f s (NewEnvelope id is t e) = adds_so s (entries.Took now id f.message) (ap (λ (x : Step). x.entry) e) (λ h. refl)
  row_adds es f s (KnownEnvelope id is t e) = adds_nothing s (ap (λ (x : Step). x.entry) e)
  row_adds es f s (NewCharge r is t e) = adds_so s (entries.Charged now r.id r.by) (ap (λ (x : Step). x.entry) e) (λ h. refl)
  row_adds es f s (KnownCharge r is t e) = adds_nothing s (ap (λ (x : Step). x.entry) e)
  row_adds es f s (NewOutcome r recipient decision is t e) =
      adds_so s (entries.Learned now r.id recipient decision r.moment f.message) (ap (λ (x : Step). x.entry) e) (λ h. refl)
  row_adds es f s (KnownOutcome r recipient decision is t e) = adds_nothing s (ap (λ (x : Step). x.entry) e)
  row_adds es f s (NewAck r recipient is t e) = adds_so s (entries.Acked now r.id recipient) (ap (λ (x : Step). x.entry) e) (λ h. refl)
  row_adds es f s (KnownAck r recipient is t e) = adds_nothing s (ap (λ (x : Step). x.entry) e)
  row_adds es f s (SomeRoom n a accounts t e) = adds_so s (entries.Anomaly now (a ∷ accounts) f.message) (ap (λ (x : Step). x.entry) e) (λ h. refl)
  row_adds es f s (NoRoom n t e) = adds_nothing s (ap (λ (x : Step). x.entry) e)

  frame_adds : (es : List Entry) (frame : Bytes) (found : Option Framed) → trade.unframed frame ≡ found → (e : Entry) → (arrive trade p now es frame).entry ≡ Some e → AddsNone e
  unfolding arrive
  frame_adds es frame None u = adds_nothing (arrive trade p now es frame) (ap (λ (x : Step). x.entry) (ap (by_frame trade p now es) u))
  frame_adds es frame (Some f) u =
      row_adds es f (arrive trade p now es frame) ((plays.row_says p now es frame f u (arrive trade p now es frame)).0 refl)

  decide_adds : (es : List Entry) (pair : Pair) (e : Entry) → (decide trade p now looks es pair).entry ≡ Some e → AddsNone e
  unfolding decide
  decide_adds es pair = adds_so (decide trade p now looks es pair) _ refl (λ h. refl)

  step_messages : (h : Half) (e : Entry) → AddsNone e → (step trade p h e).messages ≡ h.messages
  unfolding step
  step_messages h e none = ap (λ (l : List Message). h.messages ++ l) (none h) ∙ append-nil h.messages

  after_messages : (es : List Entry) (o : Option Entry) → ((e : Entry) → o ≡ Some e → AddsNone e) → (half trade p (es ++ option_to_list o)).messages ≡ (half trade p es).messages
  after_messages es None none = ap (λ (l : List Entry). (half trade p l).messages) (append-nil es)
  after_messages es (Some e) none = ap (λ (h : Half). h.messages) (half_one trade p es e) ∙ step_messages (half trade p es) e (none e refl)

  behind_first : (es : List Entry) (s : Step) (rest : List Step) → (half trade p (es ++ entries_of (s ∷ rest))).messages ≡ (half trade p (journal_after es s ++ entries_of rest)).messages
  behind_first es s rest = ap (λ (l : List Entry). (half trade p l).messages) (sym (append_assoc es (option_to_list s.entry) (entries_of rest)))

  decisions_messages : (pairs : List Pair) (es : List Entry) → (half trade p (es ++ entries_of (decisions trade p now looks es pairs))).messages ≡ (half trade p es).messages
  decisions_messages [] es = ap (λ (l : List Entry). (half trade p l).messages) (append-nil es)
  decisions_messages (pair ∷ pairs) es =
      let s = decide trade p now looks es pair
      in behind_first es s (decisions trade p now looks (journal_after es s) pairs) ∙ decisions_messages pairs (journal_after es s) ∙ after_messages es s.entry (decide_adds es pair)

  pub plan_messages : (frames : List Bytes) (es : List Entry) → (half trade p (es ++ entries_of (plan trade p now looks es frames))).messages ≡ (half trade p es).messages
  plan_messages [] es = decisions_messages (undecided trade p es) es
  plan_messages (frame ∷ frames) es =
      let s = arrive trade p now es frame
      in behind_first es s (plan trade p now looks (journal_after es s) frames) ∙ plan_messages frames (journal_after es s)
      ∙ after_messages es s.entry (frame_adds es frame (trade.unframed frame) refl)

-- ---- envelopes

unheard_each : (test : Bytes → Bool) (addresses : Path) (a : Bytes) → Contains addresses a → list_any test addresses ≡ false → test a ≡ false
unheard_each test [] a c e = absurd (contains_none a c)
unheard_each test (b ∷ addresses) a c e = by_test (test b) refl e (unheard_each test addresses a)
  where
    by_test : (t : Bool) → test b ≡ t → (t || list_any test addresses) ≡ false
        → (Contains addresses a → list_any test addresses ≡ false → test a ≡ false) → test a ≡ false
    by_test true s f more = absurd (false≢true (sym f))
    by_test false s f more =
        elim (contains_cases b addresses a c) [
          | inl same ↦ ap test (sym same) ∙ s
          | inr there ↦ more there f
        ]

module _ (trade : Trade) (p : ℕ) (h : Half) (to : ℕ) (test : Pair → Bool)
    (open_so : (pair : Pair) → pair.id.provider ≡ p → known_of h pair ≡ None → test pair ≡ true) where
  abbrev there : Accepted → Path
  there m = at_home trade to (addresses_of m.facts)

  one_envelope : (id : Id) → id.provider ≡ p → (found : Option Accepted) → length (envelope_to trade h to id found) ≤ length (filter test (pairs_at trade to id found))
  one_envelope id ours None = omega arith
  one_envelope id ours (Some m) = by_test (awaits trade h to id m) refl
    where
      some : awaits trade h to id m ≡ true → 1 ≤ length (filter test (map (pair_of id) (there m)))
      some e =
          let parts = and_parts (nat_lt 0 (length (there m))) (is_none (charged_of h id to) && not (hears_of h id (there m))) e
          in let more = and_parts (is_none (charged_of h id to)) (not (hears_of h id (there m))) parts.1
          in let a = some_item (there m) (ltb-true 0 (length (there m)) parts.0)
          in let unheard : hears_of h id (there m) ≡ false =
          elim (cases_Bool (hears_of h id (there m))) [
            | inl heard ↦ absurd (false≢true (sym (ap not heard) ∙ more.1))
            | inr not_heard ↦ not_heard
          ]
          in let silent = unheard_each (λ (address : Bytes). is_some (known_of h (pair_of id address))) (there m) a.0 a.1 unheard
          in let none : known_of h (pair_of id a.0) ≡ None =
          elim (none_or_some (known_of h (pair_of id a.0))) [
            | inl e ↦ e
            | inr row ↦ absurd (false≢true (sym silent ∙ ap is_some row.1))
          ]
          in some_length (filter test (map (pair_of id) (there m))) (pair_of id a.0)
          (into_filter test (map (pair_of id) (there m)) (pair_of id a.0) (into_map (pair_of id) (there m) a.0 a.1) (open_so (pair_of id a.0) ours none))

      by_test : (b : Bool) → awaits trade h to id m ≡ b → length (if b then letters.Envelope id to ∷ [] else []) ≤ length (filter test (map (pair_of id) (there m)))
      by_test true e = some e
      by_test false e = omega arith

  pub envelopes_few : (ms : List Message) (number : ℕ) → length (envelopes_from trade p h to number ms) ≤ length (filter test (pairs_from trade p to number ms))
  envelopes_few [] number = omega arith
  envelopes_few (m ∷ ms) number =
      let one = one_envelope (id_of p number) refl (accepted_of m)
      in let more = envelopes_few ms (number + 1)
      in let here = pairs_at trade to (id_of p number) (accepted_of m)
      in let later = pairs_from trade p to (number + 1) ms
      in let sent = length-append (envelope_to trade h to (id_of p number) (accepted_of m)) (envelopes_from trade p h to (number + 1) ms)
      in let kept = ap (λ (l : List Pair). length l) (filter-append test here later) ∙ length-append (filter test here) (filter test later)
      in omega (arith, one, more, sent, kept)

-- ---- outcomes

pub pairs_in : (trade : Trade) (provider home : ℕ) (ms : List Message) (number k : ℕ) (message : Message) (m : Accepted) (r : Bytes) → slice_get ms k ≡ Some message
    → accepted_of message ≡ Some m → Contains (at_home trade home (addresses_of m.facts)) r → Contains (pairs_from trade provider home number ms) (pair_of (id_of provider (number + k)) r)
pairs_in trade provider home [] number k message m r e a c = absurd (none-some message e)
pairs_in trade provider home (first ∷ ms) number zero message m r e a c =
    let id = id_of provider number
    in let so : accepted_of first ≡ Some m = ap accepted_of (same_Some first message e) ∙ a
    in let there : Contains (pairs_at trade home id (accepted_of first)) (pair_of id r) =
    subst (λ (o : Option Accepted). Contains (pairs_at trade home id o) (pair_of id r)) (sym so) (into_map (pair_of id) (at_home trade home (addresses_of m.facts)) r c)
    in subst (λ (n : ℕ). Contains (pairs_from trade provider home number (first ∷ ms)) (pair_of (id_of provider n) r)) (let z : number ≡ number + 0 = omega arith in z)
    (Contains-append_left (pairs_at trade home id (accepted_of first)) (pairs_from trade provider home (number + 1) ms) (pair_of id r) there)
pairs_in trade provider home (first ∷ ms) number (suc k) message m r e a c =
    subst (λ (n : ℕ). Contains (pairs_from trade provider home number (first ∷ ms)) (pair_of (id_of provider n) r)) (let z : (number + 1) + k ≡ number + suc k = omega arith in z)
    (Contains-append_right (pairs_at trade home (id_of provider number) (accepted_of first)) (pairs_from trade provider home (number + 1) ms) (pair_of (id_of provider ((number + 1) + k)) r)
    (pairs_in trade provider home ms (number + 1) k message m r e a c))

named_so : (pair : Pair) (provider number : ℕ) → pair.id.provider ≡ provider → number ≡ pair.id.number → pair_of (id_of provider number) pair.recipient ≡ pair
named_so pair provider number e f =
    ap (λ (x : ℕ). pair_of (id_of x number) pair.recipient) (sym e) ∙ ap (λ (n : ℕ). pair_of (id_of pair.id.provider n) pair.recipient) f

module _ (trade : Trade) (J : Journals) (laws : FitLaws trade J) where
  abbrev open_at : ℕ → Pair → Bool
  open_at home pair = not (is_acked (ledger trade J home) pair)

  unknown_is_open : (p home : ℕ) (pair : Pair) → pair.id.provider ≡ p → known_of (ledger trade J p) pair ≡ None → open_at home pair ≡ true
  unknown_is_open p home pair ours none =
      elim (cases_Bool (is_acked (ledger trade J home) pair)) [
        | inl acked ↦
            let row = what_is _ (subst (λ (x : ℕ). IsSome (known_of (ledger trade J x) pair)) ours (laws.acks home pair acked))
            in absurd (none-some row.0 (sym none ∙ row.1))
        | inr not_acked ↦ ap not not_acked
      ]

  -- the message of a decided pair, of which its recipient is one
  decided_of_message : (q : ℕ) (fate : Fate) → Contains (ledger trade J q).decided fate
      → (m : Accepted) × (accepted_in trade J fate.pair.id ≡ Some m) × Contains (at_home trade q (addresses_of m.facts)) fate.pair.recipient
  decided_of_message q fate c =
      let found = some_found (λ (f : Fate). same_pair fate.pair f.pair) (ledger trade J q).decided fate c (pair_again fate.pair)
      in let taken = laws.decisions q fate.pair found.0 found.1
      in let message = laws.messages q fate.pair.id taken.row taken.taken
      in (message.0, message.1, subst (λ (xs : Path). Contains xs fate.pair.recipient) (laws.recipients q fate.pair.id taken.row message.0 taken.taken message.1) taken.recipient)

  abbrev open_pairs : ℕ → ℕ → List Pair
  open_pairs from home = filter (open_at home) (pairs_from trade from home 0 (ledger trade J from).messages)

  outcome_open : (q to : ℕ) (fate : Fate) → Contains (filter (is_unheard (ledger trade J q) to) (ledger trade J q).decided) fate → Contains (open_pairs to q) fate.pair
  outcome_open q to fate c =
      let kept = from_filter (is_unheard (ledger trade J q) to) (ledger trade J q).decided fate c
      in let parts = and_parts (fate.pair.id.provider == to) (open_at q fate.pair) kept.1
      in let ours = eqb-true fate.pair.id.provider to parts.0
      in let message = decided_of_message q fate kept.0
      in let there = subst (λ (x : ℕ). accepted_at (ledger trade J x) fate.pair.id.number ≡ Some message.0) ours message.1
      in let row = both accepted_of (slice_get (ledger trade J to).messages fate.pair.id.number) message.0 there
      in into_filter (open_at q) (pairs_from trade to q 0 (ledger trade J to).messages) fate.pair
      (subst (λ (x : Pair). Contains (pairs_from trade to q 0 (ledger trade J to).messages) x)
      (named_so fate.pair to (0 + fate.pair.id.number) ours (let z : 0 + fate.pair.id.number ≡ fate.pair.id.number = omega arith in z))
      (pairs_in trade to q (ledger trade J to).messages 0 fate.pair.id.number row.0 message.0 fate.pair.recipient row.1 row.2 message.2)) parts.1

  outcomes_few : (q to : ℕ) → length (outcomes_to (ledger trade J q) to) ≤ length (open_pairs to q)
  outcomes_few q to =
      let unheard = filter (is_unheard (ledger trade J q) to) (ledger trade J q).decided
      in let all = length-map unheard outcome_on
      in let few = no_more (λ (fate : Fate). fate.pair) unheard (open_pairs to q) (outcome_open q to)
      (λ pair.
      let part = times_of_filter (λ (fate : Fate). same_pair pair fate.pair) (is_unheard (ledger trade J q) to) (ledger trade J q).decided
      in let once = laws.one_outcome.decided_once q pair
      in omega (arith, part, once))
      in omega (arith, all, few)

  pub open_few : (from to : ℕ) → length (owed_letters trade from (ledger trade J from) to []) ≤ length (open_pairs to from) + length (open_pairs from to)
  open_few from to =
      let h = ledger trade J from
      in let outcomes = outcomes_few from to
      in let envelopes = envelopes_few trade from h to (open_at to) (λ pair ours none. unknown_is_open from to pair ours none) h.messages 0
      in let all = length-append (outcomes_to h to) (envelopes_from trade from h to 0 h.messages)
      in omega (arith, outcomes, envelopes, all)

-- ---- rounds

module _ (trade : Trade) (rows : RowLaws trade) (plays : PlayLaws trade) (rounds : RoundLaws trade)
    (fits : (J : Journals) → Fit trade J → FitLaws trade J) where
  module _ (now : ℕ) (cuts : ℕ → Cut) (sites : List Site) (sound : Sound trade sites) (well : GoesWell trade now cuts sites) where
    abbrev after : List Site
    after = after_round trade now cuts sites

    pub same_messages : (p : ℕ) → p < length sites → (half trade p (journal_at after p)).messages ≡ (half trade p (journal_at sites p)).messages
    same_messages p l =
        ap (λ (es : List Entry). (half trade p es).messages) (journal_is trade rows plays rounds fits now cuts sites sound well p l)
        ∙ plan_messages trade plays p now (looks_by trade p (site_at sites p).screens Whole) (frames_in (site_at sites p).waiting) (journal_at sites p)

    still_settled : (home : ℕ) → home < length sites → (pair : Pair) → not (is_acked (half trade home (journal_at after home)) pair) ≡ true
        → not (is_acked (half trade home (journal_at sites home)) pair) ≡ true
    still_settled home l pair e =
        elim (cases_Bool (is_acked (half trade home (journal_at sites home)) pair)) [
          | inl acked ↦ absurd (false≢true (sym (ap not (rows.acked home (journal_at sites home) (journal_at after home) (goes_on trade rows plays rounds fits now cuts sites sound well home l) pair acked)) ∙ e))
          | inr not_acked ↦ ap not not_acked
        ]

    pub fewer_unsettled : (from home : ℕ) → from < length sites → home < length sites → length (unsettled trade after from home) ≤ length (unsettled trade sites from home)
    unfolding ledger
    fewer_unsettled from home lf lh =
        let p = λ (pair : Pair). not (is_acked (half trade home (journal_at sites home)) pair)
        in let q = λ (pair : Pair). not (is_acked (half trade home (journal_at after home)) pair)
        in let less = filter_fewer p q (still_settled home lh) (pairs_from trade from home 0 (half trade from (journal_at after from)).messages)
        in let same = ap (λ (ms : List Message). length (filter p (pairs_from trade from home 0 ms))) (same_messages from lf)
        in omega (arith, less, same)

    -- at most as many letters are open as pairs are unsettled behind the round
    pub open_bound : (from to : ℕ) → from < length sites → length (open_over trade now sites from to) ≤ length (unsettled trade after to from) + length (unsettled trade after from to)
    unfolding ledger
    open_bound from to lf =
        let all = open_few trade (journals_of after) (laws_after trade rows plays rounds fits now cuts sites sound well) from to
        in let same = ap (λ (es : List Entry). length (owed_letters trade from (half trade from es) to [])) (journal_is trade rows plays rounds fits now cuts sites sound well from lf)
        in omega (arith, all, same)

    few_open : FewAreUnsettled trade sites → (from to : ℕ) → from < length sites → to < length sites → length (open_over trade now sites from to) ≤ most_open
    few_open few from to lf lt =
        let all = open_bound from to lf
        in let one = fewer_unsettled to from lt lf
        in let other = fewer_unsettled from to lf lt
        in let most = few to from lt lf
        in omega (arith, all, one, other, most)

    few_stay : FewAreUnsettled trade sites → FewAreUnsettled trade after
    few_stay few one other l k =
        let l1 = subst (λ (n : ℕ). one < n) (rounds.count now cuts sites) l
        in let l2 = subst (λ (n : ℕ). other < n) (rounds.count now cuts sites) k
        in let a = fewer_unsettled one other l1 l2
        in let b = fewer_unsettled other one l2 l1
        in let most = few one other l1 l2
        in omega (arith, a, b, most)

  pub few_owe_little : (rs : List RoundAt) (sites : List Site) → Sound trade sites → FewAreUnsettled trade sites → AllGoWell trade rs sites → NoneIsEverTooLong trade rs sites
      → AllOweLittle trade rs sites
  few_owe_little [] sites sound few well framed = tt
  few_owe_little (r ∷ rs) sites sound few well framed = (
    record { few = few_open r.now r.cuts sites sound well.0 few; frames = framed.0 },
    few_owe_little rs (after_round trade r.now r.cuts sites) (sound_after trade rows plays rounds fits r.now r.cuts sites sound well.0)
        (few_stay r.now r.cuts sites sound well.0 few) well.1 framed.1,
  )
