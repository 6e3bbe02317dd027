-- The four guarantees follow from journals that are Fit.
use Rattle.std.proofs.Common.{◌≡◌, ℕ, ◌+◌, ◌≤◌, List, [], ◌∷◌, ◌++◌, Bool, true, false, not, ◌&&◌, cond, length, refl, ap, sym, subst, ◌∙◌, arith, nat_lt, nat_le, Option, Some, None}
use Rattle.std.specs.Prelude.{All, Contains, IsSome, is_some, slice_get, unwrap_or}
use Rattle.std.specs.List.{find}
use Rattle.std.specs.Option.{option_and_then}
use Rattle.std.specs.Str.{bytes_eq}
use Rattle.std.proofs.lemmas.Bool.{and_from, false≢true, le-leb}
use Rattle.std.proofs.lemmas.List.{append-nil, append_assoc}
use Rattle.std.proofs.lemmas.List.Elements.{All-contains, All-nil, All-push, All-weaker, Contains-append_left, Contains-append_right}
use Rattle.pec_types.specs.Bytes.{Bytes}
use Rattle.pec_types.specs.Limits.{Clocked, TimeRow, OutcomeKnown, NoticeIsLate, NoticeInTime, WarningInTime, NothingPassed, due_by}
use Rattle.pec_types.specs.LimitsReading.{applies_to_pair, due_of}
use Rattle.pec_types.specs.Message.{Id}
use Rattle.pec_types.specs.declared.limits.TheConstants.{NOTICE_AFTER, LATE_AFTER}
use Rattle.pec_types.specs.declared.limits.Due.{Due}
use Rattle.pec_types.specs.declared.limits.Due.TheVariants as dues
use Rattle.pec_types.specs.declared.messages.Decision.{Decision}
use Rattle.pec_records.specs.declared.entries.Entry.{Entry}
use Rattle.pec_records.specs.declared.entries.Entry.TheVariants as entries
use Rattle.pec_ledger.specs.Along.{times}
use Rattle.pec_ledger.specs.Guarantees.{HasReceipt, NoReceiptMissing, NoticeByTheDay, OneDelivery, OneOutcome, is_envelope_of, is_notice_kind, is_notice_on, is_outcome, is_outcome_of, is_placed, times_decided, times_held, times_known, times_placed}
use Rattle.pec_ledger.specs.Half.{Fate, Half, Known, Mark, Message, Posted, empty}
use Rattle.pec_ledger.specs.Ledger.{Fit, Follows, IsDecidedSo, Journals, Meets, ledger}
use Rattle.pec_ledger.specs.Lookups.{Accepted, HasPair, accepted_at, accepted_of, is_acked, is_notice, known_of, notice_of}
use Rattle.pec_ledger.specs.Marks.{clocked, mark_for, marked, marks_from}
use Rattle.pec_ledger.specs.Own.{IsOwnPair, Own}
use Rattle.pec_ledger.specs.Pairs.{Pair, id_of, pair_of, same_pair}
use Rattle.pec_ledger.specs.Steps.{acked_by, decided_by, half, known_by, step}
use Rattle.pec_ledger.specs.Trade.{Trade}
use Rattle.pec_ledger.proofs.AlongLemmas.{along_kept, along_left, always_kept}
use Rattle.pec_ledger.proofs.BoxLemmas.{held}
use Rattle.pec_ledger.proofs.Growth.{Longer, accepted_stays, half_append, longer_step, what_is}
use Rattle.pec_ledger.proofs.ListLemmas.{both_found, filter_twice, found_there, some_counted}
use Rattle.pec_ledger.proofs.MarkLemmas.{marks_hold}
use Rattle.pec_ledger.proofs.OneProvider.{envelopes_step, is_envelope_for, notices_step, outcomes_step}
use Rattle.pec_ledger.proofs.PairLemmas.{once_more, pair_again, same_pairs}
use Rattle.pec_ledger.proofs.Places.{AllInPlace, InPlace, all_there, in_place_step, none_elsewhere}

nothing_more : {X : Type 0} (test : X → Bool) (xs : List X) → times test xs ≤ 1 → times test (xs ++ []) ≤ 1
nothing_more test xs l = subst (λ ys. times test ys ≤ 1) (sym (append-nil xs)) l

pub all_as_before : {X : Type 0} (P : X → Type 0) (xs : List X) → All P xs → All P (xs ++ [])
all_as_before P xs all = subst (All P) (sym (append-nil xs)) all

module _ (trade : Trade) (J : Journals) where
  -- what each entry that meets its conditions keeps holds of a provider's half
  pub holds_along : (p : ℕ) (es : List Entry) → Follows trade J p empty es → (I : Half → Type 0) → I empty
      → ((h : Half) (e : Entry) → I h → Meets trade J p h e → I (step trade p h e)) → I (half trade p es)
  unfolding half
  holds_along p es follows I start each = along_kept (step trade p) (Meets trade J p) I each empty es start follows

  pub holds_in_all : Fit trade J → (p : ℕ) → (I : Half → Type 0) → I empty
      → ((h : Half) (e : Entry) → I h → Meets trade J p h e → I (step trade p h e)) → I (ledger trade J p)
  unfolding ledger
  holds_in_all fit p I start each = holds_along p (J p) (fit.follows p) I start each

  pub holds_always : (p : ℕ) (es : List Entry) → (I : Half → Type 0) → I empty → ((h : Half) (e : Entry) → I h → I (step trade p h e)) → I (half trade p es)
  unfolding half
  holds_always p es I start each = always_kept (step trade p) I each empty es start

  pub always_in_all : (p : ℕ) → (I : Half → Type 0) → I empty → ((h : Half) (e : Entry) → I h → I (step trade p h e)) → I (ledger trade J p)
  unfolding ledger
  always_in_all p I start each = holds_always p (J p) I start each

  -- ---- rows that stand once

  decided_step : (p : ℕ) (h : Half) (e : Entry) → ((pair : Pair) → times_decided h pair ≤ 1) → Own trade p h e
      → (pair : Pair) → times (λ (fate : Fate). same_pair pair fate.pair) (h.decided ++ decided_by e) ≤ 1
  decided_step p h (entries.Decided moment id recipient decision) once own pair =
      once_more (λ (fate : Fate). fate.pair) h.decided (record { pair = pair_of id recipient; decision = decision; moment = moment }) own.1 once pair
  decided_step p h _ once own pair = nothing_more (λ (fate : Fate). same_pair pair fate.pair) h.decided (once pair)

  known_step : (p : ℕ) (h : Half) (e : Entry) → ((pair : Pair) → times_known h pair ≤ 1) → Own trade p h e
      → (pair : Pair) → times (λ (known : Known). same_pair pair known.pair) (h.known ++ known_by e) ≤ 1
  known_step p h (entries.Learned moment id recipient decision decided message) once own pair =
      once_more (λ (known : Known). known.pair) h.known
      (record { pair = pair_of id recipient; decision = decision; decided = decided; moment = moment }) own.1 once pair
  known_step p h _ once own pair = nothing_more (λ (known : Known). same_pair pair known.pair) h.known (once pair)

  pub decided_once : Fit trade J → (p : ℕ) (pair : Pair) → times_decided (ledger trade J p) pair ≤ 1
  unfolding step
  decided_once fit p = holds_in_all fit p (λ h. (pair : Pair) → times_decided h pair ≤ 1) (λ pair. omega arith)
      (λ h e once meets. decided_step p h e once meets.own)

  pub known_once : Fit trade J → (p : ℕ) (pair : Pair) → times_known (ledger trade J p) pair ≤ 1
  unfolding step
  known_once fit p = holds_in_all fit p (λ h. (pair : Pair) → times_known h pair ≤ 1) (λ pair. omega arith)
      (λ h e once meets. known_step p h e once meets.own)

  -- ---- what is known was decided so, and is of a message of this provider

  -- what holds of each row that an entry that meets its conditions adds holds of all of them
  pub each_known : (p : ℕ) (P : Known → Type 0)
      → ((moment : ℕ) (id : Id) (recipient : Bytes) (decision : Decision) (decided : ℕ) (message : Bytes) (h : Half)
      → Meets trade J p h (entries.Learned moment id recipient decision decided message)
      → P (record { pair = pair_of id recipient; decision = decision; decided = decided; moment = moment }))
      → (h : Half) (e : Entry) → All P h.known → Meets trade J p h e → All P (h.known ++ known_by e)
  each_known p P each h (entries.Learned moment id recipient decision decided message) all meets =
      All-push P h.known (record { pair = pair_of id recipient; decision = decision; decided = decided; moment = moment }) all
      (each moment id recipient decision decided message h meets)
  each_known p P each h _ all meets = all_as_before P h.known all

  pub known_decided : Fit trade J → (p : ℕ) → All (λ (known : Known). IsDecidedSo trade J known.pair known.decision known.decided) (ledger trade J p).known
  unfolding step
  known_decided fit p =
      holds_in_all fit p (λ h. All (λ (known : Known). IsDecidedSo trade J known.pair known.decision known.decided) h.known)
      (All-nil (λ (known : Known). IsDecidedSo trade J known.pair known.decision known.decided))
      (λ h e all meets. each_known p (λ (known : Known). IsDecidedSo trade J known.pair known.decision known.decided)
      (λ moment id recipient decision decided message k m. m.joint.1) h e all meets)

  -- the pair is one of an accepted message of the half
  own_stays : (p : ℕ) (h k : Half) → Longer h k → (pair : Pair) → IsOwnPair trade p h pair → IsOwnPair trade p k pair
  own_stays p h k g pair own = record {
    ours = own.ours;
    message = own.message;
    accepted = accepted_stays h k pair.id.number own.message g own.accepted;
    recipient = own.recipient;
  }

  own_known_step : (p : ℕ) (h : Half) (e : Entry) → All (λ (known : Known). IsOwnPair trade p h known.pair) h.known → Meets trade J p h e
      → All (λ (known : Known). IsOwnPair trade p (step trade p h e) known.pair) (h.known ++ known_by e)
  own_known_step p h e all meets = grown p h e meets (step trade p h e) (longer_step trade p h e) all
    where
      grown : (p : ℕ) (h : Half) (e : Entry) → Meets trade J p h e → (k : Half) → Longer h k → All (λ (known : Known). IsOwnPair trade p h known.pair) h.known
          → All (λ (known : Known). IsOwnPair trade p k known.pair) (h.known ++ known_by e)
      grown p h (entries.Learned moment id recipient decision decided message) meets k g all =
          All-push (λ (known : Known). IsOwnPair trade p k known.pair) h.known
          (record { pair = pair_of id recipient; decision = decision; decided = decided; moment = moment })
          (All-weaker (λ (known : Known). IsOwnPair trade p h known.pair) (λ (known : Known). IsOwnPair trade p k known.pair) (λ row own. own_stays p h k g row.pair own) h.known all)
          (own_stays p h k g (pair_of id recipient) meets.own.0)
      grown p h _ meets k g all = all_as_before (λ (known : Known). IsOwnPair trade p k known.pair) h.known (All-weaker (λ (known : Known). IsOwnPair trade p h known.pair) (λ (known : Known). IsOwnPair trade p k known.pair) (λ row own. own_stays p h k g row.pair own) h.known all)

  pub known_own : Fit trade J → (p : ℕ) → All (λ (known : Known). IsOwnPair trade p (ledger trade J p) known.pair) (ledger trade J p).known
  unfolding step
  known_own fit p =
      holds_in_all fit p (λ h. All (λ (known : Known). IsOwnPair trade p h known.pair) h.known)
      (All-nil (λ (known : Known). IsOwnPair trade p empty known.pair)) (λ h e all meets. own_known_step p h e all meets)

  -- ---- acknowledgements

  abbrev pub IsKnownPair : Pair → Type 0
  IsKnownPair pair = IsSome (known_of (ledger trade J pair.id.provider) pair)

  acked_step : (p : ℕ) (h : Half) (e : Entry) → All IsKnownPair h.acked → Meets trade J p h e → All IsKnownPair (h.acked ++ acked_by e)
  acked_step p h (entries.Acked moment id recipient) all meets = All-push IsKnownPair h.acked (pair_of id recipient) all meets.joint
  acked_step p h _ all meets = all_as_before IsKnownPair h.acked all

  pub acked_known : Fit trade J → (p : ℕ) → All IsKnownPair (ledger trade J p).acked
  unfolding step
  acked_known fit p =
      holds_in_all fit p (λ h. All IsKnownPair h.acked) (All-nil IsKnownPair) (λ h e all meets. acked_step p h e all meets)

  -- ---- items

  pub in_place : Fit trade J → (p : ℕ) → AllInPlace (ledger trade J p) (ledger trade J p).items
  in_place fit p =
      holds_in_all fit p (λ h. AllInPlace h h.items) (All-nil (λ (posted : Posted). InPlace empty posted.account posted.item))
      (λ h e is meets. in_place_step trade p h e meets.own is)

  pub outcomes : (p : ℕ) (pair : Pair) → times (is_outcome_of pair) (ledger trade J p).items ≡ times_known (ledger trade J p) pair
  outcomes p = always_in_all p (λ h. (pair : Pair) → times (is_outcome_of pair) h.items ≡ times_known h pair) (λ pair. refl)
      (λ h e so. outcomes_step trade p h e so)

  pub envelopes : (p : ℕ) (pair : Pair) → times (is_envelope_for trade p pair) (ledger trade J p).items ≡ times_placed (ledger trade J p) pair
  envelopes p = always_in_all p (λ h. (pair : Pair) → times (is_envelope_for trade p pair) h.items ≡ times_placed h pair) (λ pair. refl)
      (λ h e so. envelopes_step trade p h e so)

  -- ---- the guarantees

  pub one_outcome : Fit trade J → OneOutcome trade J
  one_outcome fit = record {
    decided_once = decided_once fit;
    known_once = known_once fit;
    known_decided = known_decided fit;
    receipts = λ p pair message e.
        held (is_outcome_of pair) (ledger trade J p) message.sender
        ∙ all_there (ledger trade J p) is_outcome pair message (in_place fit p) e ∙ outcomes p pair;
    elsewhere = λ p pair message account e other.
        held (is_outcome_of pair) (ledger trade J p) account
        ∙ none_elsewhere (ledger trade J p) is_outcome pair message account (in_place fit p) e other;
  }

  delivered : (p : ℕ) (pair : Pair) → times_held (is_envelope_of pair.id) (ledger trade J p) pair.recipient ≡ times_placed (ledger trade J p) pair
  delivered p pair =
      held (is_envelope_of pair.id) (ledger trade J p) pair.recipient
      ∙ ap length (filter_twice (is_envelope_of pair.id) (λ (posted : Posted). bytes_eq pair.recipient posted.account) (ledger trade J p).items)
      ∙ envelopes p pair

  placed_at_most : (pair : Pair) (fates : List Fate)
      → times (λ (fate : Fate). same_pair pair fate.pair && is_placed fate.decision) fates ≤ times (λ (fate : Fate). same_pair pair fate.pair) fates
  placed_at_most pair [] = omega arith
  placed_at_most pair (fate ∷ fates) = fewer (same_pair pair fate.pair) (is_placed fate.decision) fate _ _ (placed_at_most pair fates)
    where
      fewer : (a b : Bool) (x : Fate) (xs ys : List Fate) → length xs ≤ length ys → length (cond (a && b) (x ∷ xs) xs) ≤ length (cond a (x ∷ ys) ys)
      fewer true true x xs ys l = omega arith
      fewer true false x xs ys l = omega arith
      fewer false b x xs ys l = l

  pub one_delivery : Fit trade J → OneDelivery trade J
  one_delivery fit = record {
    envelopes = delivered;
    once = λ p pair.
        let d = delivered p pair
        in let l = placed_at_most pair (ledger trade J p).decided
        in let o = decided_once fit p pair
        in omega (arith, d, l, o);
  }

  receipt_of_acked : Fit trade J → (p : ℕ) (pair : Pair) → is_acked (ledger trade J p) pair ≡ true → HasReceipt trade J pair
  receipt_of_acked fit p pair e =
      let found = what_is (find (same_pair pair) (ledger trade J p).acked) e
      in let there = found_there (same_pair pair) (ledger trade J p).acked found.0 found.1
      in let same = same_pairs pair found.0 there.1
      in let known : IsKnownPair pair = subst IsKnownPair (sym same) (All-contains IsKnownPair (ledger trade J p).acked found.0 (acked_known fit p) there.0)
      in let h = ledger trade J pair.id.provider
      in let row = what_is (known_of h pair) known
      in let among = found_there (λ (k : Known). same_pair pair k.pair) h.known row.0 row.1
      in let pair_is = same_pairs pair row.0.pair among.1
      in let own : IsOwnPair trade pair.id.provider h pair =
      subst (IsOwnPair trade pair.id.provider h) (sym pair_is)
      (All-contains (λ (k : Known). IsOwnPair trade pair.id.provider h k.pair) h.known row.0 (known_own fit pair.id.provider) among.0)
      in let some = some_counted (λ (k : Known). same_pair pair k.pair) h.known row.0 among.0 among.1
      in let once = known_once fit pair.id.provider pair
      in let receipts = (one_outcome fit).receipts pair.id.provider pair own.message own.accepted
      in record { message = own.message; accepted = own.accepted; receipt = omega (arith, some, once, receipts) }

  pub no_receipt_missing : Fit trade J → NoReceiptMissing trade J
  no_receipt_missing fit = record { receipt = receipt_of_acked fit }

-- ---- notices

due_rows : (known noticed late in_time : Bool) (rest : Option TimeRow) → known ≡ false → noticed ≡ false → in_time ≡ true
    → is_notice (due_by (unwrap_or (cond known (Some OutcomeKnown) (cond (not noticed && late) (Some NoticeIsLate) (cond (not noticed && in_time) (Some NoticeInTime) rest))) NothingPassed)) ≡ true
due_rows true noticed late in_time rest e f g = absurd (false≢true (sym e))
due_rows false true late in_time rest e f g = absurd (false≢true (sym f))
due_rows false false true in_time rest e f g = refl
due_rows false false false true rest e f g = refl
due_rows false false false false rest e f g = absurd (false≢true g)

-- from the time of the notice on a notice is due, where nothing is known and none was given
pub notice_due : (c : Clocked) → c.known ≡ false → c.noticed ≡ false → c.accepted + NOTICE_AFTER ≤ c.at → is_notice (due_of c) ≡ true
unfolding due_of
notice_due c e f g =
    due_rows c.known c.noticed (nat_lt (c.accepted + LATE_AFTER) c.at) (nat_le (c.accepted + NOTICE_AFTER) c.at)
    (find (applies_to_pair c) (WarningInTime ∷ NothingPassed ∷ [])) e f (le-leb (c.accepted + NOTICE_AFTER) c.at g)

marked_notice : (pair : Pair) (now : ℕ) (due : Due) → is_notice due ≡ true
    → (mark : Mark) × (marked pair now due ≡ Some mark) × (is_notice mark.due ≡ true) × (mark.pair ≡ pair)
marked_notice pair now dues.Nothing e = absurd (false≢true e)
marked_notice pair now dues.Warning e = absurd (false≢true e)
marked_notice pair now dues.Notice e = (record { pair = pair; due = dues.Notice; moment = now }, refl, refl, refl)
marked_notice pair now dues.LateNotice e = (record { pair = pair; due = dues.LateNotice; moment = now }, refl, refl, refl)

abbrev notices : Pair → Mark → Bool
notices pair mark = is_notice mark.due && same_pair pair mark.pair

module _ (trade : Trade) (p : ℕ) where
  -- the half before has a notice, or the call gives one
  noticed_or_marked : (h : Half) (now number : ℕ) (recipient : Bytes) (message : Accepted) (found : Option Mark)
      → notice_of h (pair_of (id_of p number) recipient) ≡ found → accepted_at h number ≡ Some message → HasPair trade message recipient
      → message.moment + LATE_AFTER ≤ now → known_of h (pair_of (id_of p number) recipient) ≡ None
      → 1 ≤ times (notices (pair_of (id_of p number) recipient)) (h.marks ++ marks_from trade p h now 0 h.messages)
  noticed_or_marked h now number recipient message (Some mark) e accepted has late unknown =
      let there = found_there (notices (pair_of (id_of p number) recipient)) h.marks mark e
      in some_counted (notices (pair_of (id_of p number) recipient)) (h.marks ++ marks_from trade p h now 0 h.messages) mark
      (Contains-append_left h.marks (marks_from trade p h now 0 h.messages) mark there.0) there.1
  noticed_or_marked h now number recipient message None e accepted has late unknown =
      let pair = pair_of (id_of p number) recipient
      in let row = both_found accepted_of (slice_get h.messages number) message accepted
      in let due = notice_due (clocked trade h now message.moment pair) (ap is_some unknown) (ap is_some e) (omega arith)
      in let mark = marked_notice pair now (due_of (clocked trade h now message.moment pair)) due
      in let there : Contains (marks_from trade p h now 0 h.messages) mark.0 =
      marks_hold trade p h now 0 h.messages number row.0 message recipient mark.0 row.1 row.2 has
      (subst (λ (k : ℕ). mark_for trade h now message.moment (pair_of (id_of p k) recipient) ≡ Some mark.0) (let z : number ≡ 0 + number = omega arith in z) mark.1)
      in some_counted (notices pair) (h.marks ++ marks_from trade p h now 0 h.messages) mark.0
      (Contains-append_right h.marks (marks_from trade p h now 0 h.messages) mark.0 there)
      (and_from (is_notice mark.0.due) (same_pair pair mark.0.pair) mark.2 (subst (λ (q : Pair). same_pair pair q ≡ true) (sym mark.3) (pair_again pair)))

  abbrev HasNotice : ℕ → Half → Type 0
  HasNotice now k = (pair : Pair) (message : Accepted) → pair.id.provider ≡ p → accepted_at k pair.id.number ≡ Some message
      → HasPair trade message pair.recipient → message.moment + LATE_AFTER ≤ now → known_of k pair ≡ None
      → 1 ≤ times_held (is_notice_on pair) k message.sender

  after_tick : (h : Half) (now : ℕ) → AllInPlace (step trade p h (entries.Ticked now)) (step trade p h (entries.Ticked now)).items
      → ((pair : Pair) → times (is_notice_on pair) (step trade p h (entries.Ticked now)).items ≡ times (notices pair) (step trade p h (entries.Ticked now)).marks)
      → HasNotice now (step trade p h (entries.Ticked now))
  unfolding step
  after_tick h now places counts pair message ours accepted has late unknown =
      let same : pair ≡ pair_of (id_of p pair.id.number) pair.recipient = ap (λ (q : ℕ). pair_of (id_of q pair.id.number) pair.recipient) ours
      in let before = subst (λ (ms : List Message). option_and_then accepted_of (slice_get ms pair.id.number) ≡ Some message) (append-nil h.messages) accepted
      in let still = subst (λ (ks : List Known). find (λ (known : Known). same_pair pair known.pair) ks ≡ None) (append-nil h.known) unknown
      in let some = noticed_or_marked h now pair.id.number pair.recipient message (notice_of h (pair_of (id_of p pair.id.number) pair.recipient)) refl before has late
      (subst (λ (q : Pair). known_of h q ≡ None) same still)
      in let mine : 1 ≤ times (notices pair) (h.marks ++ marks_from trade p h now 0 h.messages) =
      subst (λ (q : Pair). 1 ≤ times (notices q) (h.marks ++ marks_from trade p h now 0 h.messages)) (sym same) some
      in let count = counts pair
      in let all = all_there (step trade p h (entries.Ticked now)) is_notice_kind pair message places accepted
      in let both = held (is_notice_on pair) (step trade p h (entries.Ticked now)) message.sender
      in omega (arith, mine, count, all, both)

  pub notice_by_the_day : (J : Journals) → Fit trade J → (front : List Entry) (now : ℕ) (back : List Entry) → J p ≡ front ++ entries.Ticked now ∷ back
      → HasNotice now (half trade p (front ++ entries.Ticked now ∷ []))
  notice_by_the_day J fit front now back e =
      let front_on = front ++ entries.Ticked now ∷ []
      in let whole : J p ≡ front_on ++ back = e ∙ sym (append_assoc front (entries.Ticked now ∷ []) back)
      in let follows : Follows trade J p empty front_on =
      along_left (step trade p) (Meets trade J p) empty front_on back (subst (λ (es : List Entry). Follows trade J p empty es) whole (fit.follows p))
      in let last : half trade p front_on ≡ step trade p (half trade p front) (entries.Ticked now) = half_append trade p front (entries.Ticked now ∷ [])
      in let places : AllInPlace (half trade p front_on) (half trade p front_on).items =
      holds_along trade J p front_on follows (λ h. AllInPlace h h.items) (All-nil (λ (posted : Posted). InPlace empty posted.account posted.item))
      (λ h e is meets. in_place_step trade p h e meets.own is)
      in let counts : (pair : Pair) → times (is_notice_on pair) (half trade p front_on).items ≡ times (notices pair) (half trade p front_on).marks =
      holds_always trade J p front_on (λ h. (pair : Pair) → times (is_notice_on pair) h.items ≡ times (notices pair) h.marks) (λ pair. refl)
      (λ h e so. notices_step trade p h e so)
      in subst (HasNotice now) (sym last)
      (after_tick (half trade p front) now
      (subst (λ (k : Half). AllInPlace k k.items) last places)
      (subst (λ (k : Half). (pair : Pair) → times (is_notice_on pair) k.items ≡ times (notices pair) k.marks) last counts))

pub notices_by_the_day : (trade : Trade) (J : Journals) → Fit trade J → NoticeByTheDay trade J
notices_by_the_day trade J fit = record {
  notice = λ p front now back e. notice_by_the_day trade p J fit front now back e;
}
