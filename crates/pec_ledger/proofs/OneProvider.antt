-- What is true of one provider's half along a journal that follows: counts of rows and of items, and where receipts
-- stand.
use Rattle.std.proofs.Common.{◌≡◌, ℕ, ◌+◌, List, [], ◌∷◌, ◌++◌, Bool, true, false, ◌&&◌, cond, map, length, refl, ap, sym, subst, ◌∙◌, arith, Some}
use Rattle.std.specs.Str.{bytes_eq}
use Rattle.pec_types.specs.Bytes.{Bytes, Path}
use Rattle.pec_types.specs.Message.{Id}
use Rattle.pec_types.specs.declared.limits.Due.{Due}
use Rattle.pec_types.specs.declared.limits.Due.TheVariants as dues
use Rattle.pec_types.specs.declared.messages.Decision.{Decision}
use Rattle.pec_types.specs.declared.messages.Decision.TheVariants.{Placed, Refused}
use Rattle.pec_types.specs.declared.receipts.Kind.{Kind}
use Rattle.pec_records.specs.declared.entries.Entry.{Entry}
use Rattle.pec_records.specs.declared.entries.Entry.TheVariants as entries
use Rattle.pec_ledger.specs.Along.{times}
use Rattle.pec_ledger.specs.Guarantees.{is_envelope_of, is_notice_kind, is_notice_on, is_outcome, is_outcome_of, is_placed, is_receipt_of, times_known, times_placed}
use Rattle.pec_ledger.specs.Half.{Fate, Half, Known, Mark, Posted, EnvelopeItem, ReceiptItem}
use Rattle.pec_ledger.specs.Lookups.{is_notice, receipt_kind, submitter}
use Rattle.pec_ledger.specs.Marks.{marks_from}
use Rattle.pec_ledger.specs.Pairs.{Pair, pair_of, same_id, same_pair}
use Rattle.pec_ledger.specs.Steps.{anomaly_by, decided_by, items_by, kind_of_due, known_by, marks_by, notice_by, placed_by, step}
use Rattle.pec_ledger.specs.Trade.{Trade}
use Rattle.pec_ledger.proofs.ListLemmas.{never_counted, times_append, times_mapped}

-- ---- items by their entries

sum_of : (a b c d e f : ℕ) → e ≡ a + c → f ≡ b + d → a ≡ b → c ≡ d → e ≡ f
sum_of a b c d e f g h i j = omega arith

outcome_is : (decision : Decision) → is_outcome (receipt_kind decision) ≡ true
outcome_is Placed = refl
outcome_is (Refused refusal) = refl

no_notice : (decision : Decision) → is_notice_kind (receipt_kind decision) ≡ false
no_notice Placed = refl
no_notice (Refused refusal) = refl

due_is_no_outcome : (due : Due) → is_outcome (kind_of_due due) ≡ false
due_is_no_outcome dues.Nothing = refl
due_is_no_outcome dues.Warning = refl
due_is_no_outcome dues.Notice = refl
due_is_no_outcome dues.LateNotice = refl

due_is_notice : (due : Due) → is_notice_kind (kind_of_due due) ≡ is_notice due
due_is_notice dues.Nothing = refl
due_is_notice dues.Warning = refl
due_is_notice dues.Notice = refl
due_is_notice dues.LateNotice = refl

counted_alike : {X Y : Type 0} (x : X) (y : Y) (b c : Bool) → b ≡ c → length (cond b (x ∷ []) []) ≡ length (cond c (y ∷ []) [])
counted_alike x y true c e = subst (λ d. 1 ≡ length (cond d (y ∷ []) [])) e refl
counted_alike x y false c e = subst (λ d. 0 ≡ length (cond d (y ∷ []) [])) e refl

-- of the notices that a clock call places none passes
notices_pass : (h : Half) (test : Posted → Bool) → ((mark : Mark) → test (notice_by h mark) ≡ false) → (marks : List Mark) → times test (map (notice_by h) marks) ≡ 0
notices_pass h test none marks =
    times_mapped test (λ (mark : Mark). false) (notice_by h) none marks ∙ never_counted marks

anomalies_pass : (h : Half) (moment : ℕ) (test : Posted → Bool) → ((account : Bytes) → test (anomaly_by h moment account) ≡ false)
    → (accounts : Path) → times test (map (anomaly_by h moment) accounts) ≡ 0
anomalies_pass h moment test none accounts =
    times_mapped test (λ (account : Bytes). false) (anomaly_by h moment) none accounts ∙ never_counted accounts

placed_no_receipt : (h : Half) (test : Kind → Bool) (pair : Pair) (id : Id) (recipient : Bytes) (decision : Decision)
    → times (λ (posted : Posted). is_receipt_of test pair posted.item) (placed_by h id recipient decision) ≡ 0
placed_no_receipt h test pair id recipient Placed = refl
placed_no_receipt h test pair id recipient (Refused refusal) = refl

and_false : (b c : Bool) → b ≡ false → (b && c) ≡ false
and_false b c e = ap (λ d. d && c) e

and_true : (b c : Bool) → b ≡ true → (b && c) ≡ c
and_true b c e = ap (λ d. d && c) e

module _ (trade : Trade) (p : ℕ) where
  -- each outcome receipt of an entry is a known row of it
  outcomes_by : (h : Half) (pair : Pair) (e : Entry)
      → times (is_outcome_of pair) (items_by trade p h e) ≡ times (λ (known : Known). same_pair pair known.pair) (known_by e)
  outcomes_by h pair (entries.Start number digest) = refl
  outcomes_by h pair (entries.Accepted moment sender message) = refl
  outcomes_by h pair (entries.NotAccepted moment sender cause path message) = refl
  outcomes_by h pair (entries.Took moment id message) = refl
  outcomes_by h pair (entries.Decided moment id recipient decision) = placed_no_receipt h is_outcome pair id recipient decision
  outcomes_by h pair (entries.Charged moment id by) = refl
  outcomes_by h pair (entries.Learned moment id recipient decision decided message) =
      let item : Posted = record { account = submitter h id.number; item = ReceiptItem (receipt_kind decision) id (Some recipient) moment; entry = h.entries }
      in let row : Known = record { pair = pair_of id recipient; decision = decision; decided = decided; moment = moment }
      in counted_alike item row (is_outcome (receipt_kind decision) && same_pair pair (pair_of id recipient)) (same_pair pair (pair_of id recipient))
      (and_true (is_outcome (receipt_kind decision)) (same_pair pair (pair_of id recipient)) (outcome_is decision))
  outcomes_by h pair (entries.Acked moment id recipient) = refl
  outcomes_by h pair (entries.Ticked moment) =
      notices_pass h (is_outcome_of pair)
      (λ mark. and_false (is_outcome (kind_of_due mark.due)) (same_pair pair (pair_of mark.pair.id mark.pair.recipient)) (due_is_no_outcome mark.due))
      (marks_from trade p h moment 0 h.messages)
  outcomes_by h pair (entries.StartTwo number digest) = refl
  outcomes_by h pair (entries.Upgraded moment) = refl
  outcomes_by h pair (entries.Archived moment account place) = refl
  outcomes_by h pair (entries.Anomaly moment accounts message) = anomalies_pass h moment (is_outcome_of pair) (λ account. refl) accounts

  pub outcomes_step : (h : Half) (e : Entry) → ((pair : Pair) → times (is_outcome_of pair) h.items ≡ times_known h pair)
      → (pair : Pair) → times (is_outcome_of pair) (step trade p h e).items ≡ times_known (step trade p h e) pair
  unfolding step
  outcomes_step h e so pair =
      sum_of (times (is_outcome_of pair) h.items) (times_known h pair) (times (is_outcome_of pair) (items_by trade p h e))
      (times (λ (known : Known). same_pair pair known.pair) (known_by e))
      (times (is_outcome_of pair) (h.items ++ items_by trade p h e)) (times (λ (known : Known). same_pair pair known.pair) (h.known ++ known_by e))
      (times_append (is_outcome_of pair) h.items (items_by trade p h e))
      (times_append (λ (known : Known). same_pair pair known.pair) h.known (known_by e)) (so pair) (outcomes_by h pair e)

  -- each notice of an entry is a mark of it
  notices_by : (h : Half) (pair : Pair) (e : Entry)
      → times (is_notice_on pair) (items_by trade p h e) ≡ times (λ (mark : Mark). is_notice mark.due && same_pair pair mark.pair) (marks_by trade p h e)
  notices_by h pair (entries.Start number digest) = refl
  notices_by h pair (entries.Accepted moment sender message) = refl
  notices_by h pair (entries.NotAccepted moment sender cause path message) = refl
  notices_by h pair (entries.Took moment id message) = refl
  notices_by h pair (entries.Decided moment id recipient decision) = placed_no_receipt h is_notice_kind pair id recipient decision
  notices_by h pair (entries.Charged moment id by) = refl
  notices_by h pair (entries.Learned moment id recipient decision decided message) =
      let item : Posted = record { account = submitter h id.number; item = ReceiptItem (receipt_kind decision) id (Some recipient) moment; entry = h.entries }
      in counted_alike item item (is_notice_kind (receipt_kind decision) && same_pair pair (pair_of id recipient)) false
      (and_false (is_notice_kind (receipt_kind decision)) (same_pair pair (pair_of id recipient)) (no_notice decision))
  notices_by h pair (entries.Acked moment id recipient) = refl
  notices_by h pair (entries.Ticked moment) =
      times_mapped (is_notice_on pair) (λ (mark : Mark). is_notice mark.due && same_pair pair mark.pair) (notice_by h)
      (λ mark. ap (λ b. b && same_pair pair mark.pair) (due_is_notice mark.due))
      (marks_from trade p h moment 0 h.messages)
  notices_by h pair (entries.StartTwo number digest) = refl
  notices_by h pair (entries.Upgraded moment) = refl
  notices_by h pair (entries.Archived moment account place) = refl
  notices_by h pair (entries.Anomaly moment accounts message) = anomalies_pass h moment (is_notice_on pair) (λ account. refl) accounts

  pub notices_step : (h : Half) (e : Entry)
      → ((pair : Pair) → times (is_notice_on pair) h.items ≡ times (λ (mark : Mark). is_notice mark.due && same_pair pair mark.pair) h.marks)
      → (pair : Pair) → times (is_notice_on pair) (step trade p h e).items
      ≡ times (λ (mark : Mark). is_notice mark.due && same_pair pair mark.pair) (step trade p h e).marks
  unfolding step
  notices_step h e so pair =
      let test = λ (mark : Mark). is_notice mark.due && same_pair pair mark.pair
      in sum_of (times (is_notice_on pair) h.items) (times test h.marks) (times (is_notice_on pair) (items_by trade p h e)) (times test (marks_by trade p h e))
      (times (is_notice_on pair) (h.items ++ items_by trade p h e)) (times test (h.marks ++ marks_by trade p h e))
      (times_append (is_notice_on pair) h.items (items_by trade p h e)) (times_append test h.marks (marks_by trade p h e)) (so pair) (notices_by h pair e)

  -- each envelope that an entry places for a recipient is a pair that it decides so
  abbrev pub is_envelope_for : Pair → Posted → Bool
  is_envelope_for pair posted = bytes_eq pair.recipient posted.account && is_envelope_of pair.id posted

  swapped : (a b : Bool) → (b && a) ≡ ((a && b) && true)
  swapped true true = refl
  swapped true false = refl
  swapped false true = refl
  swapped false false = refl

  dropped : (a : Bool) → false ≡ (a && false)
  dropped true = refl
  dropped false = refl

  and_no : (a : Bool) → (a && false) ≡ false
  and_no a = sym (dropped a)

  placed_alike : (h : Half) (pair : Pair) (moment : ℕ) (id : Id) (recipient : Bytes) (decision : Decision)
      → times (is_envelope_for pair) (placed_by h id recipient decision)
      ≡ times (λ (fate : Fate). same_pair pair fate.pair && is_placed fate.decision) (record { pair = pair_of id recipient; decision = decision; moment = moment } ∷ [])
  placed_alike h pair moment id recipient Placed =
      let item : Posted = record { account = recipient; item = EnvelopeItem id; entry = h.entries }
      in let row : Fate = record { pair = pair_of id recipient; decision = Placed; moment = moment }
      in counted_alike item row (bytes_eq pair.recipient recipient && same_id pair.id id) (same_pair pair (pair_of id recipient) && true)
      (swapped (same_id pair.id id) (bytes_eq pair.recipient recipient))
  placed_alike h pair moment id recipient (Refused refusal) =
      let row : Fate = record { pair = pair_of id recipient; decision = Refused refusal; moment = moment }
      in counted_alike row row false (same_pair pair (pair_of id recipient) && false) (dropped (same_pair pair (pair_of id recipient)))

  one_no : {X : Type 0} (a : Bool) (x : X) → length (cond (a && false) (x ∷ []) []) ≡ 0
  one_no true x = refl
  one_no false x = refl

  envelopes_by : (h : Half) (pair : Pair) (e : Entry)
      → times (is_envelope_for pair) (items_by trade p h e) ≡ times (λ (fate : Fate). same_pair pair fate.pair && is_placed fate.decision) (decided_by e)
  envelopes_by h pair (entries.Start number digest) = refl
  envelopes_by h pair (entries.Accepted moment sender message) = one_no (bytes_eq pair.recipient sender) _
  envelopes_by h pair (entries.NotAccepted moment sender cause path message) = one_no (bytes_eq pair.recipient sender) _
  envelopes_by h pair (entries.Took moment id message) = refl
  envelopes_by h pair (entries.Decided moment id recipient decision) = placed_alike h pair moment id recipient decision
  envelopes_by h pair (entries.Charged moment id by) = refl
  envelopes_by h pair (entries.Learned moment id recipient decision decided message) = one_no (bytes_eq pair.recipient (submitter h id.number)) _
  envelopes_by h pair (entries.Acked moment id recipient) = refl
  envelopes_by h pair (entries.Ticked moment) =
      notices_pass h (is_envelope_for pair) (λ mark. and_no (bytes_eq pair.recipient (submitter h mark.pair.id.number))) (marks_from trade p h moment 0 h.messages)
  envelopes_by h pair (entries.StartTwo number digest) = refl
  envelopes_by h pair (entries.Upgraded moment) = refl
  envelopes_by h pair (entries.Archived moment account place) = refl
  envelopes_by h pair (entries.Anomaly moment accounts message) =
      anomalies_pass h moment (is_envelope_for pair) (λ account. and_no (bytes_eq pair.recipient account)) accounts

  pub envelopes_step : (h : Half) (e : Entry) → ((pair : Pair) → times (is_envelope_for pair) h.items ≡ times_placed h pair)
      → (pair : Pair) → times (is_envelope_for pair) (step trade p h e).items ≡ times_placed (step trade p h e) pair
  unfolding step
  envelopes_step h e so pair =
      let test = λ (fate : Fate). same_pair pair fate.pair && is_placed fate.decision
      in sum_of (times (is_envelope_for pair) h.items) (times_placed h pair) (times (is_envelope_for pair) (items_by trade p h e)) (times test (decided_by e))
      (times (is_envelope_for pair) (h.items ++ items_by trade p h e)) (times test (h.decided ++ decided_by e))
      (times_append (is_envelope_for pair) h.items (items_by trade p h e)) (times_append test h.decided (decided_by e)) (so pair) (envelopes_by h pair e)
