-- Where receipts stand: each that names a recipient was placed with its message's sender.
use Rattle.std.proofs.Common.{◌≡◌, ◌≢◌, ℕ, ◌+◌, List, [], ◌∷◌, Bool, true, false, ◌&&◌, inl, inr, map, length, refl, ap, sym, ◌∙◌, arith, Option, Some, None}
use Rattle.std.specs.Prelude.{All, Contains, slice_get, unwrap_or}
use Rattle.std.specs.Option.{option_map}
use Rattle.std.specs.Str.{bytes_eq}
use Rattle.std.proofs.lemmas.Bool.{and_parts, cases_Bool, false≢true}
use Rattle.std.proofs.lemmas.List.Elements.{All-append, All-cons, All-map, All-nil, All-weaker, All-contains_itself}
use Rattle.std.proofs.lemmas.Option.{same_Some}
use Rattle.std.proofs.lemmas.Slice.Eq.{bytes_eq-Decides}
use Rattle.pec_types.specs.Bytes.{Bytes}
use Rattle.pec_types.specs.Message.{Id}
use Rattle.pec_types.specs.declared.messages.Decision.{Decision}
use Rattle.pec_types.specs.declared.messages.Decision.TheVariants.{Placed, Refused}
use Rattle.pec_types.specs.declared.messages.Facts.{Facts}
use Rattle.pec_types.specs.declared.receipts.Kind.{Kind}
use Rattle.pec_records.specs.declared.entries.Entry.{Entry}
use Rattle.pec_records.specs.declared.entries.Entry.TheVariants as entries
use Rattle.pec_ledger.specs.Along.{times}
use Rattle.pec_ledger.specs.Guarantees.{is_receipt_of}
use Rattle.pec_ledger.specs.Half.{Half, Item, Mark, Message, Posted, EnvelopeItem, ReceiptItem, AnomalyItem}
use Rattle.pec_ledger.specs.Lookups.{Accepted, accepted_at, accepted_of, ever_placed, submitter}
use Rattle.pec_ledger.specs.Marks.{marks_from}
use Rattle.pec_ledger.specs.Own.{IsOwnPair, Own}
use Rattle.pec_ledger.specs.Pairs.{Pair, pair_of}
use Rattle.pec_ledger.specs.Steps.{anomaly_by, items_by, notice_by, placed_by, step}
use Rattle.pec_ledger.specs.Trade.{Trade}
use Rattle.pec_ledger.proofs.Growth.{Longer, accepted_stays, longer_step}
use Rattle.pec_ledger.proofs.ListLemmas.{both_found, bound, counts_agree, filter_twice, mapped, none_there}
use Rattle.pec_ledger.proofs.MarkLemmas.{Marked, mark_is, marked_from}
use Rattle.pec_ledger.proofs.PairLemmas.{same_pairs}

-- the account is that of the message's sender
pub record OfSender (h : Half) (id : Id) (account : Bytes) : Type 0 where
  pub message : Accepted
  pub accepted : accepted_at h id.number ≡ Some message
  pub same : account ≡ message.sender

abbrev pub InPlace : Half → Bytes → Item → Type 0
InPlace h account (EnvelopeItem id) = Unit {0}
InPlace h account (ReceiptItem kind id None moment) = Unit {0}
InPlace h account (ReceiptItem kind id (Some recipient) moment) = OfSender h id account
InPlace h account (AnomalyItem moment) = Unit {0}

abbrev pub AllInPlace : Half → List Posted → Type 0
AllInPlace h items = All (λ (posted : Posted). InPlace h posted.account posted.item) items

of_sender_stays : (h k : Half) → Longer h k → (id : Id) (account : Bytes) → OfSender h id account → OfSender k id account
of_sender_stays h k g id account is = record {
  message = is.message;
  accepted = accepted_stays h k id.number is.message g is.accepted;
  same = is.same;
}

in_place_stays : (h k : Half) → Longer h k → (account : Bytes) (item : Item) → InPlace h account item → InPlace k account item
in_place_stays h k g account (EnvelopeItem id) is = tt
in_place_stays h k g account (ReceiptItem kind id None moment) is = tt
in_place_stays h k g account (ReceiptItem kind id (Some recipient) moment) is = of_sender_stays h k g id account is
in_place_stays h k g account (AnomalyItem moment) is = tt

-- who submitted an accepted message is its sender
sender_of : (m : Message) (message : Accepted) → accepted_of m ≡ Some message → m.sender ≡ message.sender
sender_of m message e =
    let made = mapped (λ (facts : Facts). record { moment = m.moment; sender = m.sender; facts = facts; entry = m.entry }) m.facts message e
    in ap (λ (a : Accepted). a.sender) made.2

pub submitter_is : (h : Half) (n : ℕ) (message : Accepted) → accepted_at h n ≡ Some message → submitter h n ≡ message.sender
submitter_is h n message e =
    let found = both_found accepted_of (slice_get h.messages n) message e
    in ap (λ (o : Option Message). unwrap_or (option_map (λ (m : Message). m.sender) o) []) found.1 ∙ sender_of found.0 message found.2

placed_in_place : (h k : Half) (id : Id) (recipient : Bytes) (decision : Decision) → AllInPlace k (placed_by h id recipient decision)
placed_in_place h k id recipient Placed = All-cons (λ (posted : Posted). InPlace k posted.account posted.item) _ [] tt (All-nil (λ (posted : Posted). InPlace k posted.account posted.item))
placed_in_place h k id recipient (Refused refusal) = All-nil (λ (posted : Posted). InPlace k posted.account posted.item)

module _ (trade : Trade) (p : ℕ) where
  notices_in_place : (h k : Half) (now : ℕ) → Longer h k → AllInPlace k (map (notice_by h) (marks_from trade p h now 0 h.messages))
  notices_in_place h k now g =
      All-map (λ (posted : Posted). InPlace k posted.account posted.item) (notice_by h) (marks_from trade p h now 0 h.messages)
      (All-weaker (Contains (marks_from trade p h now 0 h.messages)) (λ (mark : Mark). OfSender k mark.pair.id (submitter h mark.pair.id.number))
      (λ mark c. of_mark mark (marked_from trade p h now 0 h.messages mark c)) (marks_from trade p h now 0 h.messages)
      (All-contains_itself (marks_from trade p h now 0 h.messages)))
    where
      number_is : (mark : Mark) (is : Marked trade p h now 0 h.messages mark) → mark.pair.id.number ≡ is.place
      number_is mark is =
          ap (λ (q : Pair). q.id.number) (mark_is trade h now is.message.moment _ mark is.due) ∙ (let z : 0 + is.place ≡ is.place = omega arith in z)

      of_mark : (mark : Mark) → Marked trade p h now 0 h.messages mark → OfSender k mark.pair.id (submitter h mark.pair.id.number)
      of_mark mark is =
          let there : accepted_at h mark.pair.id.number ≡ Some is.message =
          ap (accepted_at h) (number_is mark is) ∙ bound accepted_of (slice_get h.messages is.place) is.row is.message is.there is.accepted
          in record {
            message = is.message;
            accepted = accepted_stays h k mark.pair.id.number is.message g there;
            same = submitter_is h mark.pair.id.number is.message there;
          }

  one_in_place : (k : Half) (posted : Posted) → InPlace k posted.account posted.item → AllInPlace k (posted ∷ [])
  one_in_place k posted is = All-cons (λ (q : Posted). InPlace k q.account q.item) posted [] is (All-nil (λ (q : Posted). InPlace k q.account q.item))

  none_in_place : (k : Half) → AllInPlace k []
  none_in_place k = All-nil (λ (q : Posted). InPlace k q.account q.item)

  new_in_place : (h k : Half) → Longer h k → (e : Entry) → Own trade p h e → AllInPlace k (items_by trade p h e)
  new_in_place h k g (entries.Start number digest) own = none_in_place k
  new_in_place h k g (entries.Accepted moment sender message) own = one_in_place k _ tt
  new_in_place h k g (entries.NotAccepted moment sender cause path message) own = one_in_place k _ tt
  new_in_place h k g (entries.Took moment id message) own = none_in_place k
  new_in_place h k g (entries.Decided moment id recipient decision) own = placed_in_place h k id recipient decision
  new_in_place h k g (entries.Charged moment id by) own = none_in_place k
  new_in_place h k g (entries.Learned moment id recipient decision decided message) own =
      let ours : IsOwnPair trade p h (pair_of id recipient) = own.0
      in one_in_place k _ (record {
        message = ours.message;
        accepted = accepted_stays h k id.number ours.message g ours.accepted;
        same = submitter_is h id.number ours.message ours.accepted;
      })
  new_in_place h k g (entries.Acked moment id recipient) own = none_in_place k
  new_in_place h k g (entries.Ticked moment) own = notices_in_place h k moment g
  new_in_place h k g (entries.StartTwo number digest) own = none_in_place k
  new_in_place h k g (entries.Upgraded moment) own = none_in_place k
  new_in_place h k g (entries.Archived moment account place) own = none_in_place k
  new_in_place h k g (entries.Anomaly moment accounts message) own =
      All-map (λ (posted : Posted). InPlace k posted.account posted.item) (anomaly_by h moment) accounts (λ i d l. tt)

  pub in_place_step : (h : Half) (e : Entry) → Own trade p h e → AllInPlace h h.items → AllInPlace (step trade p h e) (step trade p h e).items
  unfolding step
  in_place_step h e own is =
      let k = step trade p h e
      in let g = longer_step trade p h e
      in All-append (λ (posted : Posted). InPlace k posted.account posted.item) h.items (items_by trade p h e)
      (All-weaker (λ (posted : Posted). InPlace h posted.account posted.item) (λ (posted : Posted). InPlace k posted.account posted.item)
      (λ posted i. in_place_stays h k g posted.account posted.item i) h.items is)
      (new_in_place h k g e own)

-- ---- with one account all, with each other none

same_accepted : (o : Option Accepted) (m n : Accepted) → o ≡ Some m → o ≡ Some n → m ≡ n
same_accepted o m n e f = same_Some m n (sym e ∙ f)

stands_with : (h : Half) (test : Kind → Bool) (pair : Pair) (message : Accepted) → accepted_at h pair.id.number ≡ Some message
    → (account : Bytes) (item : Item) → InPlace h account item → is_receipt_of test pair item ≡ true → account ≡ message.sender
stands_with h test pair message e account (EnvelopeItem id) is t = absurd (false≢true t)
stands_with h test pair message e account (ReceiptItem kind id None moment) is t = absurd (false≢true t)
stands_with h test pair message e account (ReceiptItem kind id (Some recipient) moment) is t =
    let same = same_pairs pair (pair_of id recipient) (and_parts (test kind) _ t).1
    in let there : accepted_at h pair.id.number ≡ Some is.message = ap (λ (q : Pair). accepted_at h q.id.number) same ∙ is.accepted
    in is.same ∙ ap (λ (a : Accepted). a.sender) (same_accepted (accepted_at h pair.id.number) is.message message there e)
stands_with h test pair message e account (AnomalyItem moment) is t = absurd (false≢true t)

abbrev pub names : (Kind → Bool) → Pair → Posted → Bool
names test pair posted = is_receipt_of test pair posted.item

both_are : (a b : Bool) → (b ≡ true → a ≡ true) → (a && b) ≡ b
both_are true b h = refl
both_are false true h = h refl
both_are false false h = refl

not_both : (a b : Bool) → (b ≡ true → a ≡ false) → (a && b) ≡ false
not_both true true h = h refl
not_both true false h = refl
not_both false b h = refl

pub all_there : (h : Half) (test : Kind → Bool) (pair : Pair) (message : Accepted) → AllInPlace h h.items → accepted_at h pair.id.number ≡ Some message
    → times (names test pair) (ever_placed h message.sender) ≡ times (names test pair) h.items
all_there h test pair message is e =
    ap length (filter_twice (names test pair) (λ (posted : Posted). bytes_eq message.sender posted.account) h.items)
    ∙ counts_agree (λ (posted : Posted). bytes_eq message.sender posted.account && names test pair posted) (names test pair) h.items
    (All-weaker (λ (posted : Posted). InPlace h posted.account posted.item)
    (λ (posted : Posted). (bytes_eq message.sender posted.account && names test pair posted) ≡ names test pair posted)
    (λ posted i. both_are (bytes_eq message.sender posted.account) (names test pair posted)
    (λ t. (bytes_eq-Decides message.sender posted.account).1 (sym (stands_with h test pair message e posted.account posted.item i t))))
    h.items is)

pub different : (a b : Bytes) → (a ≡ b → ⊥) → bytes_eq a b ≡ false
different a b n = elim (cases_Bool (bytes_eq a b)) [ inl t ↦ absurd (n ((bytes_eq-Decides a b).0 t)) | inr f ↦ f ]

pub none_elsewhere : (h : Half) (test : Kind → Bool) (pair : Pair) (message : Accepted) (account : Bytes) → AllInPlace h h.items
    → accepted_at h pair.id.number ≡ Some message → account ≢ message.sender → times (names test pair) (ever_placed h account) ≡ 0
none_elsewhere h test pair message account is e other =
    ap length (filter_twice (names test pair) (λ (posted : Posted). bytes_eq account posted.account) h.items)
    ∙ none_there (λ (posted : Posted). bytes_eq account posted.account && names test pair posted) h.items
    (All-weaker (λ (posted : Posted). InPlace h posted.account posted.item)
    (λ (posted : Posted). (bytes_eq account posted.account && names test pair posted) ≡ false)
    (λ posted i. not_both (bytes_eq account posted.account) (names test pair posted)
    (λ t. different account posted.account (λ same. other (same ∙ stands_with h test pair message e posted.account posted.item i t))))
    h.items is)
