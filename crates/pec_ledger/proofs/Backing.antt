-- What stands behind the rows of a half, in journals that are Fit: of each accepted message its original, of each taken
-- one its envelope, of each decided pair a taken row, and of each item what its bytes are made of.
use Rattle.std.proofs.Common.{◌≡◌, ℕ, ◌+◌, ◌≤◌, ◌<◌, List, [], ◌∷◌, ◌++◌, length, map, Bool, true, refl, ap, sym, subst, ◌∙◌, arith, Option, Some, None}
use Rattle.std.specs.Prelude.{All, Contains, IsTrue, cond, fold, slice_get}
use Rattle.std.specs.List.{find}
use Rattle.std.specs.Option.{option_and_then, option_or}
use Rattle.std.proofs.lemmas.Bool.{and_parts}
use Rattle.std.proofs.lemmas.List.{append-nil, append_assoc, length-append}
use Rattle.std.proofs.lemmas.List.Elements.{All-append, All-cons, All-map, All-nil, All-weaker, All-contains_itself}
use Rattle.std.proofs.lemmas.List.Folds.{find-append}
use Rattle.std.proofs.lemmas.Option.{none-some, same_Some}
use Rattle.pec_types.specs.Bytes.{Bytes, Path}
use Rattle.pec_types.specs.Message.{Id}
use Rattle.pec_types.specs.LimitsReading.{due_of}
use Rattle.pec_types.specs.declared.limits.Due.{Due}
use Rattle.pec_types.specs.declared.limits.Due.TheVariants as dues
use Rattle.pec_types.specs.declared.messages.TheConstants.{MESSAGES}
use Rattle.pec_types.specs.declared.messages.Cause.{Cause}
use Rattle.pec_types.specs.declared.messages.Decision.{Decision}
use Rattle.pec_types.specs.declared.messages.Decision.TheVariants.{Placed, Refused}
use Rattle.pec_types.specs.declared.messages.Facts.{Facts}
use Rattle.pec_types.specs.declared.messages.Refusal.TheVariants as refusals
use Rattle.pec_types.specs.declared.moments.TheConstants.{END_OF_TIME}
use Rattle.pec_types.specs.declared.receipts.Kind.TheVariants as kinds
use Rattle.pec_records.specs.Entry.{most_addresses}
use Rattle.pec_records.specs.declared.entries.Entry.{Entry}
use Rattle.pec_records.specs.declared.entries.Entry.TheVariants as entries
use Rattle.pec_ledger.specs.Along.{GoesOnAs}
use Rattle.pec_ledger.specs.Half.{Fate, Half, Item, Known, Mark, Message, Posted, Taken, EnvelopeItem, ReceiptItem, AnomalyItem, empty}
use Rattle.pec_ledger.specs.Ledger.{Fit, Follows, IsAdmitted, IsEnvelopeText, IsOutcomeText, Journals, Meets, body_at, body_of, ledger}
use Rattle.pec_ledger.specs.Lookups.{Accepted, accepted_at, accepted_of, addresses_of, at_home, has_room, known_of, receipt_kind, taken_of}
use Rattle.pec_ledger.specs.Marks.{clocked, marked, marks_from}
use Rattle.pec_ledger.specs.Own.{IsFrom, IsOwnPair, IsTakenPair, Own}
use Rattle.pec_ledger.specs.Pairs.{Pair, id_of, pair_of, same_pair}
use Rattle.pec_ledger.specs.Steps.{anomaly_by, decided_by, half, items_by, kind_of_due, messages_by, notice_by, placed_by, step, taken_by}
use Rattle.pec_ledger.specs.Trade.{Trade}
use Rattle.pec_ledger.proofs.Growth.{Longer, accepted_stays, body_stays, known_stays, longer_step, taken_stays}
use Rattle.pec_ledger.proofs.ListLemmas.{bound, stays_at}
use Rattle.pec_ledger.proofs.MarkLemmas.{Marked, marked_from}
use Rattle.pec_ledger.proofs.PairLemmas.{pair_again}

-- the last entry stands at the place that the number of those before it is
pub last_place : {X : Type 0} (xs : List X) (x : X) → slice_get (xs ++ x ∷ []) (length xs) ≡ Some x
last_place [] x = refl
last_place (y ∷ xs) x = last_place xs x

pub one_longer : {X : Type 0} (xs : List X) (x : X) → length (xs ++ x ∷ []) ≡ length xs + 1
one_longer xs x = length-append xs (x ∷ [])

-- an item that is the first of its kind is found
found_last : {X : Type 0} (p : X → Bool) (xs : List X) (x : X) → find p xs ≡ None → p x ≡ true → find p (xs ++ x ∷ []) ≡ Some x
found_last p xs x none e =
    find-append p xs (x ∷ []) ∙ ap (λ o. option_or o (find p (x ∷ []))) none ∙ ap (λ (b : Bool). cond b (Some x) None) e

module _ (trade : Trade) (J : Journals) (p : ℕ) where
  -- ---- what stands behind

  -- an accepted message: its original, and what was asked of it
  pub record IsSentRow (es : List Entry) (row : Message) (facts : Facts) : Type 0 where
    pub original : Bytes
    pub there : body_at es row.entry ≡ Some original
    pub are : trade.facts original ≡ Some facts
    pub sender : facts.sender ≡ row.sender
    pub account : IsTrue (trade.is_account p row.sender)
    pub admitted : trade.cause p row.sender (addresses_of facts) original ≡ None
    pub few : length facts.recipients ≤ most_addresses

  abbrev pub SentRow : List Entry → Message → Type 0
  SentRow es row = (facts : Facts) → row.facts ≡ Some facts → IsSentRow es row facts

  -- a taken message: its envelope
  pub record TakenRow (es : List Entry) (row : Taken) : Type 0 where
    pub envelope : Bytes
    pub there : body_at es row.entry ≡ Some envelope
    pub text : IsEnvelopeText trade J row.id p envelope
    pub recipients : row.recipients ≡ at_home trade p (trade.envelope_recipients envelope)

  -- an outcome receipt that is the letter of the recipient's provider: what was learned
  pub record LearnedItem (es : List Entry) (entry : ℕ) (pair : Pair) : Type 0 where
    pub receipt : Bytes
    pub there : body_at es entry ≡ Some receipt
    pub text : IsOutcomeText trade J pair receipt

  -- the delivery error of a virus: a pair of this provider, of which a virus is known
  pub record VirusItem (h : Half) (pair : Pair) : Type 0 where
    pub own : IsOwnPair trade p h pair
    pub row : Known
    pub known : known_of h pair ≡ Some row
    pub so : row.decision ≡ Refused refusals.Virus

  -- a notice of non-acceptance: its entry
  pub record RefusedItem (es : List Entry) (entry : ℕ) (id : Id) : Type 0 where
    pub moment : ℕ
    pub sender : Bytes
    pub cause : Cause
    pub path : Path
    pub message : Bytes
    pub there : slice_get es entry ≡ Some (entries.NotAccepted moment sender cause path message)
    pub ours : id.provider ≡ p
    pub number : id.number < MESSAGES
    pub account : IsTrue (trade.is_account p sender)
    pub some : 0 < length path
    pub few : length path ≤ most_addresses
    pub in_range : moment < END_OF_TIME

  -- an acceptance: its message
  pub record AcceptedItem (h : Half) (id : Id) : Type 0 where
    pub ours : id.provider ≡ p
    pub message : Accepted
    pub accepted : accepted_at h id.number ≡ Some message

  pub record AnomalyRow (es : List Entry) (entry : ℕ) : Type 0 where
    pub message : Bytes
    pub there : body_at es entry ≡ Some message
    pub account : Bytes
    pub is : IsTrue (trade.is_account p account)

  abbrev pub TakenItem : Half → Id → Type 0
  TakenItem h id = (row : Taken) × (taken_of h id ≡ Some row)

  abbrev pub ItemRow : List Entry → Half → ℕ → Item → Type 0
  ItemRow es h entry (EnvelopeItem id) = TakenItem h id
  ItemRow es h entry (ReceiptItem kinds.Acceptance id None moment) = AcceptedItem h id
  ItemRow es h entry (ReceiptItem (kinds.NonAcceptance cause) id None moment) = RefusedItem es entry id
  ItemRow es h entry (ReceiptItem kinds.Delivery id (Some recipient) moment) = LearnedItem es entry (pair_of id recipient)
  ItemRow es h entry (ReceiptItem (kinds.DeliveryError refusals.NoMailbox) id (Some recipient) moment) = LearnedItem es entry (pair_of id recipient)
  ItemRow es h entry (ReceiptItem (kinds.DeliveryError refusals.MailboxFull) id (Some recipient) moment) = LearnedItem es entry (pair_of id recipient)
  ItemRow es h entry (ReceiptItem (kinds.DeliveryError refusals.Virus) id (Some recipient) moment) = VirusItem h (pair_of id recipient)
  ItemRow es h entry (ReceiptItem kinds.Warning id (Some recipient) moment) = IsOwnPair trade p h (pair_of id recipient)
  ItemRow es h entry (ReceiptItem kinds.Notice id (Some recipient) moment) = IsOwnPair trade p h (pair_of id recipient)
  ItemRow es h entry (ReceiptItem kinds.LateNotice id (Some recipient) moment) = IsOwnPair trade p h (pair_of id recipient)
  ItemRow es h entry (ReceiptItem kind id recipient moment) = ⊥
  ItemRow es h entry (AnomalyItem moment) = AnomalyRow es entry

  pub record Backed (es : List Entry) (h : Half) : Type 0 where
    pub count : h.entries ≡ length es
    pub few : length h.messages ≤ MESSAGES
    pub sent : All (SentRow es) h.messages
    pub taken : All (TakenRow es) h.taken
    pub decided : All (λ (fate : Fate). IsTakenPair trade p h fate.pair) h.decided
    pub items : All (λ (posted : Posted). ItemRow es h posted.entry posted.item) h.items

  -- ---- it stays

  sent_stays : (es fs : List Entry) → GoesOnAs es fs → (row : Message) → SentRow es row → SentRow fs row
  sent_stays es fs g row is = λ facts e.
      let sent = is facts e
      in record {
        original = sent.original;
        there = body_stays es fs row.entry sent.original g sent.there;
        are = sent.are;
        sender = sent.sender;
        account = sent.account;
        admitted = sent.admitted;
        few = sent.few;
      }

  taken_row_stays : (es fs : List Entry) → GoesOnAs es fs → (row : Taken) → TakenRow es row → TakenRow fs row
  taken_row_stays es fs g row is =
      record { envelope = is.envelope; there = body_stays es fs row.entry is.envelope g is.there; text = is.text; recipients = is.recipients }

  taken_pair_stays : (h k : Half) → Longer h k → (pair : Pair) → IsTakenPair trade p h pair → IsTakenPair trade p k pair
  taken_pair_stays h k g pair is =
      record { row = is.row; taken = taken_stays h k pair.id is.row g is.taken; recipient = is.recipient }

  own_pair_stays : (h k : Half) → Longer h k → (pair : Pair) → IsOwnPair trade p h pair → IsOwnPair trade p k pair
  own_pair_stays h k g pair is = record {
    ours = is.ours;
    message = is.message;
    accepted = accepted_stays h k pair.id.number is.message g is.accepted;
    recipient = is.recipient;
  }

  learned_stays : (es fs : List Entry) → GoesOnAs es fs → (entry : ℕ) (pair : Pair) → LearnedItem es entry pair → LearnedItem fs entry pair
  learned_stays es fs g entry pair is =
      record { receipt = is.receipt; there = body_stays es fs entry is.receipt g is.there; text = is.text }

  virus_stays : (h k : Half) → Longer h k → (pair : Pair) → VirusItem h pair → VirusItem k pair
  virus_stays h k g pair is = record {
    own = own_pair_stays h k g pair is.own;
    row = is.row;
    known = known_stays h k pair is.row g is.known;
    so = is.so;
  }

  refused_stays : (es fs : List Entry) → GoesOnAs es fs → (entry : ℕ) (id : Id) → RefusedItem es entry id → RefusedItem fs entry id
  refused_stays es fs g entry id is = record {
    moment = is.moment;
    sender = is.sender;
    cause = is.cause;
    path = is.path;
    message = is.message;
    there = stays_at es fs entry (entries.NotAccepted is.moment is.sender is.cause is.path is.message) g is.there;
    ours = is.ours;
    number = is.number;
    account = is.account;
    some = is.some;
    few = is.few;
    in_range = is.in_range;
  }

  accepted_item_stays : (h k : Half) → Longer h k → (id : Id) → AcceptedItem h id → AcceptedItem k id
  accepted_item_stays h k g id is =
      record { ours = is.ours; message = is.message; accepted = accepted_stays h k id.number is.message g is.accepted }

  anomaly_stays : (es fs : List Entry) → GoesOnAs es fs → (entry : ℕ) → AnomalyRow es entry → AnomalyRow fs entry
  anomaly_stays es fs g entry is =
      record { message = is.message; there = body_stays es fs entry is.message g is.there; account = is.account; is = is.is }

  item_stays : (es fs : List Entry) → GoesOnAs es fs → (h k : Half) → Longer h k → (entry : ℕ) (item : Item) → ItemRow es h entry item → ItemRow fs k entry item
  item_stays es fs g h k l entry (EnvelopeItem id) is = (is.0, taken_stays h k id is.0 l is.1)
  item_stays es fs g h k l entry (ReceiptItem kinds.Acceptance id None moment) is = accepted_item_stays h k l id is
  item_stays es fs g h k l entry (ReceiptItem kinds.Acceptance id (Some recipient) moment) is = absurd is
  item_stays es fs g h k l entry (ReceiptItem (kinds.NonAcceptance cause) id None moment) is = refused_stays es fs g entry id is
  item_stays es fs g h k l entry (ReceiptItem (kinds.NonAcceptance cause) id (Some recipient) moment) is = absurd is
  item_stays es fs g h k l entry (ReceiptItem kinds.Delivery id (Some recipient) moment) is = learned_stays es fs g entry (pair_of id recipient) is
  item_stays es fs g h k l entry (ReceiptItem kinds.Delivery id None moment) is = absurd is
  item_stays es fs g h k l entry (ReceiptItem (kinds.DeliveryError refusals.NoMailbox) id (Some recipient) moment) is = learned_stays es fs g entry (pair_of id recipient) is
  item_stays es fs g h k l entry (ReceiptItem (kinds.DeliveryError refusals.NoMailbox) id None moment) is = absurd is
  item_stays es fs g h k l entry (ReceiptItem (kinds.DeliveryError refusals.MailboxFull) id (Some recipient) moment) is = learned_stays es fs g entry (pair_of id recipient) is
  item_stays es fs g h k l entry (ReceiptItem (kinds.DeliveryError refusals.MailboxFull) id None moment) is = absurd is
  item_stays es fs g h k l entry (ReceiptItem (kinds.DeliveryError refusals.Virus) id (Some recipient) moment) is = virus_stays h k l (pair_of id recipient) is
  item_stays es fs g h k l entry (ReceiptItem (kinds.DeliveryError refusals.Virus) id None moment) is = absurd is
  item_stays es fs g h k l entry (ReceiptItem kinds.VirusFound id recipient moment) is = absurd is
  item_stays es fs g h k l entry (ReceiptItem kinds.Warning id (Some recipient) moment) is = own_pair_stays h k l (pair_of id recipient) is
  item_stays es fs g h k l entry (ReceiptItem kinds.Warning id None moment) is = absurd is
  item_stays es fs g h k l entry (ReceiptItem kinds.Notice id (Some recipient) moment) is = own_pair_stays h k l (pair_of id recipient) is
  item_stays es fs g h k l entry (ReceiptItem kinds.Notice id None moment) is = absurd is
  item_stays es fs g h k l entry (ReceiptItem kinds.LateNotice id (Some recipient) moment) is = own_pair_stays h k l (pair_of id recipient) is
  item_stays es fs g h k l entry (ReceiptItem kinds.LateNotice id None moment) is = absurd is
  item_stays es fs g h k l entry (ReceiptItem kinds.Charge id recipient moment) is = absurd is
  item_stays es fs g h k l entry (ReceiptItem kinds.Ack id recipient moment) is = absurd is
  item_stays es fs g h k l entry (AnomalyItem moment) is = anomaly_stays es fs g entry is

  -- ---- what an entry adds is backed

  no_facts : {P : Type 0} (facts : Facts) → None ≡ Some facts → P
  no_facts facts e = absurd (none-some facts e)

  sent_by : (es : List Entry) (h : Half) → h.entries ≡ length es → (e : Entry) → Meets trade J p h e → All (SentRow (es ++ e ∷ [])) (messages_by trade p h e)
  sent_by es h n (entries.Accepted moment sender message) meets =
      let from : IsFrom trade p sender message = meets.own.2
      in let admitted : IsAdmitted trade p sender message = meets.joint
      in All-cons (SentRow (es ++ entries.Accepted moment sender message ∷ [])) _ []
      (λ facts e.
      let mine : from.facts ≡ facts = same_Some from.facts facts (sym from.are ∙ e)
      in let theirs : admitted.facts ≡ facts = same_Some admitted.facts facts (sym admitted.are ∙ e)
      in record {
        original = message;
        there = ap (body_at (es ++ entries.Accepted moment sender message ∷ [])) n
            ∙ bound body_of (slice_get (es ++ entries.Accepted moment sender message ∷ []) (length es)) (entries.Accepted moment sender message) message
            (last_place es (entries.Accepted moment sender message)) refl;
        are = e;
        sender = subst (λ (f : Facts). f.sender ≡ sender) mine from.sent;
        account = meets.own.1;
        admitted = subst (λ (f : Facts). trade.cause p sender (addresses_of f) message ≡ None) theirs admitted.none;
        few = subst (λ (f : Facts). length f.recipients ≤ most_addresses) mine from.few;
      })
      (All-nil (SentRow (es ++ entries.Accepted moment sender message ∷ [])))
  sent_by es h n (entries.NotAccepted moment sender cause path message) meets =
      All-cons (SentRow (es ++ entries.NotAccepted moment sender cause path message ∷ [])) _ []
      (λ facts e. no_facts facts e)
      (All-nil (SentRow (es ++ entries.NotAccepted moment sender cause path message ∷ [])))
  sent_by es h n (entries.Start number digest) meets = All-nil (SentRow (es ++ entries.Start number digest ∷ []))
  sent_by es h n e meets = All-nil (SentRow (es ++ e ∷ []))

  taken_rows_by : (es : List Entry) (h : Half) → h.entries ≡ length es → (e : Entry) → Meets trade J p h e → All (TakenRow (es ++ e ∷ [])) (taken_by trade p h e)
  taken_rows_by es h n (entries.Took moment id message) meets =
      All-cons (TakenRow (es ++ entries.Took moment id message ∷ [])) _ []
      (record {
        envelope = message;
        there = ap (body_at (es ++ entries.Took moment id message ∷ [])) n
            ∙ bound body_of (slice_get (es ++ entries.Took moment id message ∷ []) (length es)) (entries.Took moment id message) message
            (last_place es (entries.Took moment id message)) refl;
        text = meets.joint;
        recipients = refl;
      })
      (All-nil (TakenRow (es ++ entries.Took moment id message ∷ [])))
  taken_rows_by es h n (entries.Start number digest) meets = All-nil (TakenRow (es ++ entries.Start number digest ∷ []))
  taken_rows_by es h n e meets = All-nil (TakenRow (es ++ e ∷ []))

  fates_by : (h k : Half) → Longer h k → (e : Entry) → Meets trade J p h e → All (λ (fate : Fate). IsTakenPair trade p k fate.pair) (decided_by e)
  fates_by h k g (entries.Decided moment id recipient decision) meets =
      All-cons (λ (fate : Fate). IsTakenPair trade p k fate.pair) _ [] (taken_pair_stays h k g (pair_of id recipient) meets.own.0)
      (All-nil (λ (fate : Fate). IsTakenPair trade p k fate.pair))
  fates_by h k g (entries.Start number digest) meets = All-nil (λ (fate : Fate). IsTakenPair trade p k fate.pair)
  fates_by h k g e meets = All-nil (λ (fate : Fate). IsTakenPair trade p k fate.pair)

  abbrev AreItems : List Entry → Half → List Posted → Type 0
  AreItems es k items = All (λ (posted : Posted). ItemRow es k posted.entry posted.item) items

  one_item : (es : List Entry) (k : Half) (posted : Posted) → ItemRow es k posted.entry posted.item → AreItems es k (posted ∷ [])
  one_item es k posted is =
      All-cons (λ (q : Posted). ItemRow es k q.entry q.item) posted [] is (All-nil (λ (q : Posted). ItemRow es k q.entry q.item))

  placed_item : (es : List Entry) (h k : Half) → Longer h k → (id : Id) (recipient : Bytes) (decision : Decision) → IsTakenPair trade p h (pair_of id recipient)
      → AreItems es k (placed_by h id recipient decision)
  placed_item es h k g id recipient Placed is = one_item es k _ (is.row, taken_stays h k id is.row g is.taken)
  placed_item es h k g id recipient (Refused refusal) is = All-nil (λ (q : Posted). ItemRow es k q.entry q.item)

  learned_item : (es : List Entry) (k : Half) (entry : ℕ) (id : Id) (recipient : Bytes) (moment : ℕ) (decision : Decision) → LearnedItem es entry (pair_of id recipient)
      → (decision ≡ Refused refusals.Virus → VirusItem k (pair_of id recipient))
      → ItemRow es k entry (ReceiptItem (receipt_kind decision) id (Some recipient) moment)
  learned_item es k entry id recipient moment Placed is virus = is
  learned_item es k entry id recipient moment (Refused refusals.NoMailbox) is virus = is
  learned_item es k entry id recipient moment (Refused refusals.MailboxFull) is virus = is
  learned_item es k entry id recipient moment (Refused refusals.Virus) is virus = virus refl

  -- a virus that is learned of is known
  virus_learned : (h : Half) (moment : ℕ) (id : Id) (recipient : Bytes) (decision : Decision) (decided : ℕ) (message : Bytes)
      → IsOwnPair trade p h (pair_of id recipient) → known_of h (pair_of id recipient) ≡ None → decision ≡ Refused refusals.Virus
      → VirusItem (step trade p h (entries.Learned moment id recipient decision decided message)) (pair_of id recipient)
  unfolding step
  virus_learned h moment id recipient decision decided message own none so =
      let e = entries.Learned moment id recipient decision decided message
      in let row : Known = record { pair = pair_of id recipient; decision = decision; decided = decided; moment = moment }
      in record {
        own = own_pair_stays h (step trade p h e) (longer_step trade p h e) (pair_of id recipient) own;
        row = row;
        known = found_last (λ (known : Known). same_pair (pair_of id recipient) known.pair) h.known row none (pair_again (pair_of id recipient));
        so = so;
      }

  notice_item : (es : List Entry) (k : Half) (entry : ℕ) (pair : Pair) (now : ℕ) (due : Due) (mark : Mark) → marked pair now due ≡ Some mark → IsOwnPair trade p k pair
      → ItemRow es k entry (ReceiptItem (kind_of_due mark.due) mark.pair.id (Some mark.pair.recipient) mark.moment)
  notice_item es k entry pair now dues.Nothing mark e own = absurd (none-some mark e)
  notice_item es k entry pair now dues.Warning mark e own =
      subst (λ (m : Mark). ItemRow es k entry (ReceiptItem (kind_of_due m.due) m.pair.id (Some m.pair.recipient) m.moment)) (same_Some _ mark e) own
  notice_item es k entry pair now dues.Notice mark e own =
      subst (λ (m : Mark). ItemRow es k entry (ReceiptItem (kind_of_due m.due) m.pair.id (Some m.pair.recipient) m.moment)) (same_Some _ mark e) own
  notice_item es k entry pair now dues.LateNotice mark e own =
      subst (λ (m : Mark). ItemRow es k entry (ReceiptItem (kind_of_due m.due) m.pair.id (Some m.pair.recipient) m.moment)) (same_Some _ mark e) own

  notice_items : (es : List Entry) (h k : Half) (now : ℕ) → Longer h k → AreItems es k (map (notice_by h) (marks_from trade p h now 0 h.messages))
  notice_items es h k now g =
      All-map (λ (q : Posted). ItemRow es k q.entry q.item) (notice_by h) (marks_from trade p h now 0 h.messages)
      (All-weaker (Contains (marks_from trade p h now 0 h.messages))
      (λ (mark : Mark). ItemRow es k h.entries (ReceiptItem (kind_of_due mark.due) mark.pair.id (Some mark.pair.recipient) mark.moment))
      (λ mark c. of_mark es h k now g mark (marked_from trade p h now 0 h.messages mark c)) (marks_from trade p h now 0 h.messages)
      (All-contains_itself (marks_from trade p h now 0 h.messages)))
    where
      of_mark : (es : List Entry) (h k : Half) (now : ℕ) → Longer h k → (mark : Mark) → Marked trade p h now 0 h.messages mark
          → ItemRow es k h.entries (ReceiptItem (kind_of_due mark.due) mark.pair.id (Some mark.pair.recipient) mark.moment)
      of_mark es h k now g mark is =
          let pair = pair_of (id_of p (0 + is.place)) is.recipient
          in let z : 0 + is.place ≡ is.place = omega arith
          in notice_item es k h.entries pair now (due_of (clocked trade h now is.message.moment pair)) mark is.due
          (record {
            ours = refl;
            message = is.message;
            accepted = ap (accepted_at k) z ∙ accepted_stays h k is.place is.message g (bound accepted_of (slice_get h.messages is.place) is.row is.message is.there is.accepted);
            recipient = is.has;
          })

  anomaly_items : (es : List Entry) (k : Half) (h : Half) (moment : ℕ) (accounts : Path) → AnomalyRow es h.entries → AreItems es k (map (anomaly_by h moment) accounts)
  anomaly_items es k h moment accounts is =
      All-map (λ (q : Posted). ItemRow es k q.entry q.item) (anomaly_by h moment) accounts (λ i d l. is)

  account_of : (h : Half) (accounts : Path) → 0 < length accounts → All (λ account. IsTrue (has_room trade p h account)) accounts
      → (account : Bytes) × IsTrue (trade.is_account p account)
  account_of h [] l all = absurd (omega arith)
  account_of h (account ∷ accounts) l all = (account, (and_parts (trade.is_account p account) _ (all 0 account (omega arith))).0)

  accepted_new : (h : Half) (m : Message) (message : Accepted) → accepted_of m ≡ Some message
      → option_and_then accepted_of (slice_get (h.messages ++ m ∷ []) (length h.messages)) ≡ Some message
  accepted_new h m message e = bound accepted_of (slice_get (h.messages ++ m ∷ []) (length h.messages)) m message (last_place h.messages m) e

  items_rows_by : (es : List Entry) (h : Half) → h.entries ≡ length es → (e : Entry) → Meets trade J p h e
      → AreItems (es ++ e ∷ []) (step trade p h e) (items_by trade p h e)
  unfolding step
  items_rows_by es h n (entries.Accepted moment sender message) meets =
      let from : IsFrom trade p sender message = meets.own.2
      in let message_is : Accepted = record { moment = moment; sender = sender; facts = from.facts; entry = h.entries }
      in one_item (es ++ entries.Accepted moment sender message ∷ []) (step trade p h (entries.Accepted moment sender message)) _
      (record {
        ours = refl;
        message = message_is;
        accepted = accepted_new h _ message_is
            (ap (λ (o : Option Facts). accepted_of (record { moment = moment; sender = sender; facts = o; cause = None; path = []; entry = h.entries })) from.are);
      })
  items_rows_by es h n (entries.NotAccepted moment sender cause path message) meets =
      one_item (es ++ entries.NotAccepted moment sender cause path message ∷ []) (step trade p h (entries.NotAccepted moment sender cause path message)) _
      (record {
        moment = moment;
        sender = sender;
        cause = cause;
        path = path;
        message = message;
        there = ap (slice_get (es ++ entries.NotAccepted moment sender cause path message ∷ [])) n ∙ last_place es (entries.NotAccepted moment sender cause path message);
        ours = refl;
        number = meets.own.0;
        account = meets.own.1;
        some = meets.own.2;
        few = meets.own.3;
        in_range = meets.in_range;
      })
  items_rows_by es h n (entries.Decided moment id recipient decision) meets =
      let e = entries.Decided moment id recipient decision
      in placed_item (es ++ e ∷ []) h (step trade p h e) (longer_step trade p h e) id recipient decision meets.own.0
  items_rows_by es h n (entries.Learned moment id recipient decision decided message) meets =
      let e = entries.Learned moment id recipient decision decided message
      in one_item (es ++ e ∷ []) (step trade p h e) _
      (learned_item (es ++ e ∷ []) (step trade p h e) h.entries id recipient moment decision
      (record {
        receipt = message;
        there = ap (body_at (es ++ e ∷ [])) n ∙ bound body_of (slice_get (es ++ e ∷ []) (length es)) e message (last_place es e) refl;
        text = meets.joint.0;
      })
      (virus_learned h moment id recipient decision decided message meets.own.0 meets.own.1))
  items_rows_by es h n (entries.Ticked moment) meets =
      let e = entries.Ticked moment
      in notice_items (es ++ e ∷ []) h (step trade p h e) moment (longer_step trade p h e)
  items_rows_by es h n (entries.Anomaly moment accounts message) meets =
      let e = entries.Anomaly moment accounts message
      in let account = account_of h accounts meets.own.0 meets.own.2
      in anomaly_items (es ++ e ∷ []) (step trade p h e) h moment accounts
      (record {
        message = message;
        there = ap (body_at (es ++ e ∷ [])) n ∙ bound body_of (slice_get (es ++ e ∷ []) (length es)) e message (last_place es e) refl;
        account = account.0;
        is = account.1;
      })
  items_rows_by es h n (entries.Start number digest) meets = All-nil (λ (q : Posted). ItemRow (es ++ entries.Start number digest ∷ []) (step trade p h (entries.Start number digest)) q.entry q.item)
  items_rows_by es h n e meets = All-nil (λ (q : Posted). ItemRow (es ++ e ∷ []) (step trade p h e) q.entry q.item)

  few_by : (h : Half) → length h.messages ≤ MESSAGES → (e : Entry) → Own trade p h e → length (h.messages ++ messages_by trade p h e) ≤ MESSAGES
  few_by h l (entries.Accepted moment sender message) own = let n = length-append h.messages (messages_by trade p h (entries.Accepted moment sender message)) in omega (arith, n, own.0)
  few_by h l (entries.NotAccepted moment sender cause path message) own = let n = length-append h.messages (messages_by trade p h (entries.NotAccepted moment sender cause path message)) in omega (arith, n, own.0)
  few_by h l (entries.Start number digest) own = subst (λ (ms : List Message). length ms ≤ MESSAGES) (sym (append-nil h.messages)) l
  few_by h l e own = subst (λ (ms : List Message). length ms ≤ MESSAGES) (sym (append-nil h.messages)) l

  counted_by : (es : List Entry) (h : Half) (e : Entry) → h.entries ≡ length es → h.entries + 1 ≡ length (es ++ e ∷ [])
  counted_by es h e n = ap (λ k. k + 1) n ∙ sym (one_longer es e)

  backed_step : (es : List Entry) (h : Half) (e : Entry) → Backed es h → Meets trade J p h e → Backed (es ++ e ∷ []) (step trade p h e)
  unfolding step
  backed_step es h e b meets =
      let g : GoesOnAs es (es ++ e ∷ []) = (e ∷ [], refl)
      in let k = step trade p h e
      in let l = longer_step trade p h e
      in record {
        count = counted_by es h e b.count;
        few = few_by h b.few e meets.own;
        sent = All-append (SentRow (es ++ e ∷ [])) h.messages (messages_by trade p h e)
            (All-weaker (SentRow es) (SentRow (es ++ e ∷ [])) (sent_stays es (es ++ e ∷ []) g) h.messages b.sent) (sent_by es h b.count e meets);
        taken = All-append (TakenRow (es ++ e ∷ [])) h.taken (taken_by trade p h e)
            (All-weaker (TakenRow es) (TakenRow (es ++ e ∷ [])) (taken_row_stays es (es ++ e ∷ []) g) h.taken b.taken) (taken_rows_by es h b.count e meets);
        decided = All-append (λ (fate : Fate). IsTakenPair trade p k fate.pair) h.decided (decided_by e)
            (All-weaker (λ (fate : Fate). IsTakenPair trade p h fate.pair) (λ (fate : Fate). IsTakenPair trade p k fate.pair)
            (λ fate is. taken_pair_stays h k l fate.pair is) h.decided b.decided)
            (fates_by h k l e meets);
        items = All-append (λ (posted : Posted). ItemRow (es ++ e ∷ []) k posted.entry posted.item) h.items (items_by trade p h e)
            (All-weaker (λ (posted : Posted). ItemRow es h posted.entry posted.item) (λ (posted : Posted). ItemRow (es ++ e ∷ []) k posted.entry posted.item)
            (λ posted is. item_stays es (es ++ e ∷ []) g h k l posted.entry posted.item is) h.items b.items)
            (items_rows_by es h b.count e meets);
      }

  backed_along : (front : List Entry) (h : Half) (rest : List Entry) → Backed front h → Follows trade J p h rest → Backed (front ++ rest) (fold (step trade p) h rest)
  backed_along front h [] b f = subst (λ (es : List Entry). Backed es h) (sym (append-nil front)) b
  backed_along front h (e ∷ rest) b f =
      subst (λ (es : List Entry). Backed es (fold (step trade p) h (e ∷ rest))) (append_assoc front (e ∷ []) rest)
      (backed_along (front ++ e ∷ []) (step trade p h e) rest (backed_step front h e b f.0) f.1)

  backed_start : Backed [] empty
  backed_start = record {
    count = refl;
    few = omega arith;
    sent = All-nil (SentRow []);
    taken = All-nil (TakenRow []);
    decided = All-nil (λ (fate : Fate). IsTakenPair trade p empty fate.pair);
    items = All-nil (λ (posted : Posted). ItemRow [] empty posted.entry posted.item);
  }

  pub backed : Fit trade J → Backed (J p) (ledger trade J p)
  unfolding ledger half
  backed fit = backed_along [] empty (J p) backed_start (fit.follows p)
