-- In any journal each row of the half to which it comes has its entry: what an item is composed of stands there, and so does
-- the original of an own message. In journals that are Fit an envelope that was taken is seen as one of its message.
use Rattle.std.proofs.Common.{◌≡◌, ℕ, ◌<◌, zero, suc, Bool, true, false, List, [], ◌∷◌, ◌++◌, cond, length, map, refl, ap, sym, subst, ◌∙◌, append_assoc, arith}
use Rattle.std.proofs.Common.{Option, Some, None}
use Rattle.std.specs.Prelude.{All, Contains, IsSome, filter, fold, if◌then◌else◌, nat_lt, slice_get, ◌&&◌, ◌||◌, ◌==◌}
use Rattle.std.specs.List.{find, list_any}
use Rattle.std.specs.Option.{option_and_then, option_map}
use Rattle.std.specs.Str.{bytes_eq}
use Rattle.std.proofs.lemmas.Bool.{and_from, eq-eqb, lt-ltb}
use Rattle.std.proofs.lemmas.Cmp.{nat_list_eq_equiv}
use Rattle.std.proofs.lemmas.List.{append-nil, length-append}
use Rattle.std.proofs.lemmas.List.Elements.{All-append, All-cons, All-head, All-map, All-nil, All-tail, All-weaker}
use Rattle.std.proofs.lemmas.Map.Views.{list_any-from_Contains}
use Rattle.std.proofs.lemmas.Option.{get_or_from_slice_get, none-some, same_Some, slice_get_within}
use Rattle.std.proofs.lemmas.Slice.Eq.{bytes_eq-Decides}
use Rattle.pec_types.specs.Bytes.{Bytes, Path}
use Rattle.pec_types.specs.Message.{Id}
use Rattle.pec_types.specs.declared.letters.Letter.{Letter}
use Rattle.pec_types.specs.declared.letters.Letter.TheVariants as letters
use Rattle.pec_types.specs.declared.limits.Due.{Due}
use Rattle.pec_types.specs.declared.limits.Due.TheVariants as dues
use Rattle.pec_types.specs.declared.messages.Cause.{Cause}
use Rattle.pec_types.specs.declared.messages.Decision.{Decision}
use Rattle.pec_types.specs.declared.messages.Decision.TheVariants.{Placed, Refused}
use Rattle.pec_types.specs.declared.messages.Facts.{Facts}
use Rattle.pec_types.specs.declared.messages.Recipient.{Recipient}
use Rattle.pec_types.specs.declared.messages.Refusal.TheVariants as refusals
use Rattle.pec_types.specs.declared.receipts.Kind.{Kind}
use Rattle.pec_types.specs.declared.receipts.Kind.TheVariants as kinds
use Rattle.pec_records.specs.declared.entries.Entry.{Entry}
use Rattle.pec_records.specs.declared.entries.Entry.TheVariants as entries
use Rattle.pec_ledger.specs.Along.{AllAlong}
use Rattle.pec_ledger.specs.Half.{AnomalyItem, EnvelopeItem, Fate, Half, Item, Known, Message, Posted, ReceiptItem, Taken, empty}
use Rattle.pec_ledger.specs.Items.{accepted_body, composed, item_text, original_at, refusal_by, taken_body, text_by}
use Rattle.pec_ledger.specs.Ledger.{Fit, IsEnvelopeText, Journals, body_at, body_of, ledger}
use Rattle.pec_ledger.specs.Lookups.{Accepted, accepted_at, accepted_of, addresses_of, at_home, decided_of, is_home, known_of, receipt_kind, taken_of}
use Rattle.pec_ledger.specs.Marks.{marks_from}
use Rattle.pec_ledger.specs.Own.{IsTakenPair}
use Rattle.pec_ledger.specs.Pairs.{Pair, pair_of, same_id}
use Rattle.pec_ledger.specs.Steps.{anomaly_by, half, items_by, kind_of_due, messages_by, notice_by, placed_by, step, taken_by}
use Rattle.pec_ledger.specs.Trade.{SeenEnvelope, Trade}
use Rattle.pec_plays.specs.Frames.{original_in}
use Rattle.pec_shelf.specs.Prepared.{AreSteps, IsStep}
use Rattle.pec_outgoing.specs.Entries.{is_of_row, learned_in, took_in}
use Rattle.pec_outgoing.specs.ItemNeeds.{AnomalyWanted, EnvelopeWanted, IsShown, OutcomeWanted, ReceiptWanted, RefusalWanted, ServesItem, Wanted}
use Rattle.pec_outgoing.specs.ItemNeeds.{item_wanted, needed_item, number_wanted, posted_wanted}
use Rattle.pec_outgoing.specs.Needs.{AckAsked, Asked, ChargeAsked, EnvelopeAsked, Holds, HoldsMessage, OutcomeAsked}
use Rattle.pec_outgoing.specs.Needs.{asked_by, enveloped_in, is_named_in, needed, number_of}
use Rattle.pec_provider.specs.Reading.{EnvelopeIsChanged, IsNotOf, LetterIsChanged, PostedIsChanged}

-- ---- lists and options

found : {X : Type 0} (P : X → Type 0) (xs : List X) (k : ℕ) (x : X) → All P xs → slice_get xs k ≡ Some x → P x
found P xs k x all e = subst P (get_or_from_slice_get xs k x x e) (all k x (slice_get_within xs k x e))

-- what is so of each item is so of one of them
found_among : {X : Type 0} (P : X → Type 0) (xs : List X) (x : X) → All P xs → Contains xs x → P x
found_among P xs x all here = subst P here.2 (all here.0 x here.1)

-- an item at a place is one of them
pub among : {X : Type 0} (xs : List X) (k : ℕ) (x : X) → slice_get xs k ≡ Some x → Contains xs x
among xs k x e = (k, slice_get_within xs k x e, get_or_from_slice_get xs k x x e)

stays : {X : Type 0} (front more : List X) (k : ℕ) (x : X) → slice_get front k ≡ Some x
    → slice_get (front ++ more) k ≡ Some x
stays [] more k x e = absurd (none-some x e)
stays (y ∷ front) more zero x e = e
stays (y ∷ front) more (suc k) x e = stays front more k x e

last_place : {X : Type 0} (front : List X) (x : X) → slice_get (front ++ x ∷ []) (length front) ≡ Some x
last_place [] x = refl
last_place (y ∷ front) x = last_place front x

-- what was mapped
mapped : {X Y : Type 0} (f : X → Y) (o : Option X) (y : Y) → option_map f o ≡ Some y → (x : X) × (o ≡ Some x) × (f x ≡ y)
mapped f None y e = absurd (none-some y e)
mapped f (Some x) y e = (x, refl, same_Some (f x) y e)

-- what was found by way of another
pub bound : {X Y : Type 0} (f : X → Option Y) (o : Option X) (y : Y) → option_and_then f o ≡ Some y → (x : X) × (o ≡ Some x) × (f x ≡ Some y)
bound f None y e = absurd (none-some y e)
bound f (Some x) y e = (x, refl, e)

then_so : {X Y : Type 0} (f : X → Option Y) (o : Option X) (x : X) (y : Y) → o ≡ Some x → f x ≡ Some y → option_and_then f o ≡ Some y
then_so f o x y e g = ap (option_and_then f) e ∙ g

some_by : {X : Type 0} (o : Option X) (x : X) → o ≡ Some x → IsSome o
some_by {X} o x e = subst (λ (p : Option X). IsSome p) (sym e) refl

-- so is what is found by a test
found_by : {X : Type 0} (P : X → Type 0) (test : X → Bool) (xs : List X) (x : X) → All P xs → find test xs ≡ Some x → P x
found_by P test [] x all e = absurd (none-some x e)
found_by P test (y ∷ xs) x all e = by_test (test y) e (found_by P test xs x (All-tail P y xs all))
  where
    by_test : (b : Bool) → (if b then Some y else find test xs) ≡ Some x → (find test xs ≡ Some x → P x) → P x
    by_test true e more = subst P (same_Some y x e) (All-head P y xs all)
    by_test false e more = more e

-- what some item passes that is left, some item of all passes
or_any : (b c d : Bool) → (b || c) ≡ true → (c ≡ true → d ≡ true) → (b || d) ≡ true
or_any true c d e more = refl
or_any false c d e more = more e

or_right : (b c : Bool) → c ≡ true → (b || c) ≡ true
or_right true c e = refl
or_right false c e = e

any_filtered : {X : Type 0} (test keeps : X → Bool) (xs : List X) → list_any test (filter keeps xs) ≡ true
    → list_any test xs ≡ true
any_filtered test keeps [] e = e
any_filtered test keeps (x ∷ xs) e = by_test (keeps x) e (any_filtered test keeps xs)
  where
    by_test : (b : Bool) → list_any test (cond b (x ∷ filter keeps xs) (filter keeps xs)) ≡ true
        → (list_any test (filter keeps xs) ≡ true → list_any test xs ≡ true) → (test x || list_any test xs) ≡ true
    by_test true e more = or_any (test x) (list_any test (filter keeps xs)) (list_any test xs) e more
    by_test false e more = or_right (test x) (list_any test xs) (more e)

-- and what is passed by what an item is mapped to, the item passes so
any_mapped : {X Y : Type 0} (test : Y → Bool) (f : X → Y) (xs : List X) → list_any test (map f xs) ≡ true
    → list_any (λ (x : X). test (f x)) xs ≡ true
any_mapped test f [] e = e
any_mapped {X} test f (x ∷ xs) e =
    or_any (test (f x)) (list_any test (map f xs)) (list_any (λ (y : X). test (f y)) xs) e (any_mapped test f xs)

-- where a test is true its first branch is taken
chosen_so : {X : Type 0} (test : Bool) (one other : X) → test ≡ true → (if test then one else other) ≡ one
chosen_so test one other e = rw e refl

pub id_again : (id : Id) → same_id id id ≡ true
id_again id =
    and_from (id.provider == id.provider) (id.number == id.number) (eq-eqb id.provider id.provider refl)
    (eq-eqb id.number id.number refl)

bytes_again : (bytes : Bytes) → bytes_eq bytes bytes ≡ true
bytes_again bytes = (bytes_eq-Decides bytes bytes).1 refl

-- ---- rows and their entries

-- an own message was accepted by its entry, with the facts of its row
pub record SentRow (trade : Trade) (journal : List Entry) (message : Message) : Type 0 where
  pub original : Bytes
  pub there : slice_get journal message.entry ≡ Some (entries.Accepted message.moment message.sender original)
  pub facts : trade.facts original ≡ message.facts

-- so it is where it was accepted
abbrev MessageRow : Trade → List Entry → Message → Type 0
MessageRow trade journal message = (facts : Facts) → message.facts ≡ Some facts → SentRow trade journal message

-- the outcome for a recipient was learned by this entry
pub record LearnedRow (journal : List Entry) (entry : ℕ) (id : Id) (recipient : Option Bytes) : Type 0 where
  pub address : Bytes
  pub is : recipient ≡ Some address
  pub moment : ℕ
  pub decision : Decision
  pub decided : ℕ
  pub message : Bytes
  pub there : slice_get journal entry ≡ Some (entries.Learned moment id address decision decided message)

-- a message of this id wasn't accepted by this entry, at the moment and from the sender of its row
pub record RefusedRow (journal : List Entry) (messages : List Message) (entry : ℕ) (id : Id) : Type 0 where
  pub moment : ℕ
  pub sender : Bytes
  pub cause : Cause
  pub path : Path
  pub message : Bytes
  pub there : slice_get journal entry ≡ Some (entries.NotAccepted moment sender cause path message)
  pub row : Message
  pub has : slice_get messages id.number ≡ Some row
  pub moment_is : row.moment ≡ moment
  pub sender_is : row.sender ≡ sender

-- a message was taken by this entry, for those recipients of its envelope that are at home here
pub record TakenRow (trade : Trade) (me : ℕ) (journal : List Entry) (row : Taken) : Type 0 where
  pub moment : ℕ
  pub id : Id
  pub envelope : Bytes
  pub there : slice_get journal row.entry ≡ Some (entries.Took moment id envelope)
  pub recipients : row.recipients ≡ at_home trade me (trade.envelope_recipients envelope)

-- an anomaly came by this entry
pub record AnomalyRow (journal : List Entry) (entry : ℕ) : Type 0 where
  pub moment : ℕ
  pub accounts : Path
  pub message : Bytes
  pub there : slice_get journal entry ≡ Some (entries.Anomaly moment accounts message)

-- what the entry by which an item was placed holds for it
abbrev ItemRow : List Entry → List Message → ℕ → Item → Type 0
ItemRow journal messages entry (ReceiptItem kinds.Delivery id recipient moment) = LearnedRow journal entry id recipient
ItemRow journal messages entry (ReceiptItem (kinds.DeliveryError refusals.NoMailbox) id recipient moment) =
    LearnedRow journal entry id recipient
ItemRow journal messages entry (ReceiptItem (kinds.DeliveryError refusals.MailboxFull) id recipient moment) =
    LearnedRow journal entry id recipient
ItemRow journal messages entry (ReceiptItem (kinds.NonAcceptance cause) id recipient moment) =
    RefusedRow journal messages entry id
ItemRow journal messages entry (AnomalyItem moment) = AnomalyRow journal entry
ItemRow journal messages entry _ = Unit {0}

-- ---- with more entries behind them

learned_stays : (front more : List Entry) (entry : ℕ) (id : Id) (recipient : Option Bytes) → LearnedRow front entry id recipient
    → LearnedRow (front ++ more) entry id recipient
learned_stays front more entry id recipient row = record {
  address = row.address;
  is = row.is;
  moment = row.moment;
  decision = row.decision;
  decided = row.decided;
  message = row.message;
  there = stays front more entry (entries.Learned row.moment id row.address row.decision row.decided row.message) row.there;
}

item_stays : (front more : List Entry) (messages further : List Message) (entry : ℕ) (item : Item)
    → ItemRow front messages entry item → ItemRow (front ++ more) (messages ++ further) entry item
item_stays front more messages further entry (EnvelopeItem id) row = tt
item_stays front more messages further entry (ReceiptItem kinds.Acceptance id recipient moment) row = tt
item_stays front more messages further entry (ReceiptItem (kinds.NonAcceptance cause) id recipient now) row = record {
  moment = row.moment;
  sender = row.sender;
  cause = row.cause;
  path = row.path;
  message = row.message;
  there = stays front more entry (entries.NotAccepted row.moment row.sender row.cause row.path row.message) row.there;
  row = row.row;
  has = stays messages further id.number row.row row.has;
  moment_is = row.moment_is;
  sender_is = row.sender_is;
}
item_stays front more messages further entry (ReceiptItem kinds.Charge id recipient moment) row = tt
item_stays front more messages further entry (ReceiptItem kinds.Delivery id recipient moment) row =
    learned_stays front more entry id recipient row
item_stays front more messages further entry (ReceiptItem (kinds.DeliveryError refusals.NoMailbox) id recipient moment)
    row =
    learned_stays front more entry id recipient row
item_stays front more messages further entry (ReceiptItem (kinds.DeliveryError refusals.MailboxFull) id recipient
    moment) row =
    learned_stays front more entry id recipient row
item_stays front more messages further entry (ReceiptItem (kinds.DeliveryError refusals.Virus) id recipient moment)
    row = tt
item_stays front more messages further entry (ReceiptItem kinds.VirusFound id recipient moment) row = tt
item_stays front more messages further entry (ReceiptItem kinds.Warning id recipient moment) row = tt
item_stays front more messages further entry (ReceiptItem kinds.Notice id recipient moment) row = tt
item_stays front more messages further entry (ReceiptItem kinds.LateNotice id recipient moment) row = tt
item_stays front more messages further entry (ReceiptItem kinds.Ack id recipient moment) row = tt
item_stays front more messages further entry (AnomalyItem moment) row = record {
  moment = row.moment;
  accounts = row.accounts;
  message = row.message;
  there = stays front more entry (entries.Anomaly row.moment row.accounts row.message) row.there;
}

taken_stays : (trade : Trade) (me : ℕ) (front more : List Entry) (row : Taken) → TakenRow trade me front row
    → TakenRow trade me (front ++ more) row
taken_stays trade me front more row is = record {
  moment = is.moment;
  id = is.id;
  envelope = is.envelope;
  there = stays front more row.entry (entries.Took is.moment is.id is.envelope) is.there;
  recipients = is.recipients;
}

message_stays : (trade : Trade) (front more : List Entry) (message : Message) → MessageRow trade front message
    → MessageRow trade (front ++ more) message
message_stays trade front more message row = λ facts e.
    let sent = row facts e in record {
      original = sent.original;
      there = stays front more message.entry (entries.Accepted message.moment message.sender sent.original) sent.there;
      facts = sent.facts;
    }

-- ---- what an entry adds

abbrev HasItemRow : List Entry → List Message → Posted → Type 0
HasItemRow journal messages posted = ItemRow journal messages posted.entry posted.item

module _ (trade : Trade) (me : ℕ) where
  module _ (front : List Entry) (h : Half) (count : h.entries ≡ length front) where
    -- it stands where its rows say
    here : (entry : Entry) → slice_get (front ++ entry ∷ []) h.entries ≡ Some entry
    here entry = ap (slice_get (front ++ entry ∷ [])) count ∙ last_place front entry

    message_rows : (entry : Entry) → All (MessageRow trade (front ++ entry ∷ [])) (messages_by trade me h entry)
    message_rows (entries.Accepted moment sender message) =
        All-cons (MessageRow trade (front ++ entries.Accepted moment sender message ∷ []))
        (record {
          moment = moment;
          sender = sender;
          facts = trade.facts message;
          cause = None;
          path = [];
          entry = h.entries;
        }) []
        (λ facts e. record { original = message; there = here (entries.Accepted moment sender message); facts = refl })
        (All-nil (MessageRow trade (front ++ entries.Accepted moment sender message ∷ [])))
    message_rows (entries.NotAccepted moment sender cause path message) =
        All-cons (MessageRow trade (front ++ entries.NotAccepted moment sender cause path message ∷ []))
        (record { moment = moment; sender = sender; facts = None; cause = Some cause; path = path; entry = h.entries }) []
        (λ facts e. absurd (none-some facts e))
        (All-nil (MessageRow trade (front ++ entries.NotAccepted moment sender cause path message ∷ [])))
    message_rows (entries.Start provider digest) = All-nil (MessageRow trade (front ++ entries.Start provider digest ∷ []))
    message_rows (entries.Took moment id message) = All-nil (MessageRow trade (front ++ entries.Took moment id message ∷ []))
    message_rows (entries.Decided moment id recipient decision) =
        All-nil (MessageRow trade (front ++ entries.Decided moment id recipient decision ∷ []))
    message_rows (entries.Charged moment id by) = All-nil (MessageRow trade (front ++ entries.Charged moment id by ∷ []))
    message_rows (entries.Learned moment id recipient decision decided message) =
        All-nil (MessageRow trade (front ++ entries.Learned moment id recipient decision decided message ∷ []))
    message_rows (entries.Acked moment id recipient) =
        All-nil (MessageRow trade (front ++ entries.Acked moment id recipient ∷ []))
    message_rows (entries.Ticked moment) = All-nil (MessageRow trade (front ++ entries.Ticked moment ∷ []))
    message_rows (entries.Anomaly moment accounts message) =
        All-nil (MessageRow trade (front ++ entries.Anomaly moment accounts message ∷ []))
    message_rows (entries.StartTwo provider digest) =
        All-nil (MessageRow trade (front ++ entries.StartTwo provider digest ∷ []))
    message_rows (entries.Upgraded moment) = All-nil (MessageRow trade (front ++ entries.Upgraded moment ∷ []))
    message_rows (entries.Archived moment account place) =
        All-nil (MessageRow trade (front ++ entries.Archived moment account place ∷ []))

    taken_rows : (entry : Entry) → All (TakenRow trade me (front ++ entry ∷ [])) (taken_by trade me h entry)
    taken_rows (entries.Took moment id message) =
        All-cons (TakenRow trade me (front ++ entries.Took moment id message ∷ []))
        (record {
          id = id;
          moment = moment;
          recipients = at_home trade me (trade.envelope_recipients message);
          entry = h.entries;
        }) []
        (record {
          moment = moment;
          id = id;
          envelope = message;
          there = here (entries.Took moment id message);
          recipients = refl;
        })
        (All-nil (TakenRow trade me (front ++ entries.Took moment id message ∷ [])))
    taken_rows (entries.Start provider digest) =
        All-nil (TakenRow trade me (front ++ entries.Start provider digest ∷ []))
    taken_rows (entries.Accepted moment sender message) =
        All-nil (TakenRow trade me (front ++ entries.Accepted moment sender message ∷ []))
    taken_rows (entries.NotAccepted moment sender cause path message) =
        All-nil (TakenRow trade me (front ++ entries.NotAccepted moment sender cause path message ∷ []))
    taken_rows (entries.Decided moment id recipient decision) =
        All-nil (TakenRow trade me (front ++ entries.Decided moment id recipient decision ∷ []))
    taken_rows (entries.Charged moment id by) = All-nil (TakenRow trade me (front ++ entries.Charged moment id by ∷ []))
    taken_rows (entries.Learned moment id recipient decision decided message) =
        All-nil (TakenRow trade me (front ++ entries.Learned moment id recipient decision decided message ∷ []))
    taken_rows (entries.Acked moment id recipient) =
        All-nil (TakenRow trade me (front ++ entries.Acked moment id recipient ∷ []))
    taken_rows (entries.Ticked moment) = All-nil (TakenRow trade me (front ++ entries.Ticked moment ∷ []))
    taken_rows (entries.Anomaly moment accounts message) =
        All-nil (TakenRow trade me (front ++ entries.Anomaly moment accounts message ∷ []))
    taken_rows (entries.StartTwo provider digest) =
        All-nil (TakenRow trade me (front ++ entries.StartTwo provider digest ∷ []))
    taken_rows (entries.Upgraded moment) = All-nil (TakenRow trade me (front ++ entries.Upgraded moment ∷ []))
    taken_rows (entries.Archived moment account place) =
        All-nil (TakenRow trade me (front ++ entries.Archived moment account place ∷ []))

    one_item : (journal : List Entry) (messages : List Message) (posted : Posted) → HasItemRow journal messages posted
        → All (HasItemRow journal messages) (posted ∷ [])
    one_item journal messages posted row =
        All-cons (HasItemRow journal messages) posted [] row (All-nil (HasItemRow journal messages))

    -- the messages behind an entry
    abbrev messages_now : Entry → List Message
    messages_now entry = h.messages ++ messages_by trade me h entry

    placed_rows : (journal : List Entry) (messages : List Message) (id : Id) (recipient : Bytes) (decision : Decision)
        → All (HasItemRow journal messages) (placed_by h id recipient decision)
    placed_rows journal messages id recipient Placed =
        one_item journal messages (record { account = recipient; item = EnvelopeItem id; entry = h.entries }) tt
    placed_rows journal messages id recipient (Refused refusal) = All-nil (HasItemRow journal messages)

    outcome_row : (journal : List Entry) (messages : List Message) (id : Id) (recipient : Bytes) (moment : ℕ)
        (decision : Decision)
        → LearnedRow journal h.entries id (Some recipient)
        → ItemRow journal messages h.entries (ReceiptItem (receipt_kind decision) id (Some recipient) moment)
    outcome_row journal messages id recipient moment Placed row = row
    outcome_row journal messages id recipient moment (Refused refusals.NoMailbox) row = row
    outcome_row journal messages id recipient moment (Refused refusals.MailboxFull) row = row
    outcome_row journal messages id recipient moment (Refused refusals.Virus) row = tt

    notice_row : (journal : List Entry) (messages : List Message) (due : Due) (id : Id) (recipient : Option Bytes)
        (moment : ℕ)
        → ItemRow journal messages h.entries (ReceiptItem (kind_of_due due) id recipient moment)
    notice_row journal messages dues.Nothing id recipient moment = tt
    notice_row journal messages dues.Warning id recipient moment = tt
    notice_row journal messages dues.Notice id recipient moment = tt
    notice_row journal messages dues.LateNotice id recipient moment = tt

    item_rows : (entry : Entry) → All (HasItemRow (front ++ entry ∷ []) (messages_now entry))
        (items_by trade me h entry)
    item_rows (entries.Accepted moment sender message) =
        one_item (front ++ entries.Accepted moment sender message ∷ [])
        (messages_now (entries.Accepted moment sender message)) _ tt
    item_rows (entries.NotAccepted moment sender cause path message) =
        one_item (front ++ entries.NotAccepted moment sender cause path message ∷ [])
        (messages_now (entries.NotAccepted moment sender cause path message)) _
        (record {
          moment = moment;
          sender = sender;
          cause = cause;
          path = path;
          message = message;
          there = here (entries.NotAccepted moment sender cause path message);
          row = record {
            moment = moment;
            sender = sender;
            facts = None;
            cause = Some cause;
            path = path;
            entry = h.entries;
          };
          has = last_place h.messages _;
          moment_is = refl;
          sender_is = refl;
        })
    item_rows (entries.Decided moment id recipient decision) =
        placed_rows (front ++ entries.Decided moment id recipient decision ∷ [])
        (messages_now (entries.Decided moment id recipient decision)) id recipient decision
    item_rows (entries.Learned moment id recipient decision decided message) =
        one_item (front ++ entries.Learned moment id recipient decision decided message ∷ [])
        (messages_now (entries.Learned moment id recipient decision decided message)) _
        (outcome_row (front ++ entries.Learned moment id recipient decision decided message ∷ [])
        (messages_now (entries.Learned moment id recipient decision decided message)) id recipient moment
        decision
        (record {
          address = recipient;
          is = refl;
          moment = moment;
          decision = decision;
          decided = decided;
          message = message;
          there = here (entries.Learned moment id recipient decision decided message);
        }))
    item_rows (entries.Ticked moment) =
        All-map (HasItemRow (front ++ entries.Ticked moment ∷ []) (messages_now (entries.Ticked moment))) (notice_by h)
        (marks_from trade me h moment 0 h.messages)
        (λ k d l. notice_row (front ++ entries.Ticked moment ∷ []) (messages_now (entries.Ticked moment)) _ _ _ _)
    item_rows (entries.Anomaly moment accounts message) =
        All-map (HasItemRow (front ++ entries.Anomaly moment accounts message ∷ [])
        (messages_now (entries.Anomaly moment accounts message))) (anomaly_by h moment) accounts
        (λ k d l. record {
          moment = moment;
          accounts = accounts;
          message = message;
          there = here (entries.Anomaly moment accounts message);
        })
    item_rows (entries.Start provider digest) =
        All-nil (HasItemRow (front ++ entries.Start provider digest ∷ [])
        (messages_now (entries.Start provider digest)))
    item_rows (entries.Took moment id message) =
        All-nil (HasItemRow (front ++ entries.Took moment id message ∷ [])
        (messages_now (entries.Took moment id message)))
    item_rows (entries.Charged moment id by) =
        All-nil (HasItemRow (front ++ entries.Charged moment id by ∷ []) (messages_now (entries.Charged moment id by)))
    item_rows (entries.Acked moment id recipient) =
        All-nil (HasItemRow (front ++ entries.Acked moment id recipient ∷ [])
        (messages_now (entries.Acked moment id recipient)))
    item_rows (entries.StartTwo provider digest) =
        All-nil (HasItemRow (front ++ entries.StartTwo provider digest ∷ [])
        (messages_now (entries.StartTwo provider digest)))
    item_rows (entries.Upgraded moment) =
        All-nil (HasItemRow (front ++ entries.Upgraded moment ∷ []) (messages_now (entries.Upgraded moment)))
    item_rows (entries.Archived moment account place) =
        All-nil (HasItemRow (front ++ entries.Archived moment account place ∷ [])
        (messages_now (entries.Archived moment account place)))

  -- ---- all entries

  -- each row has its entry
  pub record HaveEntries (journal : List Entry) (h : Half) : Type 0 where
    pub count : h.entries ≡ length journal
    pub messages : All (MessageRow trade journal) h.messages
    pub taken : All (TakenRow trade me journal) h.taken
    pub items : All (HasItemRow journal h.messages) h.items

  one_more : (front : List Entry) (h : Half) (entry : Entry) → HaveEntries front h
      → HaveEntries (front ++ entry ∷ []) (step trade me h entry)
  unfolding step
  one_more front h entry have =
      let more = entry ∷ [] in record {
        count = let c = have.count in let l = length-append front (entry ∷ []) in omega (arith, c, l);
        messages = All-append (MessageRow trade (front ++ more)) h.messages (messages_by trade me h entry)
            (All-weaker (MessageRow trade front) (MessageRow trade (front ++ more))
            (λ message row. message_stays trade front more message row) h.messages have.messages)
            (message_rows front h have.count entry);
        taken = All-append (TakenRow trade me (front ++ more)) h.taken (taken_by trade me h entry)
            (All-weaker (TakenRow trade me front) (TakenRow trade me (front ++ more))
            (λ row is. taken_stays trade me front more row is) h.taken have.taken)
            (taken_rows front h have.count entry);
        items = All-append (HasItemRow (front ++ more) (messages_now front h have.count entry)) h.items
            (items_by trade me h entry)
            (All-weaker (HasItemRow front h.messages) (HasItemRow (front ++ more)
            (messages_now front h have.count entry))
            (λ posted row. item_stays front more h.messages (messages_by trade me h entry) posted.entry posted.item row)
            h.items have.items)
            (item_rows front h have.count entry);
      }

  all_along : (front : List Entry) (h : Half) (rest : List Entry) → HaveEntries front h
      → HaveEntries (front ++ rest) (fold (step trade me) h rest)
  all_along front h [] have = subst (λ (l : List Entry). HaveEntries l h) (sym (append-nil front)) have
  all_along front h (entry ∷ rest) have =
      subst (λ (l : List Entry). HaveEntries l (fold (step trade me) (step trade me h entry) rest))
      (append_assoc front (entry ∷ []) rest)
      (all_along (front ++ entry ∷ []) (step trade me h entry) rest (one_more front h entry have))

  pub have_entries : (journal : List Entry) → HaveEntries journal (half trade me journal)
  unfolding half
  have_entries journal = all_along [] empty journal (record {
    count = refl;
    messages = All-nil (MessageRow trade []);
    taken = All-nil (TakenRow trade me []);
    items = All-nil (HasItemRow [] []);
  })

  -- ---- what is composed of an entry finds it

  -- each message that was taken has its envelope at its entry
  abbrev pub HaveEnvelope : Type 0
  HaveEnvelope = (trade : Trade) (provider : ℕ) (journal : List Entry) (id : Id) (row : Taken)
      → taken_of (half trade provider journal) id ≡ Some row
      → (moment : ℕ) × (envelope : Bytes) × (slice_get journal row.entry ≡ Some (entries.Took moment id envelope))

  module _ (journal : List Entry) where
    -- the entry of an own message, with its original
    pub record AcceptedThere (row : Accepted) : Type 0 where
      pub entry : Entry
      pub there : slice_get journal row.entry ≡ Some entry
      pub original : Bytes
      pub holds : HoldsMessage trade row entry original
      pub body : body_at journal row.entry ≡ Some original

    accepted_by : (message : Message) → MessageRow trade journal message → (row : Accepted) → accepted_of message ≡ Some row
        → AcceptedThere row
    accepted_by message sent row e =
        let facts = mapped _ message.facts row e in
        let own = sent facts.0 facts.1 in
        let entry = entries.Accepted message.moment message.sender own.original in
        subst (λ (r : Accepted). AcceptedThere r) facts.2 (record {
          entry = entry;
          there = own.there;
          original = own.original;
          holds = (
            chosen_so ((message.moment == message.moment) && bytes_eq message.sender message.sender) (Some own.original) None
                (and_from (message.moment == message.moment) (bytes_eq message.sender message.sender)
                (eq-eqb message.moment message.moment refl) (bytes_again message.sender)),
            own.facts ∙ facts.1,
          );
          body = then_so body_of (slice_get journal message.entry) entry own.original own.there refl;
        })

    pub accepted_there : (number : ℕ) (row : Accepted) → accepted_at (half trade me journal) number ≡ Some row → AcceptedThere row
    accepted_there number row e =
        let message = bound accepted_of (slice_get (half trade me journal).messages number) row e in
        accepted_by message.0
        (found (MessageRow trade journal) (half trade me journal).messages number message.0
        (have_entries journal).messages message.1) row message.2

    -- the entry of which an item is composed, and that it has bytes
    pub record ItemThere (posted : Posted) (wanted : Wanted) : Type 0 where
      pub entry : Entry
      pub there : slice_get journal (number_wanted wanted) ≡ Some entry
      pub text : Bytes
      pub shown : IsShown trade me wanted entry text
      pub has : IsSome (item_text trade me journal posted)

    -- each message that wasn't accepted has a path
    abbrev pub HavePaths : Type 0
    HavePaths = (k : ℕ) (moment : ℕ) (sender : Bytes) (cause : Cause) (path : Path) (message : Bytes)
        → slice_get journal k ≡ Some (entries.NotAccepted moment sender cause path message) → 0 < length path

    module _ (taken : HaveEnvelope) (paths : HavePaths) (account : Bytes) (number : ℕ) where
      abbrev posted_as : Item → Posted
      posted_as item = record { account = account; item = item; entry = number }

      learned_there : (item : Item) (id : Id) (recipient : Option Bytes) → LearnedRow journal number id recipient
          → text_by trade me journal number item ≡ body_at journal number
          → ItemThere (posted_as item) (OutcomeWanted number id recipient)
      unfolding item_text
      learned_there item id recipient row is =
          let entry = entries.Learned row.moment id row.address row.decision row.decided row.message in record {
            entry = entry;
            there = row.there;
            text = row.message;
            shown = ap (λ (named : Option Bytes). learned_in id named entry) row.is
                ∙ chosen_so (same_id id id && bytes_eq row.address row.address) (Some row.message) None
                (and_from (same_id id id) (bytes_eq row.address row.address) (id_again id) (bytes_again row.address));
            has = some_by (text_by trade me journal number item) row.message
                (is ∙ then_so body_of (slice_get journal number) entry row.message row.there refl);
          }

      own_there : (item : Item) (kind : Kind) (id : Id) (recipient : Option Bytes) (moment : ℕ) (wanted : Wanted)
          → option_map (ReceiptWanted kind id recipient moment) (accepted_at (half trade me journal) id.number) ≡ Some wanted
          → text_by trade me journal number item
          ≡ option_map (composed trade kind id me moment recipient) (original_at trade me journal id.number)
          → ItemThere (posted_as item) wanted
      unfolding item_text
      own_there item kind id recipient moment wanted e is =
          let row = mapped (ReceiptWanted kind id recipient moment) (accepted_at (half trade me journal) id.number) wanted e in
          let own = accepted_there id.number row.0 row.1 in
          subst (λ (w : Wanted). ItemThere (posted_as item) w) row.2 (record {
            entry = own.entry;
            there = own.there;
            text = composed trade kind id me moment recipient own.original;
            shown = (own.original, own.holds, refl);
            has = some_by (text_by trade me journal number item) (composed trade kind id me moment recipient own.original)
                (is ∙ ap (option_map (composed trade kind id me moment recipient))
                (then_so (accepted_body journal) (accepted_at (half trade me journal) id.number) row.0 own.original row.1
                own.body));
          })

      item_there : (item : Item) (wanted : Wanted) → ItemRow journal (half trade me journal).messages number item
          → item_wanted (half trade me journal) number item ≡ Some wanted → ItemThere (posted_as item) wanted
      unfolding item_text
      item_there (EnvelopeItem id) wanted row e =
          let was = mapped (EnvelopeWanted id) (taken_of (half trade me journal) id) wanted e in
          let found = taken trade me journal id was.0 was.1 in
          let entry = entries.Took found.0 id found.1 in
          subst (λ (w : Wanted). ItemThere (posted_as (EnvelopeItem id)) w) was.2 (record {
            entry = entry;
            there = found.2;
            text = found.1;
            shown = chosen_so (same_id id id) (Some found.1) None (id_again id);
            has = some_by (text_by trade me journal number (EnvelopeItem id)) found.1
                (then_so (taken_body journal) (taken_of (half trade me journal) id) was.0 found.1 was.1
                (then_so body_of (slice_get journal was.0.entry) entry found.1 found.2 refl));
          })
      item_there (ReceiptItem kinds.Delivery id recipient moment) wanted row e =
          subst (λ (w : Wanted). ItemThere (posted_as (ReceiptItem kinds.Delivery id recipient moment)) w)
          (same_Some (OutcomeWanted number id recipient) wanted e)
          (learned_there (ReceiptItem kinds.Delivery id recipient moment) id recipient row refl)
      item_there (ReceiptItem (kinds.DeliveryError refusals.NoMailbox) id recipient moment) wanted row e =
          subst
          (λ (w : Wanted). ItemThere (posted_as (ReceiptItem (kinds.DeliveryError refusals.NoMailbox) id recipient
          moment)) w)
          (same_Some (OutcomeWanted number id recipient) wanted e)
          (learned_there (ReceiptItem (kinds.DeliveryError refusals.NoMailbox) id recipient moment) id recipient row
          refl)
      item_there (ReceiptItem (kinds.DeliveryError refusals.MailboxFull) id recipient moment) wanted row e =
          subst
          (λ (w : Wanted). ItemThere (posted_as (ReceiptItem (kinds.DeliveryError refusals.MailboxFull) id recipient
          moment)) w)
          (same_Some (OutcomeWanted number id recipient) wanted e)
          (learned_there (ReceiptItem (kinds.DeliveryError refusals.MailboxFull) id recipient moment) id recipient row
          refl)
      item_there (ReceiptItem (kinds.DeliveryError refusals.Virus) id recipient moment) wanted row e =
          own_there (ReceiptItem (kinds.DeliveryError refusals.Virus) id recipient moment)
          (kinds.DeliveryError refusals.Virus) id recipient moment wanted e refl
      item_there (ReceiptItem kinds.VirusFound id recipient moment) wanted row e =
          own_there (ReceiptItem kinds.VirusFound id recipient moment) kinds.VirusFound id recipient moment wanted e
          refl
      item_there (ReceiptItem (kinds.NonAcceptance cause) id recipient moment) wanted row e =
          let entry = entries.NotAccepted row.moment row.sender row.cause row.path row.message in
          let text = trade.refusal_text id row.moment row.sender row.cause row.path row.message in
          subst (λ (w : Wanted). ItemThere (posted_as (ReceiptItem (kinds.NonAcceptance cause) id recipient moment)) w)
          (same_Some (RefusalWanted number id (slice_get (half trade me journal).messages id.number)) wanted e)
          (record {
            entry = entry;
            there = row.there;
            text = text;
            shown = (
              ap (λ (found : Option Message). is_of_row found entry) row.has
                  ∙ and_from ((row.row.moment == row.moment) && bytes_eq row.row.sender row.sender)
                  (nat_lt 0 (length row.path))
                  (and_from (row.row.moment == row.moment) (bytes_eq row.row.sender row.sender)
                  (eq-eqb row.row.moment row.moment row.moment_is)
                  ((bytes_eq-Decides row.row.sender row.sender).1 row.sender_is))
                  (lt-ltb 0 (length row.path)
                  (paths number row.moment row.sender row.cause row.path row.message row.there)),
              refl,
            );
            has = some_by (text_by trade me journal number (ReceiptItem (kinds.NonAcceptance cause) id recipient moment)) text
                (then_so (refusal_by trade id) (slice_get journal number) entry text row.there refl);
          })
      item_there (AnomalyItem moment) wanted row e =
          let entry = entries.Anomaly row.moment row.accounts row.message in
          let text = trade.anomaly_text me number moment row.message in
          subst (λ (w : Wanted). ItemThere (posted_as (AnomalyItem moment)) w)
          (same_Some (AnomalyWanted number moment) wanted e)
          (record {
            entry = entry;
            there = row.there;
            text = text;
            shown = refl;
            has = some_by (text_by trade me journal number (AnomalyItem moment)) text
                (ap (option_map (trade.anomaly_text me number moment))
                (then_so body_of (slice_get journal number) entry row.message row.there refl));
          })
      item_there (ReceiptItem kinds.Acceptance id recipient moment) wanted row e =
          own_there (ReceiptItem kinds.Acceptance id recipient moment) kinds.Acceptance id recipient moment wanted e refl
      item_there (ReceiptItem kinds.Charge id recipient moment) wanted row e =
          own_there (ReceiptItem kinds.Charge id recipient moment) kinds.Charge id recipient moment wanted e refl
      item_there (ReceiptItem kinds.Warning id recipient moment) wanted row e =
          own_there (ReceiptItem kinds.Warning id recipient moment) kinds.Warning id recipient moment wanted e refl
      item_there (ReceiptItem kinds.Notice id recipient moment) wanted row e =
          own_there (ReceiptItem kinds.Notice id recipient moment) kinds.Notice id recipient moment wanted e refl
      item_there (ReceiptItem kinds.LateNotice id recipient moment) wanted row e =
          own_there (ReceiptItem kinds.LateNotice id recipient moment) kinds.LateNotice id recipient moment wanted e refl
      item_there (ReceiptItem kinds.Ack id recipient moment) wanted row e =
          own_there (ReceiptItem kinds.Ack id recipient moment) kinds.Ack id recipient moment wanted e refl

    -- an item that was placed, where an entry is needed for it
    pub record NeededThere (posted : Posted) (number : ℕ) : Type 0 where
      pub entry : Entry
      pub there : slice_get journal number ≡ Some entry
      pub serves : ServesItem trade me (half trade me journal) posted entry
      pub has : IsSome (item_text trade me journal posted)

    pub needed_there : HaveEnvelope → HavePaths → (posted : Posted) (number : ℕ) → Contains (half trade me journal).items posted
        → needed_item (half trade me journal) posted ≡ Some number → NeededThere posted number
    unfolding needed_item
    needed_there taken paths posted number placed e =
        let h = half trade me journal in
        let needs = mapped number_wanted (posted_wanted h posted) number e in
        let row = found_among (HasItemRow journal h.messages) h.items posted (have_entries journal).items placed in
        let is = item_there taken paths posted.account posted.entry posted.item needs.0 row needs.1 in
        record {
          entry = is.entry;
          there = ap (slice_get journal) (sym needs.2) ∙ is.there;
          serves = record { wanted = needs.0; has = needs.1; text = is.text; shown = is.shown };
          has = is.has;
        }

  path_along : (h : Half) (list : List Entry) → AllAlong (step trade me) (IsStep trade me) h list
      → (k : ℕ) (moment : ℕ) (sender : Bytes) (cause : Cause) (path : Path) (message : Bytes)
      → slice_get list k ≡ Some (entries.NotAccepted moment sender cause path message) → 0 < length path
  path_along h [] steps k moment sender cause path message e = absurd (none-some _ e)
  path_along h (entry ∷ list) steps zero moment sender cause path message e =
      let this = entries.NotAccepted moment sender cause path message in
      let is = subst (λ (one : Entry). IsStep trade me h one) (same_Some entry this e) steps.0 in
      is.own.2
  path_along h (entry ∷ list) steps (suc k) moment sender cause path message e =
      path_along (step trade me h entry) list steps.1 k moment sender cause path message e

  -- where each entry is a step of those before it, a message that wasn't accepted has a path
  pub paths_of : (journal : List Entry) → AreSteps trade me journal → HavePaths journal
  paths_of journal steps = path_along empty journal steps

  -- so an item's entry is always what it is composed of
  pub items_unchanged : HaveEnvelope → (journal : List Entry) → AreSteps trade me journal → (item : Option Posted)
      (number : ℕ) → ((posted : Posted) → item ≡ Some posted → Contains (half trade me journal).items posted)
      → PostedIsChanged trade me journal item number → ⊥
  items_unchanged taken journal steps item number placed changed =
      let is = needed_there journal taken (paths_of journal steps) changed.posted number (placed changed.posted changed.there) changed.needs in
      changed.serves is.entry is.there is.serves

-- ---- letters

-- in journals that are Fit each taken message has its envelope, which is licensed
abbrev pub TakenAreLicensed : Type 0
TakenAreLicensed = (trade : Trade) (journals : Journals) → Fit trade journals → (by : ℕ) (id : Id) (row : Taken)
    → taken_of (ledger trade journals by) id ≡ Some row
    → (bytes : Bytes) × (body_at (journals by) row.entry ≡ Some bytes) × IsEnvelopeText trade journals id by bytes

-- and each decided pair was taken
abbrev pub DecidedAreTaken : Type 0
DecidedAreTaken = (trade : Trade) (journals : Journals) → Fit trade journals → (by : ℕ) (pair : Pair) (fate : Fate)
    → decided_of (ledger trade journals by) pair ≡ Some fate → IsTakenPair trade by (ledger trade journals by) pair

module _ (trade : Trade) (journals : Journals) (fit : Fit trade journals) (me : ℕ) (taken : HaveEnvelope trade me)
    (licensed : TakenAreLicensed)
    (decided : DecidedAreTaken)
    (seen : (id : Id) (to : ℕ) (bytes : Bytes) (is : IsEnvelopeText trade journals id to bytes)
    → trade.view bytes ≡ Some (SeenEnvelope id is.message.moment is.original))
    (addressed : (id : Id) (to : ℕ) (bytes : Bytes) (is : IsEnvelopeText trade journals id to bytes)
    → trade.envelope_recipients bytes ≡ addresses_of is.message.facts) where
  abbrev journal : List Entry
  journal = journals me

  abbrev own_half : Half
  own_half = half trade me journal

  pub record AskedThere (asked : Asked) : Type 0 where
    pub entry : Entry
    pub there : slice_get journal (number_of asked) ≡ Some entry
    pub original : Bytes
    pub holds : Holds trade asked entry original

  -- the entry by which a message was taken, with the original in its envelope, which names those for whom it was taken
  pub record TakenThere (id : Id) (row : Taken) : Type 0 where
    pub entry : Entry
    pub there : slice_get journal row.entry ≡ Some entry
    pub original : Bytes
    pub holds : enveloped_in trade id entry ≡ Some original
    pub names : (recipient : Bytes) → Contains row.recipients recipient
        → is_named_in (trade.facts original) recipient ≡ true

  same_envelope : (a b : ℕ) (i j : Id) (one other : Bytes) → entries.Took a i one ≡ entries.Took b j other → one ≡ other
  same_envelope a b i j one other e = cc

  -- whoever it was taken for is one of its envelope's recipients
  taken_for : (id : Id) (row : Taken) → taken_of own_half id ≡ Some row → (moment : ℕ) (envelope : Bytes)
      → slice_get journal row.entry ≡ Some (entries.Took moment id envelope)
      → (recipient : Bytes) → Contains row.recipients recipient
      → list_any (bytes_eq recipient) (trade.envelope_recipients envelope) ≡ true
  taken_for id row e moment envelope there recipient one =
      let is = found_by (TakenRow trade me journal) (λ (one : Taken). same_id id one.id) own_half.taken row
      (have_entries trade me journal).taken e in
      let same : is.envelope ≡ envelope = same_envelope is.moment moment is.id id is.envelope envelope
      (same_Some (entries.Took is.moment is.id is.envelope) (entries.Took moment id envelope) (sym is.there ∙ there)) in
      any_filtered (bytes_eq recipient) (λ (address : Bytes). is_home me (trade.home address))
      (trade.envelope_recipients envelope)
      (subst (λ (all : Path). list_any (bytes_eq recipient) all ≡ true)
      (is.recipients ∙ ap (λ (bytes : Bytes). at_home trade me (trade.envelope_recipients bytes)) same)
      (list_any-from_Contains nat_list_eq_equiv recipient row.recipients one))

  taken_there : (id : Id) (row : Taken) → taken_of own_half id ≡ Some row → TakenThere id row
  unfolding ledger
  taken_there id row e =
      let found = taken trade me journal id row e in
      let entry = entries.Took found.0 id found.1 in
      let text = licensed trade journals fit me id row e in
      let same : found.1 ≡ text.0 =
      same_Some found.1 text.0
      (sym (then_so body_of (slice_get journal row.entry) entry found.1 found.2 refl) ∙ text.1) in
      let view : trade.view found.1 ≡ Some (SeenEnvelope id text.2.message.moment text.2.original) =
      ap trade.view same ∙ seen id me text.0 text.2 in
      record {
        entry = entry;
        there = found.2;
        original = text.2.original;
        holds = then_so (λ (envelope : Bytes). original_in id (trade.view envelope)) (took_in id entry) found.1
            text.2.original
            (chosen_so (same_id id id) (Some found.1) None (id_again id))
            (ap (original_in id) view ∙ chosen_so (same_id id id) (Some text.2.original) None (id_again id));
        names = λ recipient there.
            ap (λ (facts : Option Facts). is_named_in facts recipient) text.2.is.facts
            ∙ any_mapped (bytes_eq recipient) (λ (one : Recipient). one.address) text.2.message.facts.recipients
            (subst (λ (all : Path). list_any (bytes_eq recipient) all ≡ true)
            (ap trade.envelope_recipients same ∙ addressed id me text.0 text.2)
            (taken_for id row e found.0 found.1 found.2 recipient there));
      }

  if_some : {X : Type 0} (test : Bool) (o : Option X) (x : X) → (if test then o else None) ≡ Some x → o ≡ Some x
  if_some true o x e = e
  if_some false o x e = absurd (none-some x e)

  accepted_asked : (number : ℕ) (f : Accepted → Asked) (asked : Asked)
      → ((row : Accepted) → AcceptedThere trade me journal row → AskedThere (f row))
      → option_map f (accepted_at own_half number) ≡ Some asked → AskedThere asked
  accepted_asked number f asked so e =
      let row = mapped f (accepted_at own_half number) asked e in
      subst (λ (a : Asked). AskedThere a) row.2 (so row.0 (accepted_there trade me journal number row.0 row.1))

  taken_asked : (id : Id) (f : Taken → Asked) (asked : Asked)
      → ((row : Taken) → taken_of own_half id ≡ Some row → TakenThere id row → AskedThere (f row))
      → option_map f (taken_of own_half id) ≡ Some asked → AskedThere asked
  taken_asked id f asked so e =
      let row = mapped f (taken_of own_half id) asked e in
      subst (λ (a : Asked). AskedThere a) row.2 (so row.0 row.1 (taken_there id row.0 row.1))

  asked_there : (letter : Letter) (asked : Asked) → asked_by me own_half letter ≡ Some asked → AskedThere asked
  unfolding ledger half
  asked_there (letters.Envelope id to) asked e =
      accepted_asked id.number (EnvelopeAsked id to) asked
      (λ row is. record { entry = is.entry; there = is.there; original = is.original; holds = is.holds })
      (if_some (id.provider == me) (option_map (EnvelopeAsked id to) (accepted_at own_half id.number)) asked e)
  asked_there (letters.Charge id by) asked e =
      taken_asked id (ChargeAsked id) asked
      (λ row e is. record { entry = is.entry; there = is.there; original = is.original; holds = is.holds })
      (if_some (by == me) (option_map (ChargeAsked id) (taken_of own_half id)) asked e)
  asked_there (letters.Outcome id recipient) asked e =
      let fate = bound (λ (fate : Fate). option_map (OutcomeAsked id recipient fate) (taken_of own_half id))
      (decided_of own_half (pair_of id recipient)) asked e in
      let pair = decided trade journals fit me (pair_of id recipient) fate.0 fate.1 in
      taken_asked id (OutcomeAsked id recipient fate.0) asked
      (λ row e is. record {
        entry = is.entry;
        there = is.there;
        original = is.original;
        holds = (
          is.holds,
          is.names recipient
              (subst (λ (one : Taken). Contains one.recipients recipient) (same_Some pair.row row (sym pair.taken ∙ e))
              pair.recipient),
        );
      }) fate.2
  asked_there (letters.Ack id recipient) asked e =
      let known = bound (λ (known : Known). option_map (AckAsked id recipient known) (accepted_at own_half id.number))
      (known_of own_half (pair_of id recipient)) asked
      (if_some (id.provider == me) (option_and_then
      (λ (known : Known). option_map (AckAsked id recipient known) (accepted_at own_half id.number))
      (known_of own_half (pair_of id recipient))) asked e) in
      accepted_asked id.number (AckAsked id recipient known.0) asked
      (λ row is. record { entry = is.entry; there = is.there; original = is.original; holds = is.holds }) known.2

  -- the entry of which a letter is to be composed is what that is composed of
  letter_unchanged : (letter : Letter) (number : ℕ) → IsNotOf trade me journal letter number → ⊥
  unfolding needed
  letter_unchanged letter number changed =
      let needs = mapped number_of (asked_by me own_half letter) number changed.needs in
      let is = asked_there letter needs.0 needs.1 in
      changed.serves is.entry (ap (slice_get journal) (sym needs.2) ∙ is.there)
      (record { asked = needs.0; has = needs.1; original = is.original; holds = is.holds })

  pub letters_unchanged : (to room : ℕ) (owed : List Letter) (number : ℕ)
      → LetterIsChanged trade me journal to room owed number → ⊥
  letters_unchanged to room owed number changed = letter_unchanged changed.letter number changed.is

  -- so is that of the envelope by which the first undecided pair is decided
  pub envelopes_unchanged : (number : ℕ) → EnvelopeIsChanged trade me journal number → ⊥
  envelopes_unchanged number changed = letter_unchanged (letters.Charge changed.pair.id me) number changed.is
