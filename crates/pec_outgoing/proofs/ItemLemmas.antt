-- What is composed of the entry that stands at the needed number of a journal is the item's text by the journal, and
-- where no number is needed there is no text.
use Rattle.std.proofs.Common.{◌≡◌, ℕ, ◌&&◌, List, Option, None, Some, option_map, slice_get, refl, ap, sym, subst, ◌∙◌}
use Rattle.std.specs.Option.{option_and_then}
use Rattle.std.proofs.lemmas.Option.{none-some, same_Some}
use Rattle.pec_types.specs.Bytes.{Bytes}
use Rattle.pec_types.specs.Message.{Id}
use Rattle.pec_types.specs.declared.messages.Refusal.TheVariants as refusals
use Rattle.pec_types.specs.declared.receipts.Kind.{Kind}
use Rattle.pec_types.specs.declared.receipts.Kind.TheVariants as kinds
use Rattle.pec_records.specs.declared.entries.Entry.{Entry}
use Rattle.pec_records.specs.declared.entries.Entry.TheVariants as entries
use Rattle.pec_ledger.specs.Half.{AnomalyItem, EnvelopeItem, Half, Item, Message, Posted, ReceiptItem, Taken}
use Rattle.pec_ledger.specs.Items.{accepted_body, composed, item_text, refusal_by, taken_body}
use Rattle.pec_ledger.specs.Ledger.{body_at, body_of}
use Rattle.pec_ledger.specs.Lookups.{Accepted, accepted_at, taken_of}
use Rattle.pec_ledger.specs.Pairs.{same_id}
use Rattle.pec_ledger.specs.Steps.{half}
use Rattle.pec_ledger.specs.Trade.{Trade}
use Rattle.pec_shelf.specs.Seen.{Seen}
use Rattle.pec_outgoing.specs.Desk.{IsHalfOf}
use Rattle.pec_outgoing.specs.Entries.{anomaly_in, learned_in, names}
use Rattle.pec_outgoing.specs.ItemNeeds.{AnomalyWanted, EnvelopeWanted, IsShown, OutcomeWanted, ReceiptWanted, RefusalWanted, Wanted}
use Rattle.pec_outgoing.specs.ItemNeeds.{item_wanted, needed_item, number_wanted, posted_wanted}
use Rattle.pec_outgoing.proofs.NeedsLemmas.{accepted_so, body_there, body_took, if_some}

body_learned : (id : Id) (named : Option Bytes) (entry : Entry) (message : Bytes) → learned_in id named entry ≡ Some message
    → body_of entry ≡ Some message
body_learned id named (entries.Learned at other recipient decision decided message) original e =
    if_some (same_id id other && names named recipient) message original e
body_learned id named (entries.Start number digest) original e = absurd (none-some original e)
body_learned id named (entries.Accepted at from message) original e = absurd (none-some original e)
body_learned id named (entries.NotAccepted at from cause path message) original e = absurd (none-some original e)
body_learned id named (entries.Took at other message) original e = absurd (none-some original e)
body_learned id named (entries.Decided at other recipient decision) original e = absurd (none-some original e)
body_learned id named (entries.Charged at other by) original e = absurd (none-some original e)
body_learned id named (entries.Acked at other recipient) original e = absurd (none-some original e)
body_learned id named (entries.Ticked at) original e = absurd (none-some original e)
body_learned id named (entries.StartTwo number digest) original e = absurd (none-some original e)
body_learned id named (entries.Upgraded at) original e = absurd (none-some original e)
body_learned id named (entries.Archived at account place) original e = absurd (none-some original e)
body_learned id named (entries.Anomaly at accounts message) original e = absurd (none-some original e)

anomaly_so : {A : Type 0} (f : Bytes → A) (entry : Entry) (text : A) → option_map f (anomaly_in entry) ≡ Some text
    → option_map f (body_of entry) ≡ Some text
anomaly_so f (entries.Anomaly at accounts message) text e = e
anomaly_so f (entries.Start number digest) text e = absurd (none-some text e)
anomaly_so f (entries.Accepted at from message) text e = absurd (none-some text e)
anomaly_so f (entries.NotAccepted at from cause path message) text e = absurd (none-some text e)
anomaly_so f (entries.Took at other message) text e = absurd (none-some text e)
anomaly_so f (entries.Decided at other recipient decision) text e = absurd (none-some text e)
anomaly_so f (entries.Charged at other by) text e = absurd (none-some text e)
anomaly_so f (entries.Learned at other recipient decision decided message) text e = absurd (none-some text e)
anomaly_so f (entries.Acked at other recipient) text e = absurd (none-some text e)
anomaly_so f (entries.Ticked at) text e = absurd (none-some text e)
anomaly_so f (entries.StartTwo number digest) text e = absurd (none-some text e)
anomaly_so f (entries.Upgraded at) text e = absurd (none-some text e)
anomaly_so f (entries.Archived at account place) text e = absurd (none-some text e)

-- the text of an item, by a half
abbrev pub text_in : Trade → ℕ → List Entry → Half → ℕ → Item → Option Bytes
text_in trade me journal h number (EnvelopeItem id) = option_and_then (taken_body journal) (taken_of h id)
text_in trade me journal h number (ReceiptItem kinds.Delivery id recipient moment) = body_at journal number
text_in trade me journal h number (ReceiptItem (kinds.DeliveryError refusals.NoMailbox) id recipient moment) =
    body_at journal number
text_in trade me journal h number (ReceiptItem (kinds.DeliveryError refusals.MailboxFull) id recipient moment) =
    body_at journal number
text_in trade me journal h number (ReceiptItem (kinds.NonAcceptance cause) id recipient moment) =
    option_and_then (refusal_by trade id) (slice_get journal number)
text_in trade me journal h number (ReceiptItem kind id recipient moment) =
    option_map (composed trade kind id me moment recipient)
    (option_and_then (accepted_body journal) (accepted_at h id.number))
text_in trade me journal h number (AnomalyItem moment) =
    option_map (trade.anomaly_text me number moment) (body_at journal number)

same_text : (trade : Trade) (me : ℕ) (journal : List Entry) (posted : Posted)
    → text_in trade me journal (half trade me journal) posted.entry posted.item ≡ item_text trade me journal posted
unfolding item_text
same_text trade me journal posted = by_item posted.item
  where
    by_item : (item : Item) → text_in trade me journal (half trade me journal) posted.entry item
        ≡ item_text trade me journal (record { account = posted.account; item = item; entry = posted.entry })
    by_item (EnvelopeItem id) = refl
    by_item (ReceiptItem kinds.Acceptance id recipient moment) = refl
    by_item (ReceiptItem (kinds.NonAcceptance cause) id recipient moment) = refl
    by_item (ReceiptItem kinds.Charge id recipient moment) = refl
    by_item (ReceiptItem kinds.Delivery id recipient moment) = refl
    by_item (ReceiptItem (kinds.DeliveryError refusals.NoMailbox) id recipient moment) = refl
    by_item (ReceiptItem (kinds.DeliveryError refusals.MailboxFull) id recipient moment) = refl
    by_item (ReceiptItem (kinds.DeliveryError refusals.Virus) id recipient moment) = refl
    by_item (ReceiptItem kinds.VirusFound id recipient moment) = refl
    by_item (ReceiptItem kinds.Warning id recipient moment) = refl
    by_item (ReceiptItem kinds.Notice id recipient moment) = refl
    by_item (ReceiptItem kinds.LateNotice id recipient moment) = refl
    by_item (ReceiptItem kinds.Ack id recipient moment) = refl
    by_item (AnomalyItem moment) = refl

module _ (trade : Trade) (me : ℕ) (journal : List Entry) (entry : Entry) where
  -- what is shown of the entry is this text
  abbrev pub Shows : Wanted → Option Bytes → Type 0
  Shows wanted found = (text : Bytes) → slice_get journal (number_wanted wanted) ≡ Some entry
      → IsShown trade me wanted entry text → found ≡ Some text

  envelope_so : (wanted : Wanted) (id : Id) (found : Option Taken) → option_map (EnvelopeWanted id) found ≡ Some wanted
      → Shows wanted (option_and_then (taken_body journal) found)
  envelope_so wanted id None e = absurd (none-some wanted e)
  envelope_so wanted id (Some row) e =
      subst (λ (w : Wanted). Shows w (body_at journal row.entry)) (same_Some (EnvelopeWanted id row) wanted e)
      (λ text at is. body_there trade me journal entry row.entry text at (body_took id entry text is))

  outcome_so : (number : ℕ) (id : Id) (recipient : Option Bytes)
      → Shows (OutcomeWanted number id recipient) (body_at journal number)
  outcome_so number id recipient text at is =
      body_there trade me journal entry number text at (body_learned id recipient entry text is)

  refusal_so : (number : ℕ) (id : Id) (row : Option Message)
      → Shows (RefusalWanted number id row) (option_and_then (refusal_by trade id) (slice_get journal number))
  refusal_so number id row text at is = ap (option_and_then (refusal_by trade id)) at ∙ is.1

  receipt_so : (wanted : Wanted) (kind : Kind) (id : Id) (recipient : Option Bytes) (moment : ℕ) (found : Option Accepted)
      → option_map (ReceiptWanted kind id recipient moment) found ≡ Some wanted
      → Shows wanted (option_map (composed trade kind id me moment recipient)
      (option_and_then (accepted_body journal) found))
  receipt_so wanted kind id recipient moment None e = absurd (none-some wanted e)
  receipt_so wanted kind id recipient moment (Some row) e =
      subst
      (λ (w : Wanted). Shows w (option_map (composed trade kind id me moment recipient) (body_at journal row.entry)))
      (same_Some (ReceiptWanted kind id recipient moment row) wanted e)
      (λ text at is. ap (option_map (composed trade kind id me moment recipient))
      (accepted_so trade me journal entry row is.0 at is.1) ∙ ap Some is.2)

  anomaly_there : (number moment : ℕ)
      → Shows (AnomalyWanted number moment) (option_map (trade.anomaly_text me number moment) (body_at journal number))
  anomaly_there number moment text at is =
      ap (λ (found : Option Entry). option_map (trade.anomaly_text me number moment) (option_and_then body_of found)) at
      ∙ anomaly_so (trade.anomaly_text me number moment) entry text is

  item_so : (h : Half) (number : ℕ) (item : Item) (wanted : Wanted) → item_wanted h number item ≡ Some wanted
      → Shows wanted (text_in trade me journal h number item)
  item_so h number (EnvelopeItem id) wanted e = envelope_so wanted id (taken_of h id) e
  item_so h number (ReceiptItem kinds.Delivery id recipient moment) wanted e =
      subst (λ (w : Wanted). Shows w (body_at journal number)) (same_Some _ wanted e) (outcome_so number id recipient)
  item_so h number (ReceiptItem (kinds.DeliveryError refusals.NoMailbox) id recipient moment) wanted e =
      subst (λ (w : Wanted). Shows w (body_at journal number)) (same_Some _ wanted e) (outcome_so number id recipient)
  item_so h number (ReceiptItem (kinds.DeliveryError refusals.MailboxFull) id recipient moment) wanted e =
      subst (λ (w : Wanted). Shows w (body_at journal number)) (same_Some _ wanted e) (outcome_so number id recipient)
  item_so h number (ReceiptItem (kinds.DeliveryError refusals.Virus) id recipient moment) wanted e =
      receipt_so wanted (kinds.DeliveryError refusals.Virus) id recipient moment (accepted_at h id.number) e
  item_so h number (ReceiptItem kinds.VirusFound id recipient moment) wanted e =
      receipt_so wanted kinds.VirusFound id recipient moment (accepted_at h id.number) e
  item_so h number (ReceiptItem (kinds.NonAcceptance cause) id recipient moment) wanted e =
      subst (λ (w : Wanted). Shows w (option_and_then (refusal_by trade id) (slice_get journal number)))
      (same_Some _ wanted e) (refusal_so number id (slice_get h.messages id.number))
  item_so h number (ReceiptItem kinds.Acceptance id recipient moment) wanted e =
      receipt_so wanted kinds.Acceptance id recipient moment (accepted_at h id.number) e
  item_so h number (ReceiptItem kinds.Charge id recipient moment) wanted e =
      receipt_so wanted kinds.Charge id recipient moment (accepted_at h id.number) e
  item_so h number (ReceiptItem kinds.Warning id recipient moment) wanted e =
      receipt_so wanted kinds.Warning id recipient moment (accepted_at h id.number) e
  item_so h number (ReceiptItem kinds.Notice id recipient moment) wanted e =
      receipt_so wanted kinds.Notice id recipient moment (accepted_at h id.number) e
  item_so h number (ReceiptItem kinds.LateNotice id recipient moment) wanted e =
      receipt_so wanted kinds.LateNotice id recipient moment (accepted_at h id.number) e
  item_so h number (ReceiptItem kinds.Ack id recipient moment) wanted e =
      receipt_so wanted kinds.Ack id recipient moment (accepted_at h id.number) e
  item_so h number (AnomalyItem moment) wanted e =
      subst (λ (w : Wanted). Shows w (option_map (trade.anomaly_text me number moment) (body_at journal number)))
      (same_Some _ wanted e) (anomaly_there number moment)

-- ---- nothing is needed

module _ (trade : Trade) (me : ℕ) (journal : List Entry) where
  none_row : {A : Type 0} (want : A → Wanted) (tell : A → Option Bytes) (found : Option A)
      → option_map number_wanted (option_map want found) ≡ None → option_and_then tell found ≡ None
  none_row want tell None e = refl
  none_row want tell (Some row) e = absurd (none-some _ (sym e))

  none_receipt : (kind : Kind) (id : Id) (recipient : Option Bytes) (moment : ℕ) (found : Option Accepted)
      → option_map number_wanted (option_map (ReceiptWanted kind id recipient moment) found) ≡ None
      → option_map (composed trade kind id me moment recipient) (option_and_then (accepted_body journal) found) ≡ None
  none_receipt kind id recipient moment None e = refl
  none_receipt kind id recipient moment (Some row) e = absurd (none-some _ (sym e))

  none_item : (h : Half) (number : ℕ) (item : Item) → option_map number_wanted (item_wanted h number item) ≡ None
      → text_in trade me journal h number item ≡ None
  none_item h number (EnvelopeItem id) e = none_row (EnvelopeWanted id) (taken_body journal) (taken_of h id) e
  none_item h number (ReceiptItem kinds.Delivery id recipient moment) e = absurd (none-some _ (sym e))
  none_item h number (ReceiptItem (kinds.DeliveryError refusals.NoMailbox) id recipient moment) e =
      absurd (none-some _ (sym e))
  none_item h number (ReceiptItem (kinds.DeliveryError refusals.MailboxFull) id recipient moment) e =
      absurd (none-some _ (sym e))
  none_item h number (ReceiptItem (kinds.DeliveryError refusals.Virus) id recipient moment) e =
      none_receipt (kinds.DeliveryError refusals.Virus) id recipient moment (accepted_at h id.number) e
  none_item h number (ReceiptItem kinds.VirusFound id recipient moment) e =
      none_receipt kinds.VirusFound id recipient moment (accepted_at h id.number) e
  none_item h number (ReceiptItem (kinds.NonAcceptance cause) id recipient moment) e = absurd (none-some _ (sym e))
  none_item h number (ReceiptItem kinds.Acceptance id recipient moment) e =
      none_receipt kinds.Acceptance id recipient moment (accepted_at h id.number) e
  none_item h number (ReceiptItem kinds.Charge id recipient moment) e =
      none_receipt kinds.Charge id recipient moment (accepted_at h id.number) e
  none_item h number (ReceiptItem kinds.Warning id recipient moment) e =
      none_receipt kinds.Warning id recipient moment (accepted_at h id.number) e
  none_item h number (ReceiptItem kinds.Notice id recipient moment) e =
      none_receipt kinds.Notice id recipient moment (accepted_at h id.number) e
  none_item h number (ReceiptItem kinds.LateNotice id recipient moment) e =
      none_receipt kinds.LateNotice id recipient moment (accepted_at h id.number) e
  none_item h number (ReceiptItem kinds.Ack id recipient moment) e =
      none_receipt kinds.Ack id recipient moment (accepted_at h id.number) e
  none_item h number (AnomalyItem moment) e = absurd (none-some _ (sym e))

-- there is no text of an item for which nothing is needed
pub nothing_wanted : (trade : Trade) (shelf : Seen) (posted : Posted) (journal : List Entry)
    → IsHalfOf trade journal shelf → needed_item shelf.half posted ≡ None
    → item_text trade shelf.me journal posted ≡ None
unfolding needed_item
nothing_wanted trade shelf posted journal is e =
    sym (same_text trade shelf.me journal posted)
    ∙ subst (λ (h : Half). text_in trade shelf.me journal h posted.entry posted.item ≡ None) is.half_is
    (none_item trade shelf.me journal shelf.half posted.entry posted.item e)

-- what is shown of the entry at the needed number is the item's text
pub text_so : (trade : Trade) (shelf : Seen) (posted : Posted) (journal : List Entry) (entry : Entry) (number : ℕ)
    (wanted : Wanted) (text : Bytes)
    → IsHalfOf trade journal shelf → needed_item shelf.half posted ≡ Some number
    → slice_get journal number ≡ Some entry → posted_wanted shelf.half posted ≡ Some wanted
    → IsShown trade shelf.me wanted entry text
    → item_text trade shelf.me journal posted ≡ Some text
unfolding needed_item
text_so trade shelf posted journal entry number wanted text is need at want shown =
    sym (same_text trade shelf.me journal posted)
    ∙ subst (λ (h : Half). text_in trade shelf.me journal h posted.entry posted.item ≡ Some text) is.half_is
    (item_so trade shelf.me journal entry shelf.half posted.entry posted.item wanted want text there shown)
  where
    same : number_wanted wanted ≡ number
    same = same_Some (number_wanted wanted) number (sym (ap (option_map number_wanted) want) ∙ need)

    there : slice_get journal (number_wanted wanted) ≡ Some entry
    there = ap (slice_get journal) same ∙ at
