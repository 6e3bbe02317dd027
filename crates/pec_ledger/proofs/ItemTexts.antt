-- The bytes of an item stay what they are while journals go on, and so do genuine texts and frames.
use Rattle.std.proofs.Common.{◌≡◌, ℕ, List, inl, inr, ap, sym, subst, ◌∙◌, true, Option, Some}
use Rattle.std.specs.Prelude.{Contains, slice_get}
use Rattle.std.specs.Option.{option_map}
use Rattle.std.proofs.lemmas.List.Elements.{All-weaker, Contains-append_left}
use Rattle.pec_types.specs.Bytes.{Bytes}
use Rattle.pec_types.specs.Message.{Id}
use Rattle.pec_types.specs.declared.messages.Refusal.TheVariants as refusals
use Rattle.pec_types.specs.declared.receipts.Kind.{Kind}
use Rattle.pec_types.specs.declared.receipts.Kind.TheVariants as kinds
use Rattle.pec_records.specs.declared.entries.Entry.{Entry}
use Rattle.pec_ledger.specs.Along.{GoesOnAs}
use Rattle.pec_ledger.specs.Half.{Half, Item, Posted, EnvelopeItem, ReceiptItem, AnomalyItem}
use Rattle.pec_ledger.specs.Items.{IsItemText, accepted_body, composed, item_text, original_at, receipt_of, refusal_by, taken_body, text_by}
use Rattle.pec_ledger.specs.Ledger.{Journals, body_at, ledger}
use Rattle.pec_ledger.specs.Lookups.{accepted_at, taken_of}
use Rattle.pec_ledger.specs.Network.{AreGenuine, IsGenuine, IsGenuineText}
use Rattle.pec_ledger.specs.Steps.{half}
use Rattle.pec_ledger.specs.Trade.{Framed, Trade}
use Rattle.pec_ledger.proofs.Growth.{GoOnAs, Longer, accepted_stays, body_stays, half_append, licence_stays, longer_fold, longer_half, taken_stays}
use Rattle.pec_ledger.proofs.ListLemmas.{both_found, bound, mapped, stays_at}

module _ (trade : Trade) where
  pub longer_by : (p : ℕ) (es fs : List Entry) → GoesOnAs es fs → Longer (half trade p es) (half trade p fs)
  longer_by p es fs (more, g) =
      subst (λ (k : Half). Longer (half trade p es) k) (sym (ap (half trade p) g ∙ half_append trade p es more))
      (longer_fold trade p (half trade p es) more)

  original_at_stays : (p : ℕ) (es fs : List Entry) → GoesOnAs es fs → (n : ℕ) (bytes : Bytes)
      → original_at trade p es n ≡ Some bytes → original_at trade p fs n ≡ Some bytes
  original_at_stays p es fs g n bytes e =
      let found = both_found (accepted_body es) (accepted_at (half trade p es) n) bytes e
      in bound (accepted_body fs) (accepted_at (half trade p fs) n) found.0 bytes
      (accepted_stays (half trade p es) (half trade p fs) n found.0 (longer_by p es fs g) found.1)
      (body_stays es fs found.0.entry bytes g found.2)

  composed_stays : (p : ℕ) (es fs : List Entry) → GoesOnAs es fs → (f : Bytes → Bytes) (n : ℕ) (bytes : Bytes)
      → option_map f (original_at trade p es n) ≡ Some bytes → option_map f (original_at trade p fs n) ≡ Some bytes
  composed_stays p es fs g f n bytes e =
      let found = mapped f (original_at trade p es n) bytes e
      in ap (option_map f) (original_at_stays p es fs g n found.0 found.1) ∙ ap (λ (b : Bytes). Some b) found.2

  receipt_stays : (p : ℕ) (es fs : List Entry) → GoesOnAs es fs → (entry : ℕ) (kind : Kind) (id : Id) (recipient : Option Bytes) (moment : ℕ) (bytes : Bytes)
      → receipt_of trade p es entry kind id recipient moment ≡ Some bytes → receipt_of trade p fs entry kind id recipient moment ≡ Some bytes
  receipt_stays p es fs g entry kinds.Delivery id recipient moment bytes e = body_stays es fs entry bytes g e
  receipt_stays p es fs g entry (kinds.DeliveryError refusals.NoMailbox) id recipient moment bytes e = body_stays es fs entry bytes g e
  receipt_stays p es fs g entry (kinds.DeliveryError refusals.MailboxFull) id recipient moment bytes e = body_stays es fs entry bytes g e
  receipt_stays p es fs g entry (kinds.DeliveryError refusals.Virus) id recipient moment bytes e =
      composed_stays p es fs g (composed trade (kinds.DeliveryError refusals.Virus) id p moment recipient) id.number bytes e
  receipt_stays p es fs g entry (kinds.NonAcceptance cause) id recipient moment bytes e =
      let found = both_found (refusal_by trade id) (slice_get es entry) bytes e
      in bound (refusal_by trade id) (slice_get fs entry) found.0 bytes (stays_at es fs entry found.0 g found.1) found.2
  receipt_stays p es fs g entry kinds.Acceptance id recipient moment bytes e =
      composed_stays p es fs g (composed trade kinds.Acceptance id p moment recipient) id.number bytes e
  receipt_stays p es fs g entry kinds.Charge id recipient moment bytes e =
      composed_stays p es fs g (composed trade kinds.Charge id p moment recipient) id.number bytes e
  receipt_stays p es fs g entry kinds.Warning id recipient moment bytes e =
      composed_stays p es fs g (composed trade kinds.Warning id p moment recipient) id.number bytes e
  receipt_stays p es fs g entry kinds.Notice id recipient moment bytes e =
      composed_stays p es fs g (composed trade kinds.Notice id p moment recipient) id.number bytes e
  receipt_stays p es fs g entry kinds.LateNotice id recipient moment bytes e =
      composed_stays p es fs g (composed trade kinds.LateNotice id p moment recipient) id.number bytes e
  receipt_stays p es fs g entry kinds.VirusFound id recipient moment bytes e =
      composed_stays p es fs g (composed trade kinds.VirusFound id p moment recipient) id.number bytes e
  receipt_stays p es fs g entry kinds.Ack id recipient moment bytes e =
      composed_stays p es fs g (composed trade kinds.Ack id p moment recipient) id.number bytes e

  text_by_stays : (p : ℕ) (es fs : List Entry) → GoesOnAs es fs → (entry : ℕ) (item : Item) (bytes : Bytes)
      → text_by trade p es entry item ≡ Some bytes → text_by trade p fs entry item ≡ Some bytes
  text_by_stays p es fs g entry (EnvelopeItem id) bytes e =
      let found = both_found (taken_body es) (taken_of (half trade p es) id) bytes e
      in bound (taken_body fs) (taken_of (half trade p fs) id) found.0 bytes
      (taken_stays (half trade p es) (half trade p fs) id found.0 (longer_by p es fs g) found.1)
      (body_stays es fs found.0.entry bytes g found.2)
  text_by_stays p es fs g entry (ReceiptItem kind id recipient moment) bytes e = receipt_stays p es fs g entry kind id recipient moment bytes e
  text_by_stays p es fs g entry (AnomalyItem moment) bytes e =
      let found = mapped (trade.anomaly_text p entry moment) (body_at es entry) bytes e
      in ap (option_map (trade.anomaly_text p entry moment)) (body_stays es fs entry found.0 g found.1) ∙ ap (λ (b : Bytes). Some b) found.2

  pub item_text_stays : (p : ℕ) (es fs : List Entry) → GoesOnAs es fs → (posted : Posted) (bytes : Bytes)
      → item_text trade p es posted ≡ Some bytes → item_text trade p fs posted ≡ Some bytes
  unfolding item_text
  item_text_stays p es fs g posted bytes e = text_by_stays p es fs g posted.entry posted.item bytes e

  contains_stays : {X : Type 0} (xs ys : List X) (x : X) → GoesOnAs xs ys → Contains xs x → Contains ys x
  contains_stays xs ys x (more, g) c = subst (λ l. Contains l x) (sym g) (Contains-append_left xs more x c)

  pub is_item_text_stays : (J K : Journals) → GoOnAs trade J K → (bytes : Bytes) → IsItemText trade J bytes → IsItemText trade K bytes
  is_item_text_stays J K g bytes is = record {
    provider = is.provider;
    posted = is.posted;
    placed = contains_stays (ledger trade J is.provider).items (ledger trade K is.provider).items is.posted (longer_half trade J K g is.provider).items is.placed;
    text = item_text_stays is.provider (J is.provider) (K is.provider) (g is.provider) is.posted bytes is.text;
  }

  pub genuine_text_stays : (J K : Journals) → GoOnAs trade J K → (bytes : Bytes) → IsGenuineText trade J bytes → IsGenuineText trade K bytes
  genuine_text_stays J K g bytes (inl (letter, is)) = inl (letter, licence_stays trade J K g letter bytes is)
  genuine_text_stays J K g bytes (inr is) = inr (is_item_text_stays J K g bytes is)

  pub genuine_stays : (J K : Journals) → GoOnAs trade J K → (frame : Bytes) → IsGenuine trade J frame → IsGenuine trade K frame
  genuine_stays J K g frame is = λ (framed : Framed) (e : trade.unframed frame ≡ Some framed) (o : trade.opens framed.message ≡ true). genuine_text_stays J K g framed.message (is framed e o)

  pub all_genuine_stay : (J K : Journals) → GoOnAs trade J K → (frames : List Bytes) → AreGenuine trade J frames → AreGenuine trade K frames
  all_genuine_stay J K g frames are = All-weaker (IsGenuine trade J) (IsGenuine trade K) (genuine_stays J K g) frames are
