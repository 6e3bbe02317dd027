-- In journals that are Fit a licensed letter has one text, and each item its bytes.
use Rattle.std.proofs.Common.{◌≡◌, ℕ, ap, sym, subst, ◌∙◌, Option, Some, None}
use Rattle.std.specs.Prelude.{Contains, IsSome, is_some}
use Rattle.std.specs.Option.{option_and_then, option_map}
use Rattle.std.proofs.lemmas.List.Elements.{All-contains}
use Rattle.std.proofs.lemmas.Option.{same_Some}
use Rattle.pec_types.specs.Bytes.{Bytes}
use Rattle.pec_types.specs.Message.{Id}
use Rattle.pec_types.specs.declared.letters.Letter.{Letter}
use Rattle.pec_types.specs.declared.letters.Letter.TheVariants as letters
use Rattle.pec_types.specs.declared.messages.Refusal.TheVariants as refusals
use Rattle.pec_types.specs.declared.receipts.Kind.TheVariants as kinds
use Rattle.pec_records.specs.declared.entries.Entry.{Entry}
use Rattle.pec_ledger.specs.Half.{Fate, Item, Known, Posted, Taken, EnvelopeItem, ReceiptItem, AnomalyItem}
use Rattle.pec_ledger.specs.Items.{accepted_body, composed, item_text, original_at, refusal_by, taken_body, text_by}
use Rattle.pec_ledger.specs.Ledger.{Fit, HasOriginal, IsLicensedText, Journals, accepted_in, body_at, ledger}
use Rattle.pec_ledger.specs.Lookups.{Accepted, accepted_at, decided_of, outcome_kind, taken_of}
use Rattle.pec_ledger.specs.Pairs.{pair_of}
use Rattle.pec_ledger.specs.Steps.{half}
use Rattle.pec_ledger.specs.Trade.{Trade}
use Rattle.pec_ledger.proofs.Arrivals.{has_original, taken_row}
use Rattle.pec_ledger.proofs.Backing.{ItemRow, backed}
use Rattle.pec_ledger.proofs.Growth.{is_some_by}
use Rattle.pec_ledger.proofs.ListLemmas.{bound}

module _ (trade : Trade) (J : Journals) (fit : Fit trade J) where
  -- ---- one text

  -- a licensed letter has one text
  original_once : (id : Id) (m n : Accepted) (a b : Bytes) → HasOriginal trade J id m a → HasOriginal trade J id n b → (m ≡ n) × (a ≡ b)
  original_once id m n a b ha hb =
      let same = same_Some m n (sym ha.accepted ∙ hb.accepted)
      in (same, same_Some a b (sym ha.bytes ∙ ap (λ (k : Accepted). body_at (J id.provider) k.entry) same ∙ hb.bytes))

  pub one_text : (letter : Letter) (a b : Bytes) → IsLicensedText trade J letter a → IsLicensedText trade J letter b → a ≡ b
  one_text (letters.Envelope id to) a b x y =
      let same = original_once id x.message y.message x.original y.original x.is y.is
      in x.text ∙ ap (λ (m : Accepted). trade.envelope_text id m.moment x.original) same.0 ∙ ap (trade.envelope_text id y.message.moment) same.1 ∙ sym y.text
  one_text (letters.Charge id by) a b x y =
      let same = original_once id x.message y.message x.original y.original x.is y.is
      in let rows = same_Some x.row y.row (sym x.taken ∙ y.taken)
      in x.text
      ∙ ap (λ (r : Taken). trade.receipt_text (record { kind = kinds.Charge; id = id; by = by; moment = r.moment; recipient = None }) x.original) rows
      ∙ ap (trade.receipt_text (record { kind = kinds.Charge; id = id; by = by; moment = y.row.moment; recipient = None })) same.1 ∙ sym y.text
  one_text (letters.Outcome id recipient) a b x y =
      let same = original_once id x.message y.message x.original y.original x.is y.is
      in let homes = same_Some x.home y.home (sym x.at_home ∙ y.at_home)
      in let fates = same_Some x.fate y.fate (sym x.decided ∙ ap (λ (q : ℕ). decided_of (ledger trade J q) (pair_of id recipient)) homes ∙ y.decided)
      in x.text
      ∙ ap (λ (f : Fate). trade.receipt_text (record { kind = outcome_kind f.decision; id = id; by = x.home; moment = f.moment; recipient = Some recipient }) x.original) fates
      ∙ ap (λ (q : ℕ). trade.receipt_text (record { kind = outcome_kind y.fate.decision; id = id; by = q; moment = y.fate.moment; recipient = Some recipient }) x.original) homes
      ∙ ap (trade.receipt_text (record { kind = outcome_kind y.fate.decision; id = id; by = y.home; moment = y.fate.moment; recipient = Some recipient })) same.1
      ∙ sym y.text
  one_text (letters.Ack id recipient) a b x y =
      let same = original_once id x.message y.message x.original y.original x.is y.is
      in let rows = same_Some x.row y.row (sym x.known ∙ y.known)
      in x.text
      ∙ ap (λ (r : Known). trade.receipt_text (record { kind = kinds.Ack; id = id; by = id.provider; moment = r.moment; recipient = Some recipient }) x.original) rows
      ∙ ap (trade.receipt_text (record { kind = kinds.Ack; id = id; by = id.provider; moment = y.row.moment; recipient = Some recipient })) same.1 ∙ sym y.text

  -- ---- each item has its bytes

  own_original : (p : ℕ) (id : Id) (m : Accepted) → id.provider ≡ p → accepted_at (ledger trade J p) id.number ≡ Some m
      → (original : Bytes) × (original_at trade p (J p) id.number ≡ Some original)
  unfolding ledger
  own_original p id m ours e =
      let mine : accepted_in trade J id ≡ Some m = subst (λ (q : ℕ). accepted_at (ledger trade J q) id.number ≡ Some m) (sym ours) e
      in let has = has_original trade J fit id m mine
      in let there : body_at (J p) m.entry ≡ Some has.0 = subst (λ (q : ℕ). body_at (J q) m.entry ≡ Some has.0) ours has.1.bytes
      in (has.0, bound (accepted_body (J p)) (accepted_at (half trade p (J p)) id.number) m has.0 e there)

  has_composed : (p : ℕ) (f : Bytes → Bytes) (id : Id) (m : Accepted) → id.provider ≡ p → accepted_at (ledger trade J p) id.number ≡ Some m
      → IsSome (option_map f (original_at trade p (J p) id.number))
  has_composed p f id m ours e =
      let o = own_original p id m ours e
      in is_some_by (option_map f (original_at trade p (J p) id.number)) (f o.0) (ap (option_map f) o.1)

  has_text : (p entry : ℕ) (item : Item) → ItemRow trade J p (J p) (ledger trade J p) entry item → IsSome (text_by trade p (J p) entry item)
  unfolding ledger
  has_text p entry (EnvelopeItem id) row =
      let is = taken_row trade J fit p id row.0 row.1
      in is_some_by (text_by trade p (J p) entry (EnvelopeItem id)) is.1.envelope
      (bound (taken_body (J p)) (taken_of (half trade p (J p)) id) row.0 is.1.envelope row.1 is.1.there)
  has_text p entry (ReceiptItem kinds.Acceptance id None moment) row =
      has_composed p (composed trade kinds.Acceptance id p moment None) id row.message row.ours row.accepted
  has_text p entry (ReceiptItem kinds.Acceptance id (Some recipient) moment) row = absurd row
  has_text p entry (ReceiptItem (kinds.NonAcceptance cause) id None moment) row =
      ap (λ (o : Option Entry). is_some (option_and_then (refusal_by trade id) o)) row.there
  has_text p entry (ReceiptItem (kinds.NonAcceptance cause) id (Some recipient) moment) row = absurd row
  has_text p entry (ReceiptItem kinds.Delivery id (Some recipient) moment) row = is_some_by (body_at (J p) entry) row.receipt row.there
  has_text p entry (ReceiptItem kinds.Delivery id None moment) row = absurd row
  has_text p entry (ReceiptItem (kinds.DeliveryError refusals.NoMailbox) id (Some recipient) moment) row = is_some_by (body_at (J p) entry) row.receipt row.there
  has_text p entry (ReceiptItem (kinds.DeliveryError refusals.NoMailbox) id None moment) row = absurd row
  has_text p entry (ReceiptItem (kinds.DeliveryError refusals.MailboxFull) id (Some recipient) moment) row = is_some_by (body_at (J p) entry) row.receipt row.there
  has_text p entry (ReceiptItem (kinds.DeliveryError refusals.MailboxFull) id None moment) row = absurd row
  has_text p entry (ReceiptItem (kinds.DeliveryError refusals.Virus) id (Some recipient) moment) row =
      has_composed p (composed trade (kinds.DeliveryError refusals.Virus) id p moment (Some recipient)) id row.own.message row.own.ours row.own.accepted
  has_text p entry (ReceiptItem (kinds.DeliveryError refusals.Virus) id None moment) row = absurd row
  has_text p entry (ReceiptItem kinds.VirusFound id recipient moment) row = absurd row
  has_text p entry (ReceiptItem kinds.Warning id (Some recipient) moment) row =
      has_composed p (composed trade kinds.Warning id p moment (Some recipient)) id row.message row.ours row.accepted
  has_text p entry (ReceiptItem kinds.Warning id None moment) row = absurd row
  has_text p entry (ReceiptItem kinds.Notice id (Some recipient) moment) row =
      has_composed p (composed trade kinds.Notice id p moment (Some recipient)) id row.message row.ours row.accepted
  has_text p entry (ReceiptItem kinds.Notice id None moment) row = absurd row
  has_text p entry (ReceiptItem kinds.LateNotice id (Some recipient) moment) row =
      has_composed p (composed trade kinds.LateNotice id p moment (Some recipient)) id row.message row.ours row.accepted
  has_text p entry (ReceiptItem kinds.LateNotice id None moment) row = absurd row
  has_text p entry (ReceiptItem kinds.Charge id recipient moment) row = absurd row
  has_text p entry (ReceiptItem kinds.Ack id recipient moment) row = absurd row
  has_text p entry (AnomalyItem moment) row =
      ap (λ (o : Option Bytes). is_some (option_map (trade.anomaly_text p entry moment) o)) row.there

  pub items_have_texts : (p : ℕ) (posted : Posted) → Contains (ledger trade J p).items posted → IsSome (item_text trade p (J p) posted)
  unfolding item_text
  items_have_texts p posted c =
      has_text p posted.entry posted.item
      (All-contains (λ (q : Posted). ItemRow trade J p (J p) (ledger trade J p) q.entry q.item) (ledger trade J p).items posted (backed trade J p fit).items c)
