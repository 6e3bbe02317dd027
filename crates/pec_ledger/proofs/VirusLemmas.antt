-- A genuine text that is seen as the delivery error of a virus, which is no letter, is on a pair that is decided so.
use Rattle.std.proofs.Common.{◌≡◌, ℕ, inl, inr, refl, ap, sym, subst, ◌∙◌, Some, None}
use Rattle.std.proofs.lemmas.List.Elements.{All-contains}
use Rattle.std.proofs.lemmas.Option.{none-some, same_Some}
use Rattle.pec_types.specs.Bytes.{Bytes}
use Rattle.pec_types.specs.declared.letters.Letter.TheVariants as letters
use Rattle.pec_types.specs.declared.messages.Decision.{Decision}
use Rattle.pec_types.specs.declared.messages.Decision.TheVariants.{Placed, Refused}
use Rattle.pec_types.specs.declared.messages.Refusal.TheVariants as refusals
use Rattle.pec_types.specs.declared.receipts.Kind.TheVariants as kinds
use Rattle.pec_ledger.specs.Half.{Item, Known, Posted, EnvelopeItem, ReceiptItem, AnomalyItem}
use Rattle.pec_ledger.specs.Items.{item_text, text_by}
use Rattle.pec_ledger.specs.Ledger.{Fit, IsDecidedSo, Journals, ledger}
use Rattle.pec_ledger.specs.Lookups.{outcome_kind}
use Rattle.pec_ledger.specs.Network.{IsGenuineText}
use Rattle.pec_ledger.specs.Pairs.{Pair, pair_of, same_pair}
use Rattle.pec_ledger.specs.Trade.{Receipt, SeenReceipt, Trade}
use Rattle.pec_ledger.specs.TradeLaws.{IsTrade}
use Rattle.pec_ledger.proofs.Arrivals.{IsLetterText, acceptance_seen, ack_is_seen, anomaly_unseen, charge_is_seen, envelope_is_seen, envelope_item, learned_item, notice_seen, outcome_is_seen, receipts_same, refusal_seen}
use Rattle.pec_ledger.proofs.Backing.{ItemRow, VirusItem, backed}
use Rattle.pec_ledger.proofs.GuaranteeLemmas.{known_decided}
use Rattle.pec_ledger.proofs.ListLemmas.{found_there}
use Rattle.pec_ledger.proofs.Moments.{ItemInRange, item_in_range}
use Rattle.pec_ledger.proofs.PairLemmas.{same_pairs}

-- no letter on a decision is the delivery error of a virus
no_error : (decision : Decision) → outcome_kind decision ≡ kinds.DeliveryError refusals.Virus → ⊥
no_error Placed e = cc
no_error (Refused refusals.NoMailbox) e = cc
no_error (Refused refusals.MailboxFull) e = cc
no_error (Refused refusals.Virus) e = cc

module _ (trade : Trade) (J : Journals) (fit : Fit trade J) (laws : IsTrade trade) where
  -- a virus is what was decided on a pair
  abbrev pub IsInfected : Pair → Type 0
  IsInfected pair = (moment : ℕ) × IsDecidedSo trade J pair (Refused refusals.Virus) moment

  -- a text that is seen as the delivery error of a virus, on a recipient
  record IsVirusSeen (bytes : Bytes) (receipt : Receipt) (recipient : Bytes) : Type 0 where
    seen : trade.view bytes ≡ Some (SeenReceipt receipt)
    kind : receipt.kind ≡ kinds.DeliveryError refusals.Virus
    names : receipt.recipient ≡ Some recipient

  -- it is seen as this receipt too
  same_kind : (bytes : Bytes) (receipt : Receipt) (recipient : Bytes) → IsVirusSeen bytes receipt recipient
      → (other : Receipt) → trade.view bytes ≡ Some (SeenReceipt other) → other.kind ≡ kinds.DeliveryError refusals.Virus
  same_kind bytes receipt recipient is other e = ap (λ (r : Receipt). r.kind) (receipts_same trade J fit laws other receipt (sym e ∙ is.seen)) ∙ is.kind

  -- it is no licensed letter
  no_licence : (bytes : Bytes) (receipt : Receipt) (recipient : Bytes) → IsVirusSeen bytes receipt recipient → IsLetterText trade J fit laws bytes → ⊥
  no_licence bytes receipt recipient virus (letters.Envelope other to, is) = let e = sym (envelope_is_seen trade J fit laws other to bytes is) ∙ virus.seen in cc
  no_licence bytes receipt recipient virus (letters.Charge other by, is) =
      let e = same_kind bytes receipt recipient virus (record { kind = kinds.Charge; id = other; by = by; moment = is.row.moment; recipient = None }) (charge_is_seen trade J fit laws other by bytes is)
      in cc
  no_licence bytes receipt recipient virus (letters.Outcome other address, is) =
      no_error is.fate.decision
      (same_kind bytes receipt recipient virus
      (record { kind = outcome_kind is.fate.decision; id = other; by = is.home; moment = is.fate.moment; recipient = Some address })
      (outcome_is_seen trade J fit laws (pair_of other address) bytes is))
  no_licence bytes receipt recipient virus (letters.Ack other address, is) =
      let e = same_kind bytes receipt recipient virus (record { kind = kinds.Ack; id = other; by = other.provider; moment = is.row.moment; recipient = Some address })
      (ack_is_seen trade J fit laws (pair_of other address) bytes is)
      in cc

  -- what is known was decided so
  known_so : (p : ℕ) (pair : Pair) → VirusItem trade J p (ledger trade J p) pair → IsInfected pair
  known_so p pair item =
      let known = (ledger trade J p).known
      in let there = found_there (λ (k : Known). same_pair pair k.pair) known item.row item.known
      in let so = All-contains (λ (k : Known). IsDecidedSo trade J k.pair k.decision k.decided) known item.row (known_decided trade J fit p) there.0
      in (
        item.row.decided,
        subst (λ (d : Decision). IsDecidedSo trade J pair d item.row.decided) item.so
            (subst (λ (q : Pair). IsDecidedSo trade J q item.row.decision item.row.decided) (sym (same_pairs pair item.row.pair there.1)) so),
      )

  virus_of_item : (p entry : ℕ) (item : Item) (bytes : Bytes) → ItemInRange item → ItemRow trade J p (J p) (ledger trade J p) entry item
      → text_by trade p (J p) entry item ≡ Some bytes → (receipt : Receipt) (recipient : Bytes) → IsVirusSeen bytes receipt recipient
      → IsInfected (pair_of receipt.id recipient)
  unfolding ledger
  virus_of_item p entry (EnvelopeItem id) bytes range row e receipt recipient virus =
      absurd (no_licence bytes receipt recipient virus (envelope_item trade J fit laws p id bytes e))
  virus_of_item p entry (ReceiptItem kinds.Acceptance id None moment) bytes range row e receipt recipient virus =
      let f = same_kind bytes receipt recipient virus (record { kind = kinds.Acceptance; id = id; by = p; moment = moment; recipient = None }) (acceptance_seen trade J fit laws p id moment bytes range row e)
      in absurd (cc)
  virus_of_item p entry (ReceiptItem kinds.Acceptance id (Some address) moment) bytes range row e receipt recipient virus = absurd row
  virus_of_item p entry (ReceiptItem (kinds.NonAcceptance cause) id None moment) bytes range row e receipt recipient virus =
      let refusal = refusal_seen trade J fit laws p entry id bytes row e (SeenReceipt receipt) virus.seen
      in let f = sym refusal.1 ∙ virus.kind
      in absurd (cc)
  virus_of_item p entry (ReceiptItem (kinds.NonAcceptance cause) id (Some address) moment) bytes range row e receipt recipient virus = absurd row
  virus_of_item p entry (ReceiptItem kinds.Delivery id (Some address) moment) bytes range row e receipt recipient virus =
      absurd (no_licence bytes receipt recipient virus (learned_item trade J fit laws p entry id address bytes row e))
  virus_of_item p entry (ReceiptItem kinds.Delivery id None moment) bytes range row e receipt recipient virus = absurd row
  virus_of_item p entry (ReceiptItem (kinds.DeliveryError refusals.NoMailbox) id (Some address) moment) bytes range row e receipt recipient virus =
      absurd (no_licence bytes receipt recipient virus (learned_item trade J fit laws p entry id address bytes row e))
  virus_of_item p entry (ReceiptItem (kinds.DeliveryError refusals.NoMailbox) id None moment) bytes range row e receipt recipient virus = absurd row
  virus_of_item p entry (ReceiptItem (kinds.DeliveryError refusals.MailboxFull) id (Some address) moment) bytes range row e receipt recipient virus =
      absurd (no_licence bytes receipt recipient virus (learned_item trade J fit laws p entry id address bytes row e))
  virus_of_item p entry (ReceiptItem (kinds.DeliveryError refusals.MailboxFull) id None moment) bytes range row e receipt recipient virus = absurd row
  virus_of_item p entry (ReceiptItem (kinds.DeliveryError refusals.Virus) id (Some address) moment) bytes range row e receipt recipient virus =
      let made : Receipt = record { kind = kinds.DeliveryError refusals.Virus; id = id; by = p; moment = moment; recipient = Some address }
      in let seen = notice_seen trade J fit laws p (kinds.DeliveryError refusals.Virus) id address moment bytes range row.own e (λ facts ours names. names)
      in let same = receipts_same trade J fit laws made receipt (sym seen ∙ virus.seen)
      in let ids = ap (λ (r : Receipt). r.id) same
      in let addresses = same_Some address recipient (ap (λ (r : Receipt). r.recipient) same ∙ virus.names)
      in let pairs_same : pair_of id address ≡ pair_of receipt.id recipient = rw (ids, addresses) refl
      in subst IsInfected pairs_same (known_so p (pair_of id address) row)
  virus_of_item p entry (ReceiptItem (kinds.DeliveryError refusals.Virus) id None moment) bytes range row e receipt recipient virus = absurd row
  virus_of_item p entry (ReceiptItem kinds.VirusFound id address moment) bytes range row e receipt recipient virus = absurd row
  virus_of_item p entry (ReceiptItem kinds.Warning id (Some address) moment) bytes range row e receipt recipient virus =
      let f = same_kind bytes receipt recipient virus (record { kind = kinds.Warning; id = id; by = p; moment = moment; recipient = Some address })
      (notice_seen trade J fit laws p kinds.Warning id address moment bytes range row e (λ facts ours names. (sym ours, names)))
      in absurd (cc)
  virus_of_item p entry (ReceiptItem kinds.Warning id None moment) bytes range row e receipt recipient virus = absurd row
  virus_of_item p entry (ReceiptItem kinds.Notice id (Some address) moment) bytes range row e receipt recipient virus =
      let f = same_kind bytes receipt recipient virus (record { kind = kinds.Notice; id = id; by = p; moment = moment; recipient = Some address })
      (notice_seen trade J fit laws p kinds.Notice id address moment bytes range row e (λ facts ours names. (sym ours, names)))
      in absurd (cc)
  virus_of_item p entry (ReceiptItem kinds.Notice id None moment) bytes range row e receipt recipient virus = absurd row
  virus_of_item p entry (ReceiptItem kinds.LateNotice id (Some address) moment) bytes range row e receipt recipient virus =
      let f = same_kind bytes receipt recipient virus (record { kind = kinds.LateNotice; id = id; by = p; moment = moment; recipient = Some address })
      (notice_seen trade J fit laws p kinds.LateNotice id address moment bytes range row e (λ facts ours names. (sym ours, names)))
      in absurd (cc)
  virus_of_item p entry (ReceiptItem kinds.LateNotice id None moment) bytes range row e receipt recipient virus = absurd row
  virus_of_item p entry (ReceiptItem kinds.Charge id address moment) bytes range row e receipt recipient virus = absurd row
  virus_of_item p entry (ReceiptItem kinds.Ack id address moment) bytes range row e receipt recipient virus = absurd row
  virus_of_item p entry (AnomalyItem moment) bytes range row e receipt recipient virus =
      absurd (none-some (SeenReceipt receipt) (sym (anomaly_unseen trade J fit laws p entry moment bytes range row e) ∙ virus.seen))

  virus_of_genuine : (bytes : Bytes) → IsGenuineText trade J bytes → (receipt : Receipt) (recipient : Bytes) → IsVirusSeen bytes receipt recipient
      → IsInfected (pair_of receipt.id recipient)
  unfolding item_text
  virus_of_genuine bytes (inl licensed) receipt recipient virus = absurd (no_licence bytes receipt recipient virus licensed)
  virus_of_genuine bytes (inr is) receipt recipient virus =
      virus_of_item is.provider is.posted.entry is.posted.item bytes
      (item_in_range trade J fit is.provider is.posted is.placed)
      (All-contains (λ (posted : Posted). ItemRow trade J is.provider (J is.provider) (ledger trade J is.provider) posted.entry posted.item)
      (ledger trade J is.provider).items is.posted (backed trade J is.provider fit).items is.placed)
      is.text receipt recipient virus

  pub virus_told : (bytes : Bytes) → IsGenuineText trade J bytes → (receipt : Receipt) → trade.view bytes ≡ Some (SeenReceipt receipt)
      → receipt.kind ≡ kinds.DeliveryError refusals.Virus → (recipient : Bytes) → receipt.recipient ≡ Some recipient
      → IsInfected (pair_of receipt.id recipient)
  virus_told bytes genuine receipt seen kind recipient names =
      virus_of_genuine bytes genuine receipt recipient (record { seen = seen; kind = kind; names = names })
