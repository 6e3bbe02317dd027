-- In journals that are Fit: rows license letters, what is seen in a licensed text is its letter, an item's text is a
-- letter's or is seen as none, and a genuine message meets the joint condition of the entry that it leads to.
use Rattle.std.proofs.Common.{◌≡◌, ℕ, zero, suc, ◌<◌, List, [], ◌∷◌, true, ◌⊎◌, inl, inr, refl, ap, sym, subst, ◌∙◌, arith, Option, Some, None}
use Rattle.std.specs.Prelude.{Contains, IsSome, IsTrue, slice_get}
use Rattle.std.specs.Option.{option_and_then, option_map}
use Rattle.std.proofs.lemmas.List.Elements.{All-contains}
use Rattle.std.proofs.lemmas.Option.{none-some, same_Some, slice_get_within}
use Rattle.std.proofs.lemmas.Bool.{eqb-true}
use Rattle.pec_types.specs.Bytes.{Bytes, Path}
use Rattle.pec_types.specs.Message.{Id}
use Rattle.pec_types.specs.declared.letters.Letter.{Letter}
use Rattle.pec_types.specs.declared.letters.Letter.TheVariants as letters
use Rattle.pec_types.specs.declared.messages.Decision.{Decision}
use Rattle.pec_types.specs.declared.messages.Decision.TheVariants.{Placed, Refused}
use Rattle.pec_types.specs.declared.messages.Facts.{Facts}
use Rattle.pec_types.specs.declared.messages.Refusal.TheVariants as refusals
use Rattle.pec_types.specs.declared.moments.TheConstants.{END_OF_TIME}
use Rattle.pec_types.specs.declared.receipts.Kind.{Kind}
use Rattle.pec_types.specs.declared.receipts.Kind.TheVariants as kinds
use Rattle.pec_ledger.specs.Half.{Fate, Item, Known, Message, Posted, Taken, EnvelopeItem, ReceiptItem, AnomalyItem}
use Rattle.pec_ledger.specs.Items.{IsItemText, accepted_body, composed, item_text, original_at, refusal_by, taken_body, text_by}
use Rattle.pec_ledger.specs.Ledger.{Fit, HasOriginal, IsAckText, IsChargeText, IsDecidedSo, IsEnvelopeText, IsLicensed, IsLicensedText, IsOutcomeText, Journals, accepted_in, body_at, decided_at, ledger}
use Rattle.pec_ledger.specs.Lookups.{Accepted, HasPairsAt, accepted_at, accepted_of, addresses_of, at_home, decided_of, is_home, known_of, outcome_kind, taken_of}
use Rattle.pec_ledger.specs.Network.{IsGenuineText}
use Rattle.pec_ledger.specs.Own.{IsOwnPair, IsTakenPair}
use Rattle.pec_ledger.specs.Pairs.{Pair, pair_of, same_id, same_pair}
use Rattle.pec_ledger.specs.Steps.{half}
use Rattle.pec_ledger.specs.Trade.{Receipt, Seen, SeenEnvelope, SeenReceipt, Trade}
use Rattle.pec_ledger.specs.TradeLaws.{CanBeComposed, IsOfKind, IsRefusal, IsSent, IsTrade, Names, letter_in, letter_on, letter_seen}
use Rattle.pec_ledger.proofs.Backing.{AcceptedItem, AnomalyRow, IsSentRow, ItemRow, LearnedItem, RefusedItem, SentRow, TakenRow, backed}
use Rattle.pec_ledger.proofs.Growth.{is_some_by}
use Rattle.pec_ledger.proofs.GuaranteeLemmas.{known_own}
use Rattle.pec_ledger.proofs.ListLemmas.{both_found, found_there, from_filter, mapped}
use Rattle.pec_ledger.proofs.Moments.{ItemInRange, fate_in_range, item_in_range, known_in_range, message_in_range, taken_in_range}
use Rattle.pec_ledger.proofs.PairLemmas.{same_ids, same_pairs}

contains_at : {X : Type 0} (xs : List X) (n : ℕ) (x : X) → slice_get xs n ≡ Some x → Contains xs x
contains_at [] n x e = absurd (none-some x e)
contains_at (y ∷ xs) zero x e = (0, omega arith, same_Some y x e)
contains_at (y ∷ xs) (suc n) x e = let there = contains_at xs n x e in (suc there.0, omega (arith, there.1), there.2)

home_is : (p : ℕ) (home : Option ℕ) → is_home p home ≡ true → home ≡ Some p
home_is p None e = absurd (cc)
home_is p (Some q) e = ap (λ k. Some k) (sym (eqb-true p q e))

no_charge : (decision : Decision) → outcome_kind decision ≡ kinds.Charge → ⊥
no_charge Placed e = cc
no_charge (Refused refusals.NoMailbox) e = cc
no_charge (Refused refusals.MailboxFull) e = cc
no_charge (Refused refusals.Virus) e = cc

no_ack : (decision : Decision) → outcome_kind decision ≡ kinds.Ack → ⊥
no_ack Placed e = cc
no_ack (Refused refusals.NoMailbox) e = cc
no_ack (Refused refusals.MailboxFull) e = cc
no_ack (Refused refusals.Virus) e = cc

-- the decision that a letter tells, by its kind
abbrev told_by : Kind → Decision
told_by (kinds.DeliveryError refusal) = Refused refusal
told_by kinds.VirusFound = Refused refusals.Virus
told_by _ = Placed

told_back : (decision : Decision) → told_by (outcome_kind decision) ≡ decision
told_back Placed = refl
told_back (Refused refusals.NoMailbox) = refl
told_back (Refused refusals.MailboxFull) = refl
told_back (Refused refusals.Virus) = refl

decision_is : (a b : Decision) → outcome_kind a ≡ outcome_kind b → a ≡ b
decision_is a b e = sym (told_back a) ∙ ap told_by e ∙ told_back b

outcome_on : (decision : Decision) (id : Id) (by : ℕ) (recipient : Bytes) → letter_on (outcome_kind decision) id by (Some recipient) ≡ Some (letters.Outcome id recipient)
outcome_on Placed id by recipient = refl
outcome_on (Refused refusals.NoMailbox) id by recipient = refl
outcome_on (Refused refusals.MailboxFull) id by recipient = refl
outcome_on (Refused refusals.Virus) id by recipient = refl

-- what is seen as a notice of non-acceptance, or as nothing, is no letter
no_letter : (me : ℕ) (found : Option Seen) → ((seen : Seen) → found ≡ Some seen → IsRefusal seen) → option_and_then (letter_seen me) found ≡ None
no_letter me None is = refl
no_letter me (Some (SeenEnvelope id moment original)) is = absurd (is (SeenEnvelope id moment original) refl)
no_letter me (Some (SeenReceipt receipt)) is =
    let refusal = is (SeenReceipt receipt) refl
    in ap (λ (k : Kind). letter_on k receipt.id receipt.by receipt.recipient) refusal.1

module _ (trade : Trade) (J : Journals) (fit : Fit trade J) where
  -- ---- originals

  pub row_of : (id : Id) (m : Accepted) → accepted_in trade J id ≡ Some m
      → (row : Message) × (slice_get (ledger trade J id.provider).messages id.number ≡ Some row) × (accepted_of row ≡ Some m)
  row_of id m e = both_found accepted_of (slice_get (ledger trade J id.provider).messages id.number) m e

  pub facts_of : (row : Message) (m : Accepted) → accepted_of row ≡ Some m → (row.facts ≡ Some m.facts) × (row.sender ≡ m.sender) × (row.entry ≡ m.entry)
  facts_of row m e =
      let made = mapped (λ (facts : Facts). record { moment = row.moment; sender = row.sender; facts = facts; entry = row.entry }) row.facts m e
      in (made.1 ∙ ap (λ (a : Accepted). Some a.facts) made.2, ap (λ (a : Accepted). a.sender) made.2, ap (λ (a : Accepted). a.entry) made.2)

  pub sent_row : (id : Id) (m : Accepted) (row : Message) → slice_get (ledger trade J id.provider).messages id.number ≡ Some row → row.facts ≡ Some m.facts
      → IsSentRow trade J id.provider (J id.provider) row m.facts
  sent_row id m row there facts =
      All-contains (SentRow trade J id.provider (J id.provider)) (ledger trade J id.provider).messages row (backed trade J id.provider fit).sent
      (contains_at (ledger trade J id.provider).messages id.number row there) m.facts facts

  accepted_in_range : (id : Id) (m : Accepted) → accepted_in trade J id ≡ Some m → m.moment < END_OF_TIME
  accepted_in_range id m e =
      let row = row_of id m e
      in let made = mapped (λ (facts : Facts). record { moment = row.0.moment; sender = row.0.sender; facts = facts; entry = row.0.entry }) row.0.facts m row.2
      in subst (λ (a : Accepted). a.moment < END_OF_TIME) made.2
      (message_in_range trade J fit id.provider row.0 (contains_at (ledger trade J id.provider).messages id.number row.0 row.1))

  pub has_original : (id : Id) (m : Accepted) → accepted_in trade J id ≡ Some m → (original : Bytes) × HasOriginal trade J id m original
  has_original id m e =
      let row = row_of id m e
      in let facts = facts_of row.0 m row.2
      in let sent = sent_row id m row.0 row.1 facts.0
      in (
        sent.original,
        record {
          accepted = e;
          bytes = ap (body_at (J id.provider)) (sym facts.2) ∙ sent.there;
          facts = sent.are;
        },
      )

  -- ---- rows license letters

  pub envelope_licensed : (id : Id) (m : Accepted) (to : ℕ) → accepted_in trade J id ≡ Some m → HasPairsAt trade m to → IsLicensed trade J (letters.Envelope id to)
  envelope_licensed id m to e pairs =
      let has = has_original id m e
      in (trade.envelope_text id m.moment has.0, record { message = m; original = has.0; is = has.1; pairs = pairs; text = refl })

  pub taken_row : (q : ℕ) (id : Id) (row : Taken) → taken_of (ledger trade J q) id ≡ Some row → (row.id ≡ id) × TakenRow trade J q (J q) row
  taken_row q id row e =
      let there = found_there (λ (taken : Taken). same_id id taken.id) (ledger trade J q).taken row e
      in (sym (same_ids id row.id there.1), All-contains (TakenRow trade J q (J q)) (ledger trade J q).taken row (backed trade J q fit).taken there.0)

  pub envelope_of : (q : ℕ) (id : Id) (row : Taken) → taken_of (ledger trade J q) id ≡ Some row → (bytes : Bytes) × IsEnvelopeText trade J id q bytes × (row.recipients ≡ at_home trade q (trade.envelope_recipients bytes))
  envelope_of q id row e =
      let is = taken_row q id row e
      in (is.1.envelope, subst (λ (i : Id). IsEnvelopeText trade J i q is.1.envelope) is.0 is.1.text, is.1.recipients)

  -- what was taken is the licensed envelope, as it arrived
  pub taken_envelope : (q : ℕ) (id : Id) (row : Taken) → taken_of (ledger trade J q) id ≡ Some row
      → (bytes : Bytes) × (body_at (J q) row.entry ≡ Some bytes) × IsEnvelopeText trade J id q bytes
  taken_envelope q id row e =
      let is = taken_row q id row e
      in (is.1.envelope, is.1.there, subst (λ (i : Id). IsEnvelopeText trade J i q is.1.envelope) is.0 is.1.text)

  pub charge_licensed : (by : ℕ) (id : Id) (row : Taken) → taken_of (ledger trade J by) id ≡ Some row → IsLicensed trade J (letters.Charge id by)
  charge_licensed by id row e =
      let envelope = (envelope_of by id row e).1
      in (_, record { message = envelope.message; original = envelope.original; is = envelope.is; row = row; taken = e; text = refl })

  pub taken_pair : (q : ℕ) (pair : Pair) (fate : Fate) → decided_of (ledger trade J q) pair ≡ Some fate → IsTakenPair trade q (ledger trade J q) pair
  taken_pair q pair fate e =
      let there = found_there (λ (f : Fate). same_pair pair f.pair) (ledger trade J q).decided fate e
      in subst (IsTakenPair trade q (ledger trade J q)) (sym (same_pairs pair fate.pair there.1))
      (All-contains (λ (f : Fate). IsTakenPair trade q (ledger trade J q) f.pair) (ledger trade J q).decided fate (backed trade J q fit).decided there.0)

  -- where a pair is decided its recipient is at home
  pub decided_at_home : (q : ℕ) (pair : Pair) (fate : Fate) → decided_of (ledger trade J q) pair ≡ Some fate → trade.home pair.recipient ≡ Some q
  decided_at_home q pair fate e =
      let taken = taken_pair q pair fate e
      in let envelope = envelope_of q pair.id taken.row taken.taken
      in let among = subst (λ (l : Path). Contains l pair.recipient) envelope.2 taken.recipient
      in home_is q (trade.home pair.recipient)
      (from_filter (λ (address : Bytes). is_home q (trade.home address)) (trade.envelope_recipients envelope.0) pair.recipient among).1

  pub outcome_licensed : (q : ℕ) (pair : Pair) (fate : Fate) → decided_of (ledger trade J q) pair ≡ Some fate → IsLicensed trade J (letters.Outcome pair.id pair.recipient)
  outcome_licensed q pair fate e =
      let taken = taken_pair q pair fate e
      in let envelope = (envelope_of q pair.id taken.row taken.taken).1
      in (
        _,
        record {
          message = envelope.message;
          original = envelope.original;
          is = envelope.is;
          home = q;
          at_home = decided_at_home q pair fate e;
          fate = fate;
          decided = e;
          text = refl;
        },
      )

  pub own_known : (p : ℕ) (pair : Pair) (row : Known) → known_of (ledger trade J p) pair ≡ Some row → IsOwnPair trade p (ledger trade J p) pair
  own_known p pair row e =
      let there = found_there (λ (k : Known). same_pair pair k.pair) (ledger trade J p).known row e
      in subst (IsOwnPair trade p (ledger trade J p)) (sym (same_pairs pair row.pair there.1))
      (All-contains (λ (k : Known). IsOwnPair trade p (ledger trade J p) k.pair) (ledger trade J p).known row (known_own trade J fit p) there.0)

  pub ack_licensed : (pair : Pair) (row : Known) → known_of (ledger trade J pair.id.provider) pair ≡ Some row → IsLicensed trade J (letters.Ack pair.id pair.recipient)
  ack_licensed pair row e =
      let own = own_known pair.id.provider pair row e
      in let has = has_original pair.id own.message own.accepted
      in (_, record { message = own.message; original = has.0; is = has.1; row = row; known = e; text = refl })

  -- ---- what is seen in licensed texts

  module _ (laws : IsTrade trade) where
    pub is_sent : (id : Id) (m : Accepted) (original : Bytes) → HasOriginal trade J id m original → IsSent trade id original
    is_sent id m original has =
        let row = row_of id m has.accepted
        in let facts = facts_of row.0 m row.2
        in let sent = sent_row id m row.0 row.1 facts.0
        in let same : sent.original ≡ original = same_Some sent.original original (sym sent.there ∙ ap (body_at (J id.provider)) facts.2 ∙ has.bytes)
        in let account : IsTrue (trade.is_account id.provider m.facts.sender) = subst (λ (a : Bytes). IsTrue (trade.is_account id.provider a)) (sym sent.sender) sent.account
        in let within = slice_get_within (ledger trade J id.provider).messages id.number row.0 row.1
        in record {
          provider = laws.homes m.facts.sender id.provider (laws.accounts id.provider m.facts.sender account);
          number = let few = (backed trade J id.provider fit).few in omega (arith, within, few);
          facts = m.facts;
          are = has.facts;
          account = account;
          admitted = subst (λ (o : Bytes). trade.cause id.provider m.facts.sender (addresses_of m.facts) o ≡ None) same
              (subst (λ (a : Bytes). trade.cause id.provider a (addresses_of m.facts) sent.original ≡ None) (sym sent.sender) sent.admitted);
          few = sent.few;
        }

    pub envelope_is_seen : (id : Id) (to : ℕ) (bytes : Bytes) (is : IsEnvelopeText trade J id to bytes) → trade.view bytes ≡ Some (SeenEnvelope id is.message.moment is.original)
    envelope_is_seen id to bytes is =
        ap trade.view is.text ∙ laws.envelope_seen id is.message.moment is.original (is_sent id is.message is.original is.is)
        (accepted_in_range id is.message is.is.accepted)

    pub envelope_names : (id : Id) (to : ℕ) (bytes : Bytes) (is : IsEnvelopeText trade J id to bytes) → trade.envelope_recipients bytes ≡ addresses_of is.message.facts
    unfolding is_sent
    envelope_names id to bytes is =
        ap trade.envelope_recipients is.text ∙ laws.envelope_names id is.message.moment is.original (is_sent id is.message is.original is.is)
        (accepted_in_range id is.message is.is.accepted)

    -- the receipts of journals, as they are stated
    abbrev charged : (id : Id) (by : ℕ) (bytes : Bytes) → IsChargeText trade J id by bytes → Receipt
    charged id by bytes is = record { kind = kinds.Charge; id = id; by = by; moment = is.row.moment; recipient = None }

    abbrev told : (pair : Pair) (bytes : Bytes) → IsOutcomeText trade J pair bytes → Receipt
    told pair bytes is = record { kind = outcome_kind is.fate.decision; id = pair.id; by = is.home; moment = is.fate.moment; recipient = Some pair.recipient }

    abbrev acked : (pair : Pair) (bytes : Bytes) → IsAckText trade J pair bytes → Receipt
    acked pair bytes is = record { kind = kinds.Ack; id = pair.id; by = pair.id.provider; moment = is.row.moment; recipient = Some pair.recipient }

    pub envelope_was_sent : (id : Id) (to : ℕ) (bytes : Bytes) (is : IsEnvelopeText trade J id to bytes) → IsSent trade id is.original × (is.message.moment < END_OF_TIME)
    envelope_was_sent id to bytes is = (is_sent id is.message is.original is.is, accepted_in_range id is.message is.is.accepted)

    pub charge_can : (id : Id) (by : ℕ) (bytes : Bytes) (is : IsChargeText trade J id by bytes) → CanBeComposed trade (charged id by bytes is) is.original
    charge_can id by bytes is = record {
      sent = is_sent id is.message is.original is.is;
      by = let pairs = (envelope_of by id is.row is.taken).1.pairs in laws.homes pairs.0 by pairs.2;
      in_range = taken_in_range trade J fit by id is.row is.taken;
      kind = refl;
    }

    pub charge_is_seen : (id : Id) (by : ℕ) (bytes : Bytes) (is : IsChargeText trade J id by bytes) → trade.view bytes ≡ Some (SeenReceipt (charged id by bytes is))
    charge_is_seen id by bytes is = ap trade.view is.text ∙ laws.receipt_seen (charged id by bytes is) is.original (charge_can id by bytes is)

    -- a pair that is decided is one of the message
    decided_among : (q : ℕ) (pair : Pair) (m : Accepted) (original : Bytes) → HasOriginal trade J pair.id m original → (fate : Fate) → decided_of (ledger trade J q) pair ≡ Some fate
        → Contains (addresses_of m.facts) pair.recipient
    decided_among q pair m original has fate e =
        let taken = taken_pair q pair fate e
        in let envelope = envelope_of q pair.id taken.row taken.taken
        in let among = subst (λ (l : Path). Contains l pair.recipient) envelope.2 taken.recipient
        in let named = (from_filter (λ (address : Bytes). is_home q (trade.home address)) (trade.envelope_recipients envelope.0) pair.recipient among).0
        in let same : envelope.1.message ≡ m = same_Some envelope.1.message m (sym envelope.1.is.accepted ∙ has.accepted)
        in subst (λ (l : Path). Contains l pair.recipient) (envelope_names pair.id q envelope.0 envelope.1 ∙ ap (λ (a : Accepted). addresses_of a.facts) same) named

    outcome_of_kind : (facts : Facts) (decision : Decision) (id : Id) (by moment : ℕ) (recipient : Bytes) → Contains (addresses_of facts) recipient → IsSome (trade.home recipient)
        → IsOfKind trade facts (outcome_kind decision) (record { kind = outcome_kind decision; id = id; by = by; moment = moment; recipient = Some recipient })
    outcome_of_kind facts Placed id by moment recipient among home = record { address = recipient; is = refl; among = among; home = home }
    outcome_of_kind facts (Refused refusals.NoMailbox) id by moment recipient among home = record { address = recipient; is = refl; among = among; home = home }
    outcome_of_kind facts (Refused refusals.MailboxFull) id by moment recipient among home = record { address = recipient; is = refl; among = among; home = home }
    outcome_of_kind facts (Refused refusals.Virus) id by moment recipient among home = record { address = recipient; is = refl; among = among; home = home }

    pub outcome_can : (pair : Pair) (bytes : Bytes) (is : IsOutcomeText trade J pair bytes) → CanBeComposed trade (told pair bytes is) is.original
    unfolding is_sent
    outcome_can pair bytes is = record {
      sent = is_sent pair.id is.message is.original is.is;
      by = laws.homes pair.recipient is.home is.at_home;
      in_range = fate_in_range trade J fit is.home pair is.fate is.decided;
      kind = outcome_of_kind is.message.facts is.fate.decision pair.id is.home is.fate.moment pair.recipient
          (decided_among is.home pair is.message is.original is.is is.fate is.decided) (is_some_by (trade.home pair.recipient) is.home is.at_home);
    }

    pub outcome_is_seen : (pair : Pair) (bytes : Bytes) (is : IsOutcomeText trade J pair bytes) → trade.view bytes ≡ Some (SeenReceipt (told pair bytes is))
    outcome_is_seen pair bytes is = ap trade.view is.text ∙ laws.receipt_seen (told pair bytes is) is.original (outcome_can pair bytes is)

    pub ack_can : (pair : Pair) (bytes : Bytes) (is : IsAckText trade J pair bytes) → CanBeComposed trade (acked pair bytes is) is.original
    unfolding is_sent
    ack_can pair bytes is =
        let own = own_known pair.id.provider pair is.row is.known
        in let same : own.message ≡ is.message = same_Some own.message is.message (sym own.accepted ∙ is.is.accepted)
        in let sent = is_sent pair.id is.message is.original is.is
        in record {
          sent = sent;
          by = sent.provider;
          in_range = known_in_range trade J fit pair.id.provider pair is.row is.known;
          kind = record {
            address = pair.recipient;
            is = refl;
            among = subst (λ (a : Accepted). Contains (addresses_of a.facts) pair.recipient) same own.recipient.0;
            home = own.recipient.1;
          };
        }

    pub ack_is_seen : (pair : Pair) (bytes : Bytes) (is : IsAckText trade J pair bytes) → trade.view bytes ≡ Some (SeenReceipt (acked pair bytes is))
    ack_is_seen pair bytes is = ap trade.view is.text ∙ laws.receipt_seen (acked pair bytes is) is.original (ack_can pair bytes is)

    -- ---- items

    abbrev pub IsLetterOrNone : Bytes → Type 0
    IsLetterOrNone bytes = ((letter : Letter) × IsLicensedText trade J letter bytes) ⊎ ((me : ℕ) → letter_in trade me bytes ≡ None)

    same_bytes : (o : Option Bytes) (a b : Bytes) → o ≡ Some a → o ≡ Some b → a ≡ b
    same_bytes o a b e f = same_Some a b (sym e ∙ f)

    -- what is composed is seen as what it was composed of
    composed_seen : (receipt : Receipt) (original bytes : Bytes) → CanBeComposed trade receipt original → trade.receipt_text receipt original ≡ bytes
        → trade.view bytes ≡ Some (SeenReceipt receipt)
    composed_seen receipt original bytes can e = ap trade.view (sym e) ∙ laws.receipt_seen receipt original can

    -- a receipt that is no letter
    seen_as_none : (receipt : Receipt) (bytes : Bytes) → trade.view bytes ≡ Some (SeenReceipt receipt)
        → letter_on receipt.kind receipt.id receipt.by receipt.recipient ≡ None → IsLetterOrNone bytes
    seen_as_none receipt bytes seen none =
        inr (λ me. ap (λ (o : Option Seen). option_and_then (letter_seen me) o) seen ∙ none)

    -- the original of this provider's message of a number
    original_is : (p : ℕ) (id : Id) (original : Bytes) → id.provider ≡ p → original_at trade p (J p) id.number ≡ Some original
        → (m : Accepted) × HasOriginal trade J id m original
    unfolding ledger
    original_is p id original ours e =
        let mine : original_at trade id.provider (J id.provider) id.number ≡ Some original =
        subst (λ (q : ℕ). original_at trade q (J q) id.number ≡ Some original) (sym ours) e
        in of_mine mine
      where
        of_mine : original_at trade id.provider (J id.provider) id.number ≡ Some original → (m : Accepted) × HasOriginal trade J id m original
        of_mine mine =
            let found = both_found (accepted_body (J id.provider)) (accepted_at (half trade id.provider (J id.provider)) id.number) original mine
            in let has = has_original id found.0 found.1
            in let same : has.0 ≡ original = same_bytes (body_at (J id.provider) found.0.entry) has.0 original has.1.bytes found.2
            in (found.0, subst (λ (o : Bytes). HasOriginal trade J id found.0 o) same has.1)

    pub notice_seen : (p : ℕ) (kind : Kind) (id : Id) (recipient : Bytes) (moment : ℕ) (bytes : Bytes) → moment < END_OF_TIME → IsOwnPair trade p (ledger trade J p) (pair_of id recipient)
        → option_map (composed trade kind id p moment (Some recipient)) (original_at trade p (J p) id.number) ≡ Some bytes
        → ((facts : Facts) → (id.provider ≡ p) → Names trade facts (Some recipient) → IsOfKind trade facts kind (record { kind = kind; id = id; by = p; moment = moment; recipient = Some recipient }))
        → trade.view bytes ≡ Some (SeenReceipt (record { kind = kind; id = id; by = p; moment = moment; recipient = Some recipient }))
    unfolding is_sent
    notice_seen p kind id recipient moment bytes range own e of_kind =
        let made = mapped (composed trade kind id p moment (Some recipient)) (original_at trade p (J p) id.number) bytes e
        in let has = original_is p id made.0 own.ours made.1
        in let sent = is_sent id has.0 made.0 has.1
        in let there : accepted_in trade J id ≡ Some own.message = subst (λ (q : ℕ). accepted_at (ledger trade J q) id.number ≡ Some own.message) (sym own.ours) own.accepted
        in let same : own.message ≡ has.0 = same_Some own.message has.0 (sym there ∙ has.1.accepted)
        in composed_seen (record { kind = kind; id = id; by = p; moment = moment; recipient = Some recipient }) made.0 bytes
        (record {
          sent = sent;
          by = subst (λ (q : ℕ). q < trade.providers) own.ours sent.provider;
          in_range = range;
          kind = of_kind has.0.facts own.ours (record {
            address = recipient;
            is = refl;
            among = subst (λ (a : Accepted). Contains (addresses_of a.facts) recipient) same own.recipient.0;
            home = own.recipient.1;
          });
        })
        made.2

    notice_is_none : (p : ℕ) (kind : Kind) (id : Id) (recipient : Bytes) (moment : ℕ) (bytes : Bytes) → moment < END_OF_TIME → IsOwnPair trade p (ledger trade J p) (pair_of id recipient)
        → option_map (composed trade kind id p moment (Some recipient)) (original_at trade p (J p) id.number) ≡ Some bytes
        → ((facts : Facts) → (id.provider ≡ p) → Names trade facts (Some recipient) → IsOfKind trade facts kind (record { kind = kind; id = id; by = p; moment = moment; recipient = Some recipient }))
        → letter_on kind id p (Some recipient) ≡ None → IsLetterOrNone bytes
    notice_is_none p kind id recipient moment bytes range own e of_kind none =
        seen_as_none (record { kind = kind; id = id; by = p; moment = moment; recipient = Some recipient }) bytes
        (notice_seen p kind id recipient moment bytes range own e of_kind) none

    pub acceptance_seen : (p : ℕ) (id : Id) (moment : ℕ) (bytes : Bytes) → moment < END_OF_TIME → AcceptedItem trade J p (ledger trade J p) id
        → option_map (composed trade kinds.Acceptance id p moment None) (original_at trade p (J p) id.number) ≡ Some bytes
        → trade.view bytes ≡ Some (SeenReceipt (record { kind = kinds.Acceptance; id = id; by = p; moment = moment; recipient = None }))
    acceptance_seen p id moment bytes range item e =
        let made = mapped (composed trade kinds.Acceptance id p moment None) (original_at trade p (J p) id.number) bytes e
        in let has = original_is p id made.0 item.ours made.1
        in let sent = is_sent id has.0 made.0 has.1
        in composed_seen (record { kind = kinds.Acceptance; id = id; by = p; moment = moment; recipient = None }) made.0 bytes
        (record { sent = sent; by = subst (λ (q : ℕ). q < trade.providers) item.ours sent.provider; in_range = range; kind = (sym item.ours, refl) }) made.2

    acceptance_is_none : (p : ℕ) (id : Id) (moment : ℕ) (bytes : Bytes) → moment < END_OF_TIME → AcceptedItem trade J p (ledger trade J p) id
        → option_map (composed trade kinds.Acceptance id p moment None) (original_at trade p (J p) id.number) ≡ Some bytes → IsLetterOrNone bytes
    acceptance_is_none p id moment bytes range item e =
        seen_as_none (record { kind = kinds.Acceptance; id = id; by = p; moment = moment; recipient = None }) bytes
        (acceptance_seen p id moment bytes range item e) refl

    -- an item that is a licensed letter
    abbrev pub IsLetterText : Bytes → Type 0
    IsLetterText bytes = (letter : Letter) × IsLicensedText trade J letter bytes

    pub envelope_item : (p : ℕ) (id : Id) (bytes : Bytes) → option_and_then (taken_body (J p)) (taken_of (ledger trade J p) id) ≡ Some bytes → IsLetterText bytes
    envelope_item p id bytes e =
        let found = both_found (taken_body (J p)) (taken_of (ledger trade J p) id) bytes e
        in let is = taken_row p id found.0 found.1
        in let same : is.1.envelope ≡ bytes = same_bytes (body_at (J p) found.0.entry) is.1.envelope bytes is.1.there found.2
        in (letters.Envelope found.0.id p, subst (λ (b : Bytes). IsEnvelopeText trade J found.0.id p b) same is.1.text)

    pub learned_item : (p entry : ℕ) (id : Id) (recipient bytes : Bytes) → LearnedItem trade J p (J p) entry (pair_of id recipient) → body_at (J p) entry ≡ Some bytes → IsLetterText bytes
    learned_item p entry id recipient bytes item e =
        (letters.Outcome id recipient, subst (λ (b : Bytes). IsOutcomeText trade J (pair_of id recipient) b) (same_bytes (body_at (J p) entry) item.receipt bytes item.there e) item.text)

    pub refusal_seen : (p entry : ℕ) (id : Id) (bytes : Bytes) → RefusedItem trade J p (J p) entry id → option_and_then (refusal_by trade id) (slice_get (J p) entry) ≡ Some bytes
        → (seen : Seen) → trade.view bytes ≡ Some seen → IsRefusal seen
    refusal_seen p entry id bytes item e =
        let text = trade.refusal_text id item.moment item.sender item.cause item.path item.message
        in let made : option_and_then (refusal_by trade id) (slice_get (J p) entry) ≡ Some text = ap (option_and_then (refusal_by trade id)) item.there
        in let same : text ≡ bytes = same_bytes (option_and_then (refusal_by trade id) (slice_get (J p) entry)) text bytes made e
        in let account : IsTrue (trade.is_account id.provider item.sender) = subst (λ (q : ℕ). IsTrue (trade.is_account q item.sender)) (sym item.ours) item.account
        in subst (λ (b : Bytes). (seen : Seen) → trade.view b ≡ Some seen → IsRefusal seen) same
        (laws.refusal_seen id item.moment item.sender item.cause item.path item.message (laws.homes item.sender id.provider (laws.accounts id.provider item.sender account))
        item.number account item.some item.few item.in_range)

    refused_item : (p entry : ℕ) (id : Id) (bytes : Bytes) → RefusedItem trade J p (J p) entry id → option_and_then (refusal_by trade id) (slice_get (J p) entry) ≡ Some bytes → IsLetterOrNone bytes
    refused_item p entry id bytes item e = inr (λ me. no_letter me (trade.view bytes) (refusal_seen p entry id bytes item e))

    pub anomaly_unseen : (p entry moment : ℕ) (bytes : Bytes) → moment < END_OF_TIME → AnomalyRow trade J p (J p) entry → option_map (trade.anomaly_text p entry moment) (body_at (J p) entry) ≡ Some bytes
        → trade.view bytes ≡ None
    anomaly_unseen p entry moment bytes range row e =
        let made = mapped (trade.anomaly_text p entry moment) (body_at (J p) entry) bytes e
        in subst (λ (b : Bytes). trade.view b ≡ None) made.2
        (laws.anomaly_seen p entry moment made.0 (laws.homes row.account p (laws.accounts p row.account row.is)) range)

    anomaly_item : (p entry moment : ℕ) (bytes : Bytes) → moment < END_OF_TIME → AnomalyRow trade J p (J p) entry → option_map (trade.anomaly_text p entry moment) (body_at (J p) entry) ≡ Some bytes → IsLetterOrNone bytes
    anomaly_item p entry moment bytes range row e =
        inr (λ me. ap (λ (o : Option Seen). option_and_then (letter_seen me) o) (anomaly_unseen p entry moment bytes range row e))

    of_item : (p entry : ℕ) (item : Item) (bytes : Bytes) → ItemInRange item → ItemRow trade J p (J p) (ledger trade J p) entry item → text_by trade p (J p) entry item ≡ Some bytes → IsLetterOrNone bytes
    unfolding ledger
    of_item p entry (EnvelopeItem id) bytes range row e = inl (envelope_item p id bytes e)
    of_item p entry (ReceiptItem kinds.Acceptance id None moment) bytes range row e = acceptance_is_none p id moment bytes range row e
    of_item p entry (ReceiptItem kinds.Acceptance id (Some recipient) moment) bytes range row e = absurd row
    of_item p entry (ReceiptItem (kinds.NonAcceptance cause) id None moment) bytes range row e = refused_item p entry id bytes row e
    of_item p entry (ReceiptItem (kinds.NonAcceptance cause) id (Some recipient) moment) bytes range row e = absurd row
    of_item p entry (ReceiptItem kinds.Delivery id (Some recipient) moment) bytes range row e = inl (learned_item p entry id recipient bytes row e)
    of_item p entry (ReceiptItem kinds.Delivery id None moment) bytes range row e = absurd row
    of_item p entry (ReceiptItem (kinds.DeliveryError refusals.NoMailbox) id (Some recipient) moment) bytes range row e = inl (learned_item p entry id recipient bytes row e)
    of_item p entry (ReceiptItem (kinds.DeliveryError refusals.NoMailbox) id None moment) bytes range row e = absurd row
    of_item p entry (ReceiptItem (kinds.DeliveryError refusals.MailboxFull) id (Some recipient) moment) bytes range row e = inl (learned_item p entry id recipient bytes row e)
    of_item p entry (ReceiptItem (kinds.DeliveryError refusals.MailboxFull) id None moment) bytes range row e = absurd row
    of_item p entry (ReceiptItem (kinds.DeliveryError refusals.Virus) id (Some recipient) moment) bytes range row e =
        notice_is_none p (kinds.DeliveryError refusals.Virus) id recipient moment bytes range row.own e (λ facts ours names. names) refl
    of_item p entry (ReceiptItem (kinds.DeliveryError refusals.Virus) id None moment) bytes range row e = absurd row
    of_item p entry (ReceiptItem kinds.VirusFound id recipient moment) bytes range row e = absurd row
    of_item p entry (ReceiptItem kinds.Warning id (Some recipient) moment) bytes range row e =
        notice_is_none p kinds.Warning id recipient moment bytes range row e (λ facts ours names. (sym ours, names)) refl
    of_item p entry (ReceiptItem kinds.Warning id None moment) bytes range row e = absurd row
    of_item p entry (ReceiptItem kinds.Notice id (Some recipient) moment) bytes range row e =
        notice_is_none p kinds.Notice id recipient moment bytes range row e (λ facts ours names. (sym ours, names)) refl
    of_item p entry (ReceiptItem kinds.Notice id None moment) bytes range row e = absurd row
    of_item p entry (ReceiptItem kinds.LateNotice id (Some recipient) moment) bytes range row e =
        notice_is_none p kinds.LateNotice id recipient moment bytes range row e (λ facts ours names. (sym ours, names)) refl
    of_item p entry (ReceiptItem kinds.LateNotice id None moment) bytes range row e = absurd row
    of_item p entry (ReceiptItem kinds.Charge id recipient moment) bytes range row e = absurd row
    of_item p entry (ReceiptItem kinds.Ack id recipient moment) bytes range row e = absurd row
    of_item p entry (AnomalyItem moment) bytes range row e = anomaly_item p entry moment bytes range row e

    -- the text of an item is a letter's, or is seen as none
    pub item_is_letter_or_none : (bytes : Bytes) → IsItemText trade J bytes → IsLetterOrNone bytes
    unfolding item_text
    item_is_letter_or_none bytes is =
        of_item is.provider is.posted.entry is.posted.item bytes
        (item_in_range trade J fit is.provider is.posted is.placed)
        (All-contains (λ (posted : Posted). ItemRow trade J is.provider (J is.provider) (ledger trade J is.provider) posted.entry posted.item)
        (ledger trade J is.provider).items is.posted (backed trade J is.provider fit).items is.placed)
        is.text

    pub genuine_is_letter_or_none : (bytes : Bytes) → IsGenuineText trade J bytes → IsLetterOrNone bytes
    genuine_is_letter_or_none bytes (inl licensed) = inl licensed
    genuine_is_letter_or_none bytes (inr item) = item_is_letter_or_none bytes item

    -- ---- a genuine message meets joint conditions

    not_none : (me : ℕ) (bytes : Bytes) (seen : Seen) (letter : Letter) → trade.view bytes ≡ Some seen → letter_seen me seen ≡ Some letter → letter_in trade me bytes ≡ None → ⊥
    not_none me bytes seen letter e f none = none-some letter (sym none ∙ ap (option_and_then (letter_seen me)) e ∙ f)

    pub took_joint : (p : ℕ) (bytes : Bytes) (id : Id) (moment : ℕ) (original : Bytes) → IsGenuineText trade J bytes → trade.view bytes ≡ Some (SeenEnvelope id moment original)
        → (r : Bytes) → Contains (trade.envelope_recipients bytes) r → trade.home r ≡ Some p → IsEnvelopeText trade J id p bytes
    took_joint p bytes id moment original genuine seen r among home = of_letter (genuine_is_letter_or_none bytes genuine)
      where
        to_here : (other : Id) (to : ℕ) (is : IsEnvelopeText trade J other to bytes) → other ≡ id → IsEnvelopeText trade J id p bytes
        to_here other to is same = subst (λ (i : Id). IsEnvelopeText trade J i p bytes) same (record {
          message = is.message;
          original = is.original;
          is = is.is;
          pairs = (r, subst (λ (l : Path). Contains l r) (envelope_names other to bytes is) among, home);
          text = is.text;
        })

        of_letter : IsLetterOrNone bytes → IsEnvelopeText trade J id p bytes
        of_letter (inl (letters.Envelope other to, is)) =
            let e = same_Some (SeenEnvelope other is.message.moment is.original) (SeenEnvelope id moment original) (sym (envelope_is_seen other to bytes is) ∙ seen)
            in to_here other to is (cc)
        of_letter (inl (letters.Charge other by, is)) = let e = sym (charge_is_seen other by bytes is) ∙ seen in absurd (cc)
        of_letter (inl (letters.Outcome other recipient, is)) = let e = sym (outcome_is_seen (pair_of other recipient) bytes is) ∙ seen in absurd (cc)
        of_letter (inl (letters.Ack other recipient, is)) = let e = sym (ack_is_seen (pair_of other recipient) bytes is) ∙ seen in absurd (cc)
        of_letter (inr none) = absurd (not_none p bytes (SeenEnvelope id moment original) (letters.Envelope id p) seen refl (none p))

    -- ---- receipts

    -- the letter that a genuine receipt is
    letter_of_receipt : (bytes : Bytes) → IsGenuineText trade J bytes → (receipt : Receipt) → trade.view bytes ≡ Some (SeenReceipt receipt)
        → (letter : Letter) → letter_on receipt.kind receipt.id receipt.by receipt.recipient ≡ Some letter → (l : Letter) × IsLicensedText trade J l bytes
    letter_of_receipt bytes genuine receipt seen letter on = of_letter (genuine_is_letter_or_none bytes genuine)
      where
        of_letter : IsLetterOrNone bytes → (l : Letter) × IsLicensedText trade J l bytes
        of_letter (inl licensed) = licensed
        of_letter (inr none) = absurd (not_none 0 bytes (SeenReceipt receipt) letter seen on (none 0))

    pub receipts_same : (a b : Receipt) → Some (SeenReceipt a) ≡ Some (SeenReceipt b) → a ≡ b
    receipts_same a b e = let f = same_Some (SeenReceipt a) (SeenReceipt b) e in cc

    pub charged_joint : (bytes : Bytes) → IsGenuineText trade J bytes → (receipt : Receipt) → trade.view bytes ≡ Some (SeenReceipt receipt) → receipt.kind ≡ kinds.Charge
        → IsSome (taken_of (ledger trade J receipt.by) receipt.id)
    charged_joint bytes genuine receipt seen kind =
        of_letter (letter_of_receipt bytes genuine receipt seen (letters.Charge receipt.id receipt.by) (ap (λ (k : Kind). letter_on k receipt.id receipt.by receipt.recipient) kind))
      where
        of_letter : (l : Letter) × IsLicensedText trade J l bytes → IsSome (taken_of (ledger trade J receipt.by) receipt.id)
        of_letter (letters.Envelope other to, is) = let e = sym (envelope_is_seen other to bytes is) ∙ seen in absurd (cc)
        of_letter (letters.Charge other by, is) =
            let e = receipts_same (record { kind = kinds.Charge; id = other; by = by; moment = is.row.moment; recipient = None }) receipt (sym (charge_is_seen other by bytes is) ∙ seen)
            in subst (λ (r : Receipt). IsSome (taken_of (ledger trade J r.by) r.id)) e (is_some_by (taken_of (ledger trade J by) other) is.row is.taken)
        of_letter (letters.Outcome other recipient, is) =
            let e = receipts_same _ receipt (sym (outcome_is_seen (pair_of other recipient) bytes is) ∙ seen)
            in absurd (no_charge is.fate.decision (ap (λ (r : Receipt). r.kind) e ∙ kind))
        of_letter (letters.Ack other recipient, is) =
            let e = receipts_same _ receipt (sym (ack_is_seen (pair_of other recipient) bytes is) ∙ seen)
            in let f = ap (λ (r : Receipt). r.kind) e ∙ kind
            in absurd (cc)

    decided_so : (pair : Pair) (home : ℕ) → trade.home pair.recipient ≡ Some home → (fate : Fate) → decided_of (ledger trade J home) pair ≡ Some fate
        → (decision : Decision) (moment : ℕ) → fate.decision ≡ decision → fate.moment ≡ moment → IsDecidedSo trade J pair decision moment
    decided_so pair home e fate decided decision moment so at =
        record { fate = fate; decided = ap (decided_at trade J pair) e ∙ decided; so = so; at = at }

    pub learned_joint : (bytes : Bytes) → IsGenuineText trade J bytes → (receipt : Receipt) → trade.view bytes ≡ Some (SeenReceipt receipt)
        → (decision : Decision) → receipt.kind ≡ outcome_kind decision → (recipient : Bytes) → receipt.recipient ≡ Some recipient
        → IsOutcomeText trade J (pair_of receipt.id recipient) bytes × IsDecidedSo trade J (pair_of receipt.id recipient) decision receipt.moment
    learned_joint bytes genuine receipt seen decision kind recipient names =
        of_letter (letter_of_receipt bytes genuine receipt seen (letters.Outcome receipt.id recipient)
        (ap (λ (k : Kind). letter_on k receipt.id receipt.by receipt.recipient) kind
        ∙ ap (λ (o : Option Bytes). letter_on (outcome_kind decision) receipt.id receipt.by o) names ∙ outcome_on decision receipt.id receipt.by recipient))
      where
        so_learned : (other : Id) (address : Bytes) (is : IsOutcomeText trade J (pair_of other address) bytes) → pair_of other address ≡ pair_of receipt.id recipient
            → outcome_kind is.fate.decision ≡ outcome_kind decision → is.fate.moment ≡ receipt.moment
            → IsOutcomeText trade J (pair_of receipt.id recipient) bytes × IsDecidedSo trade J (pair_of receipt.id recipient) decision receipt.moment
        so_learned other address is same kinds_same moments_same = (
          subst (λ (q : Pair). IsOutcomeText trade J q bytes) same is,
          subst (λ (q : Pair). IsDecidedSo trade J q decision receipt.moment) same
              (decided_so (pair_of other address) is.home is.at_home is.fate is.decided decision receipt.moment
              (decision_is is.fate.decision decision kinds_same) moments_same),
        )

        of_letter : (l : Letter) × IsLicensedText trade J l bytes
            → IsOutcomeText trade J (pair_of receipt.id recipient) bytes × IsDecidedSo trade J (pair_of receipt.id recipient) decision receipt.moment
        of_letter (letters.Envelope other to, is) = let e = sym (envelope_is_seen other to bytes is) ∙ seen in absurd (cc)
        of_letter (letters.Charge other by, is) =
            let e = receipts_same (record { kind = kinds.Charge; id = other; by = by; moment = is.row.moment; recipient = None }) receipt (sym (charge_is_seen other by bytes is) ∙ seen)
            in absurd (no_charge decision (sym kind ∙ sym (ap (λ (r : Receipt). r.kind) e)))
        of_letter (letters.Outcome other address, is) =
            let e = receipts_same (record { kind = outcome_kind is.fate.decision; id = other; by = is.home; moment = is.fate.moment; recipient = Some address }) receipt
            (sym (outcome_is_seen (pair_of other address) bytes is) ∙ seen)
            in let ids = ap (λ (r : Receipt). r.id) e
            in let addresses = same_Some address recipient (ap (λ (r : Receipt). r.recipient) e ∙ names)
            in so_learned other address is (rw (ids, addresses) refl) (ap (λ (r : Receipt). r.kind) e ∙ kind) (ap (λ (r : Receipt). r.moment) e)
        of_letter (letters.Ack other address, is) =
            let e = receipts_same (record { kind = kinds.Ack; id = other; by = other.provider; moment = is.row.moment; recipient = Some address }) receipt
            (sym (ack_is_seen (pair_of other address) bytes is) ∙ seen)
            in absurd (no_ack decision (sym kind ∙ sym (ap (λ (r : Receipt). r.kind) e)))

    pub acked_joint : (bytes : Bytes) → IsGenuineText trade J bytes → (receipt : Receipt) → trade.view bytes ≡ Some (SeenReceipt receipt)
        → receipt.kind ≡ kinds.Ack → (recipient : Bytes) → receipt.recipient ≡ Some recipient
        → IsSome (known_of (ledger trade J receipt.id.provider) (pair_of receipt.id recipient))
    acked_joint bytes genuine receipt seen kind recipient names =
        of_letter (letter_of_receipt bytes genuine receipt seen (letters.Ack receipt.id recipient)
        (ap (λ (k : Kind). letter_on k receipt.id receipt.by receipt.recipient) kind ∙ ap (λ (o : Option Bytes). letter_on kinds.Ack receipt.id receipt.by o) names))
      where
        of_letter : (l : Letter) × IsLicensedText trade J l bytes → IsSome (known_of (ledger trade J receipt.id.provider) (pair_of receipt.id recipient))
        of_letter (letters.Envelope other to, is) = let e = sym (envelope_is_seen other to bytes is) ∙ seen in absurd (cc)
        of_letter (letters.Charge other by, is) =
            let e = receipts_same (record { kind = kinds.Charge; id = other; by = by; moment = is.row.moment; recipient = None }) receipt (sym (charge_is_seen other by bytes is) ∙ seen)
            in let f = ap (λ (r : Receipt). r.kind) e ∙ kind
            in absurd (cc)
        of_letter (letters.Outcome other address, is) =
            let e = receipts_same (record { kind = outcome_kind is.fate.decision; id = other; by = is.home; moment = is.fate.moment; recipient = Some address }) receipt
            (sym (outcome_is_seen (pair_of other address) bytes is) ∙ seen)
            in absurd (no_ack is.fate.decision (ap (λ (r : Receipt). r.kind) e ∙ kind))
        of_letter (letters.Ack other address, is) =
            let e = receipts_same (record { kind = kinds.Ack; id = other; by = other.provider; moment = is.row.moment; recipient = Some address }) receipt
            (sym (ack_is_seen (pair_of other address) bytes is) ∙ seen)
            in let ids = ap (λ (r : Receipt). r.id) e
            in let addresses = same_Some address recipient (ap (λ (r : Receipt). r.recipient) e ∙ names)
            in let same : pair_of other address ≡ pair_of receipt.id recipient = rw (ids, addresses) refl
            in subst (λ (q : Pair). IsSome (known_of (ledger trade J q.id.provider) q)) same (is_some_by (known_of (ledger trade J other.provider) (pair_of other address)) is.row is.known)
