-- What a provider does on frames and on open pairs meets its own conditions, and on genuine frames those of the ledger.
use Rattle.std.proofs.Common.{◌≡◌, ℕ, ◌<◌, ◌≤◌, List, ◌∷◌, true, length, refl, ap, sym, subst, ◌∙◌, arith, Option, Some, None}
use Rattle.std.specs.Prelude.{All, Contains, IsSome, IsTrue, is_none}
use Rattle.std.specs.Str.{bytes_eq}
use Rattle.std.proofs.lemmas.Bool.{and_parts, false≢true}
use Rattle.std.proofs.lemmas.List.Elements.{filter_passes}
use Rattle.std.proofs.lemmas.Option.{none-some, same_Some}
use Rattle.pec_types.specs.Bytes.{Bytes, Path}
use Rattle.pec_types.specs.Message.{Id}
use Rattle.pec_types.specs.declared.messages.Decision.{Decision}
use Rattle.pec_types.specs.declared.receipts.Kind.TheVariants as kinds
use Rattle.pec_types.specs.declared.moments.TheConstants.{END_OF_TIME}
use Rattle.pec_records.specs.declared.entries.Entry.{Entry}
use Rattle.pec_records.specs.declared.entries.Entry.TheVariants as entries
use Rattle.pec_ledger.specs.Along.{AllDiffer}
use Rattle.pec_ledger.specs.Half.{Taken}
use Rattle.pec_ledger.specs.Ledger.{IsDecidedSo, IsEnvelopeText, IsOutcomeText, Joint, Journals, Meets, ledger}
use Rattle.pec_ledger.specs.Lookups.{at_home, decided_of, has_room, is_home, known_of, outcome_kind, taken_of}
use Rattle.pec_ledger.specs.Network.{IsGenuine, IsGenuineText}
use Rattle.pec_ledger.specs.Own.{IsTakenPair, Own}
use Rattle.pec_ledger.specs.Pairs.{Pair, pair_of}
use Rattle.pec_ledger.specs.Steps.{half, moment_of}
use Rattle.pec_ledger.specs.Trade.{Framed, Receipt, SeenEnvelope, SeenReceipt, Trade}
use Rattle.pec_ledger.specs.TradeLaws.{IsTrade}
use Rattle.pec_plays.specs.Decisions.{Looks, decide, decided_as, is_open, is_recipient_of}
use Rattle.pec_plays.specs.Reception.{accounts_with_room, arrive, each_once}
use Rattle.pec_plays.specs.ReceptionRows.{IsReceived, NewEnvelope, KnownEnvelope, NewCharge, KnownCharge, NewOutcome, KnownOutcome, NewAck, KnownAck, SomeRoom, NoRoom}
use Rattle.pec_plays.specs.Steps.{Step}
use Rattle.pec_plays.proofs.ListLemmas.{bytes_again, differ_filter, found_none, from_filter, home_is, once_differ, some_address, some_item}
use Rattle.pec_plays.proofs.ReceptionLemmas.{no_frame, row_says}
use Rattle.pec_plays.proofs.SightLemmas.{may_decide}

-- what the ledger's laws say of genuine messages, in journals that are Fit
pub record ArrivalLaws (trade : Trade) (J : Journals) : Type 0 where
  pub took : (provider : ℕ) (bytes : Bytes) (id : Id) (moment : ℕ) (original : Bytes) → IsGenuineText trade J bytes
      → trade.view bytes ≡ Some (SeenEnvelope id moment original) → (recipient : Bytes) → Contains (trade.envelope_recipients bytes) recipient
      → trade.home recipient ≡ Some provider → IsEnvelopeText trade J id provider bytes
  pub charged : (bytes : Bytes) → IsGenuineText trade J bytes → (receipt : Receipt) → trade.view bytes ≡ Some (SeenReceipt receipt)
      → receipt.kind ≡ kinds.Charge → IsSome (taken_of (ledger trade J receipt.by) receipt.id)
  pub learned : (bytes : Bytes) → IsGenuineText trade J bytes → (receipt : Receipt) → trade.view bytes ≡ Some (SeenReceipt receipt)
      → (decision : Decision) → receipt.kind ≡ outcome_kind decision → (recipient : Bytes) → receipt.recipient ≡ Some recipient
      → IsOutcomeText trade J (pair_of receipt.id recipient) bytes × IsDecidedSo trade J (pair_of receipt.id recipient) decision receipt.moment
  pub acked : (bytes : Bytes) → IsGenuineText trade J bytes → (receipt : Receipt) → trade.view bytes ≡ Some (SeenReceipt receipt)
      → receipt.kind ≡ kinds.Ack → (recipient : Bytes) → receipt.recipient ≡ Some recipient
      → IsSome (known_of (ledger trade J receipt.id.provider) (pair_of receipt.id recipient))

abbrev NoEntry : Option Entry → Type 0
NoEntry o = (e : Entry) → o ≡ Some e → ⊥

no_entry : (o : Option Entry) → o ≡ None → NoEntry o
no_entry o e entry is = none-some entry (sym e ∙ is)

-- ---- own conditions

module _ (trade : Trade) (world : IsTrade trade) (p now : ℕ) (es : List Entry) where
  -- what a step appends meets the provider's own condition, at this moment
  abbrev pub IsOwn : Step → Type 0
  IsOwn s = (e : Entry) → s.entry ≡ Some e → Own trade p (half trade p es) e × (moment_of e ≡ now)

  own_so : (s : Step) (entry : Entry) → s.entry ≡ Some entry → Own trade p (half trade p es) entry → moment_of entry ≡ now → IsOwn s
  own_so s entry appends own at e is =
      let same = same_Some entry e (sym appends ∙ is)
      in (subst (Own trade p (half trade p es)) same own, subst (λ (x : Entry). moment_of x ≡ now) same at)

  nothing : (s : Step) → s.entry ≡ None → IsOwn s
  nothing s appends e is = absurd (no_entry s.entry appends e is)

  all_have_room : (f : Framed) (accounts : Path) → accounts_with_room trade p es f.path ≡ accounts → 0 < length accounts
      → (0 < length accounts) × AllDiffer accounts × All (λ account. IsTrue (has_room trade p (half trade p es) account)) accounts
  all_have_room f accounts e some =
      subst (λ (xs : Path). (0 < length xs) × AllDiffer xs × All (λ account. IsTrue (has_room trade p (half trade p es) account)) xs) e (
        subst (λ (xs : Path). 0 < length xs) (sym e) some,
        differ_filter (has_room trade p (half trade p es)) (each_once bytes_eq f.path) (once_differ bytes_eq bytes_again f.path),
        filter_passes (has_room trade p (half trade p es)) (each_once bytes_eq f.path),
      )

  row_own : (f : Framed) (s : Step) → IsReceived trade p es f now s → IsOwn s
  row_own f s (NewEnvelope id is t e) =
      own_so s (entries.Took now id f.message) (ap (λ (x : Step). x.entry) e) (world.envelope_of f.message id is.moment is.original is.seen, t, is.some) refl
  row_own f s (KnownEnvelope id is t e) = nothing s (ap (λ (x : Step). x.entry) e)
  row_own f s (NewCharge r is t e) =
      own_so s (entries.Charged now r.id r.by) (ap (λ (x : Step). x.entry) e) (is.ours, t, (is.message, is.accepted, is.pairs)) refl
  row_own f s (KnownCharge r is t e) = nothing s (ap (λ (x : Step). x.entry) e)
  row_own f s (NewOutcome r recipient decision is t e) =
      own_so s (entries.Learned now r.id recipient decision r.moment f.message) (ap (λ (x : Step). x.entry) e)
      (record { ours = is.ours; message = is.message; accepted = is.accepted; recipient = is.pair }, t) refl
  row_own f s (KnownOutcome r recipient decision is t e) = nothing s (ap (λ (x : Step). x.entry) e)
  row_own f s (NewAck r recipient is t e) = own_so s (entries.Acked now r.id recipient) (ap (λ (x : Step). x.entry) e) (is.decided, t) refl
  row_own f s (KnownAck r recipient is t e) = nothing s (ap (λ (x : Step). x.entry) e)
  row_own f s (SomeRoom n a accounts t e) =
      own_so s (entries.Anomaly now (a ∷ accounts) f.message) (ap (λ (x : Step). x.entry) e) (all_have_room f (a ∷ accounts) t (omega arith)) refl
  row_own f s (NoRoom n t e) = nothing s (ap (λ (x : Step). x.entry) e)

  frame_own : (frame : Bytes) (found : Option Framed) → trade.unframed frame ≡ found → IsOwn (arrive trade p now es frame)
  frame_own frame None u = nothing (arrive trade p now es frame) (ap (λ (x : Step). x.entry) (no_frame trade p now es frame u))
  frame_own frame (Some f) u = row_own f (arrive trade p now es frame) ((row_says trade p now es frame f u (arrive trade p now es frame)).0 refl)

  pub arrive_own : (frame : Bytes) → IsOwn (arrive trade p now es frame)
  arrive_own frame = frame_own frame (trade.unframed frame) refl

-- ---- decisions

pub taken_pair : (trade : Trade) (p : ℕ) (es : List Entry) (pair : Pair) (found : Option Taken) → taken_of (half trade p es) pair.id ≡ found
    → is_recipient_of pair.recipient found ≡ true → IsTakenPair trade p (half trade p es) pair
taken_pair trade p es pair None e t = absurd (false≢true t)
taken_pair trade p es pair (Some row) e t = record { row = row; taken = e; recipient = some_address row.recipients pair.recipient t }

pub decide_own : (trade : Trade) (p now : ℕ) (looks : Looks) (es : List Entry) (pair : Pair) → is_open (half trade p es) pair ≡ true
    → (e : Entry) → (decide trade p now looks es pair).entry ≡ Some e → Own trade p (half trade p es) e × (moment_of e ≡ now)
unfolding decide
decide_own trade p now looks es pair open_so e is =
    let parts = and_parts (is_recipient_of pair.recipient (taken_of (half trade p es) pair.id)) (is_none (decided_of (half trade p es) pair)) open_so
    in let entry = entries.Decided now pair.id pair.recipient (decided_as trade p looks es pair)
    in let own : Own trade p (half trade p es) entry =
    (taken_pair trade p es pair (taken_of (half trade p es) pair.id) refl parts.0, found_none (decided_of (half trade p es) pair) parts.1, may_decide trade p (half trade p es) pair.recipient (looks es pair))
    in let same = same_Some entry e is
    in (subst (Own trade p (half trade p es)) same own, subst (λ (x : Entry). moment_of x ≡ now) same refl)

-- ---- all conditions

module _ (trade : Trade) (world : IsTrade trade) (J : Journals) (laws : ArrivalLaws trade J) (p now : ℕ) (es : List Entry) where
  joint_so : (s : Step) (entry : Entry) → s.entry ≡ Some entry → Joint trade J p entry → (e : Entry) → s.entry ≡ Some e → Joint trade J p e
  joint_so s entry appends joint e is = subst (Joint trade J p) (same_Some entry e (sym appends ∙ is)) joint

  nothing_joint : (s : Step) → s.entry ≡ None → (e : Entry) → s.entry ≡ Some e → Joint trade J p e
  nothing_joint s appends e is = absurd (no_entry s.entry appends e is)

  row_joint : (f : Framed) → (trade.opens f.message ≡ true → IsGenuineText trade J f.message) → (s : Step) → IsReceived trade p es f now s
      → (e : Entry) → s.entry ≡ Some e → Joint trade J p e
  row_joint f genuine s (NewEnvelope id is t e) =
      let seen = SeenEnvelope id is.moment is.original
      in let here = at_home trade p (trade.envelope_recipients f.message)
      in let some = some_item here is.some
      in let named = from_filter (λ (address : Bytes). is_home p (trade.home address)) (trade.envelope_recipients f.message) some.0 some.1
      in joint_so s (entries.Took now id f.message) (ap (λ (x : Step). x.entry) e)
      (laws.took p f.message id is.moment is.original (genuine (world.seen_opens f.message seen is.seen)) is.seen some.0 named.0
      (home_is p (trade.home some.0) named.1))
  row_joint f genuine s (KnownEnvelope id is t e) = nothing_joint s (ap (λ (x : Step). x.entry) e)
  row_joint f genuine s (NewCharge r is t e) =
      joint_so s (entries.Charged now r.id r.by) (ap (λ (x : Step). x.entry) e)
      (laws.charged f.message (genuine (world.seen_opens f.message (SeenReceipt r) is.seen)) r is.seen is.kind)
  row_joint f genuine s (KnownCharge r is t e) = nothing_joint s (ap (λ (x : Step). x.entry) e)
  row_joint f genuine s (NewOutcome r recipient decision is t e) =
      joint_so s (entries.Learned now r.id recipient decision r.moment f.message) (ap (λ (x : Step). x.entry) e)
      (laws.learned f.message (genuine (world.seen_opens f.message (SeenReceipt r) is.seen)) r is.seen decision is.kind recipient is.names)
  row_joint f genuine s (KnownOutcome r recipient decision is t e) = nothing_joint s (ap (λ (x : Step). x.entry) e)
  row_joint f genuine s (NewAck r recipient is t e) =
      joint_so s (entries.Acked now r.id recipient) (ap (λ (x : Step). x.entry) e)
      (laws.acked f.message (genuine (world.seen_opens f.message (SeenReceipt r) is.seen)) r is.seen is.kind recipient is.names)
  row_joint f genuine s (KnownAck r recipient is t e) = nothing_joint s (ap (λ (x : Step). x.entry) e)
  row_joint f genuine s (SomeRoom n a accounts t e) = joint_so s (entries.Anomaly now (a ∷ accounts) f.message) (ap (λ (x : Step). x.entry) e) tt
  row_joint f genuine s (NoRoom n t e) = nothing_joint s (ap (λ (x : Step). x.entry) e)

  frame_joint : (frame : Bytes) → IsGenuine trade J frame → (found : Option Framed) → trade.unframed frame ≡ found
      → (e : Entry) → (arrive trade p now es frame).entry ≡ Some e → Joint trade J p e
  frame_joint frame genuine None u = nothing_joint (arrive trade p now es frame) (ap (λ (x : Step). x.entry) (no_frame trade p now es frame u))
  frame_joint frame genuine (Some f) u =
      row_joint f (genuine f u) (arrive trade p now es frame) ((row_says trade p now es frame f u (arrive trade p now es frame)).0 refl)

  module _ (time : (half trade p es).last ≤ now) (range : now < END_OF_TIME) where
    -- what a step appends meets its conditions, at this moment
    abbrev pub Good : Step → Type 0
    Good s = (e : Entry) → s.entry ≡ Some e → Meets trade J p (half trade p es) e × (moment_of e ≡ now)

    meets : (e : Entry) → Own trade p (half trade p es) e → moment_of e ≡ now → Joint trade J p e → Meets trade J p (half trade p es) e × (moment_of e ≡ now)
    meets e own at joint = (
      record {
        own = own;
        in_time = subst (λ (n : ℕ). (half trade p es).last ≤ n) (sym at) time;
        in_range = subst (λ (n : ℕ). n < END_OF_TIME) (sym at) range;
        joint = joint;
      },
      at,
    )

    pub arrive_good : (frame : Bytes) → IsGenuine trade J frame → Good (arrive trade p now es frame)
    arrive_good frame genuine e is =
        let own = arrive_own trade world p now es frame e is in meets e own.0 own.1 (frame_joint frame genuine (trade.unframed frame) refl e is)

    pub decide_good : (looks : Looks) (pair : Pair) → is_open (half trade p es) pair ≡ true → Good (decide trade p now looks es pair)
    unfolding decide
    decide_good looks pair open_so e is =
        let own = decide_own trade p now looks es pair open_so e is
        in let entry = entries.Decided now pair.id pair.recipient (decided_as trade p looks es pair)
        in meets e own.0 own.1 (subst (Joint trade J p) (same_Some entry e is) tt)
