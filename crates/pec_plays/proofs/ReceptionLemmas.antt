-- What is done with a frame is done by one row of the table.
use Rattle.std.proofs.Common.{◌≡◌, ◌↔◌, ℕ, List, [], ◌∷◌, Bool, true, false, ◌&&◌, length, refl, ap, sym, subst, ◌∙◌, nat_lt, Option, Some, None}
use Rattle.std.specs.Prelude.{is_some, ◌==◌}
use Rattle.std.specs.List.{list_any}
use Rattle.std.specs.Str.{bytes_eq}
use Rattle.std.proofs.lemmas.Bool.{and_from, and_parts, eqb-true, eq-eqb, false≢true, ltb-true, lt-ltb}
use Rattle.std.proofs.lemmas.Slice.Eq.{bytes_eq-Decides}
use Rattle.pec_types.specs.Bytes.{Bytes, Path}
use Rattle.pec_types.specs.Message.{Id}
use Rattle.pec_types.specs.declared.messages.Decision.{Decision}
use Rattle.pec_types.specs.declared.messages.Decision.TheVariants.{Placed, Refused}
use Rattle.pec_types.specs.declared.messages.Refusal.TheVariants as refusals
use Rattle.pec_types.specs.declared.receipts.Kind.{Kind}
use Rattle.pec_types.specs.declared.receipts.Kind.TheVariants as kinds
use Rattle.pec_types.specs.declared.turns.Event.TheVariants as events
use Rattle.pec_records.specs.declared.entries.Entry.{Entry}
use Rattle.pec_ledger.specs.Half.{Charge, Known, Taken}
use Rattle.pec_ledger.specs.Lookups.{Accepted, HasPair, HasPairsAt, accepted_at, addresses_of, at_home, charged_of, decided_of, has_room, is_acked, is_home, known_of, outcome_kind, taken_of}
use Rattle.pec_ledger.specs.Pairs.{pair_of}
use Rattle.pec_ledger.specs.Steps.{half}
use Rattle.pec_ledger.specs.Trade.{Framed, Receipt, Seen, SeenEnvelope, SeenReceipt, Trade}
use Rattle.pec_plays.specs.Paths.{outcome_path}
use Rattle.pec_plays.specs.Reception.{accounts_with_room, ack_fits, ack_rows, anomaly, arrive, by_ack, by_frame, by_outcome, by_receipt, by_seen, charge_fits, charge_rows, each_once, envelope_fits, envelope_rows, has_pair, has_pairs_at, is_outcome_path, otherwise, outcome_fits, outcome_rows, same_path}
use Rattle.pec_plays.specs.ReceptionRows.{AreAccounts, IsAck, IsCharge, IsEnvelope, IsLetter, IsOutcome, IsReceived, AnEnvelope, ACharge, AnOutcome, AnAck, NewEnvelope, KnownEnvelope, NewCharge, KnownCharge, NewOutcome, KnownOutcome, NewAck, KnownAck, SomeRoom, NoRoom}
use Rattle.pec_plays.specs.Steps.{Step, passes}
use Rattle.pec_plays.proofs.ListLemmas.{address_there, bytes_again, bytes_same, differ_filter, from_filter, home_again, home_is, into_filter, once_differ, once_from, once_into, some_address, some_item, some_length, what_is}

-- ---- tests and what they stand for

two_paths : (a b : Bytes) (xs ys : Path) → a ≡ b → xs ≡ ys → a ∷ xs ≡ b ∷ ys
two_paths a b xs ys e f = rw (e, f) refl

pub path_is : (a b : Path) → same_path a b ≡ true → a ≡ b
path_is [] [] e = refl
path_is [] (b ∷ ys) e = absurd (false≢true e)
path_is (a ∷ xs) [] e = absurd (false≢true e)
path_is (a ∷ xs) (b ∷ ys) e =
    let parts = and_parts (bytes_eq a b) (same_path xs ys) e
    in two_paths a b xs ys ((bytes_eq-Decides a b).0 parts.0) (path_is xs ys parts.1)

path_again : (a : Path) → same_path a a ≡ true
path_again [] = refl
path_again (a ∷ xs) = and_from (bytes_eq a a) (same_path xs xs) (bytes_again a) (path_again xs)

pub same_as : (a b : Path) → a ≡ b → same_path a b ≡ true
same_as a b e = subst (λ (x : Path). same_path a x ≡ true) e (path_again a)

module _ (trade : Trade) (p : ℕ) (es : List Entry) (f : Framed) where
  pub are_accounts : AreAccounts trade p es f (accounts_with_room trade p es f.path)
  are_accounts = record {
    differ = differ_filter (has_room trade p (half trade p es)) (each_once bytes_eq f.path) (once_differ bytes_eq bytes_again f.path);
    exactly = λ account. (
      λ c.
          let kept = from_filter (has_room trade p (half trade p es)) (each_once bytes_eq f.path) account c
          in (once_from bytes_eq f.path account kept.0, kept.1),
      λ is. into_filter (has_room trade p (half trade p es)) (each_once bytes_eq f.path) account (once_into bytes_eq bytes_same f.path account is.0) is.1,
    );
  }

  -- ---- what makes a letter one for this provider

  envelope_is : (id : Id) (moment : ℕ) (original : Bytes) → trade.view f.message ≡ Some (SeenEnvelope id moment original) → envelope_fits trade p f ≡ true
      → IsEnvelope trade p es f id
  envelope_is id moment original seen e =
      let here = at_home trade p (trade.envelope_recipients f.message)
      in let parts = and_parts (same_path f.path here) (nat_lt 0 (length here)) e
      in record {
        moment = moment;
        original = original;
        seen = seen;
        path = path_is f.path here parts.0;
        some = ltb-true 0 (length here) parts.1;
      }

  envelope_again : (id : Id) → IsEnvelope trade p es f id → envelope_fits trade p f ≡ true
  envelope_again id is =
      let here = at_home trade p (trade.envelope_recipients f.message)
      in and_from (same_path f.path here) (nat_lt 0 (length here)) (same_as f.path here is.path) (lt-ltb 0 (length here) is.some)

  pairs_at : (by : ℕ) (found : Option Accepted) → has_pairs_at trade by found ≡ true → (m : Accepted) × (found ≡ Some m) × HasPairsAt trade m by
  pairs_at by None e = absurd (false≢true e)
  pairs_at by (Some m) e =
      let here = at_home trade by (addresses_of m.facts)
      in let some = some_item here (ltb-true 0 (length here) e)
      in let named = from_filter (λ (address : Bytes). is_home by (trade.home address)) (addresses_of m.facts) some.0 some.1
      in (m, refl, (some.0, named.0, home_is by (trade.home some.0) named.1))

  pairs_again : (by : ℕ) (found : Option Accepted) (m : Accepted) → found ≡ Some m → HasPairsAt trade m by → has_pairs_at trade by found ≡ true
  pairs_again by found m e pairs =
      let here = at_home trade by (addresses_of m.facts)
      in ap (has_pairs_at trade by) e
      ∙ lt-ltb 0 (length here)
      (some_length here pairs.0
      (into_filter (λ (address : Bytes). is_home by (trade.home address)) (addresses_of m.facts) pairs.0 pairs.1 (home_again by (trade.home pairs.0) pairs.2)))

  charge_is : (r : Receipt) → trade.view f.message ≡ Some (SeenReceipt r) → r.kind ≡ kinds.Charge → (now : ℕ) → charge_fits trade p now es f r ≡ true
      → IsCharge trade p es f r
  charge_is r seen kind now e =
      let parts = and_parts (r.id.provider == p) _ e
      in let more = and_parts (has_pairs_at trade r.by (accepted_at (half trade p es) r.id.number)) _ parts.1
      in let pairs = pairs_at r.by (accepted_at (half trade p es) r.id.number) more.0
      in record {
        seen = seen;
        kind = kind;
        ours = eqb-true r.id.provider p parts.0;
        message = pairs.0;
        accepted = pairs.1;
        pairs = pairs.2;
        path = path_is f.path (trade.receipts p ∷ []) more.1;
      }

  charge_again : (r : Receipt) → IsCharge trade p es f r → (now : ℕ) → charge_fits trade p now es f r ≡ true
  charge_again r is now =
      let there = has_pairs_at trade r.by (accepted_at (half trade p es) r.id.number)
      in let along = same_path f.path (trade.receipts p ∷ [])
      in and_from (r.id.provider == p) (there && along) (eq-eqb r.id.provider p is.ours)
      (and_from there along (pairs_again r.by (accepted_at (half trade p es) r.id.number) is.message is.accepted is.pairs)
      (same_as f.path (trade.receipts p ∷ []) is.path))

  pair_is : (id : Id) (decision : Decision) (recipient : Bytes) (found : Option Accepted) → has_pair trade recipient found ≡ true
      → is_outcome_path trade id decision f.path found ≡ true
      → (m : Accepted) × (found ≡ Some m) × HasPair trade m recipient × (f.path ≡ outcome_path trade id decision m.sender)
  pair_is id decision recipient None e g = absurd (false≢true e)
  pair_is id decision recipient (Some m) e g =
      let parts = and_parts (list_any (bytes_eq recipient) (addresses_of m.facts)) (is_some (trade.home recipient)) e
      in (m, refl, (some_address (addresses_of m.facts) recipient parts.0, parts.1), path_is f.path (outcome_path trade id decision m.sender) g)

  outcome_is : (r : Receipt) (recipient : Bytes) (decision : Decision) → trade.view f.message ≡ Some (SeenReceipt r) → r.kind ≡ outcome_kind decision
      → r.recipient ≡ Some recipient → (now : ℕ) → outcome_fits trade p now es f r recipient decision ≡ true → IsOutcome trade p es f r recipient decision
  outcome_is r recipient decision seen kind names now e =
      let found = accepted_at (half trade p es) r.id.number
      in let parts = and_parts (r.id.provider == p) _ e
      in let more = and_parts (is_home r.by (trade.home recipient)) _ parts.1
      in let last = and_parts (has_pair trade recipient found) (is_outcome_path trade r.id decision f.path found) more.1
      in let pair = pair_is r.id decision recipient found last.0 last.1
      in record {
        seen = seen;
        kind = kind;
        names = names;
        ours = eqb-true r.id.provider p parts.0;
        sealed = home_is r.by (trade.home recipient) more.0;
        message = pair.0;
        accepted = pair.1;
        pair = pair.2;
        path = pair.3;
      }

  outcome_again : (r : Receipt) (recipient : Bytes) (decision : Decision) → IsOutcome trade p es f r recipient decision → (now : ℕ)
      → outcome_fits trade p now es f r recipient decision ≡ true
  outcome_again r recipient decision is now =
      let found = accepted_at (half trade p es) r.id.number
      in let pair : has_pair trade recipient found ≡ true =
      ap (has_pair trade recipient) is.accepted
      ∙ and_from (list_any (bytes_eq recipient) (addresses_of is.message.facts)) (is_some (trade.home recipient))
      (address_there (addresses_of is.message.facts) recipient is.pair.0) is.pair.1
      in let path = is_outcome_path trade r.id decision f.path found
      in let along : is_outcome_path trade r.id decision f.path found ≡ true =
      ap (is_outcome_path trade r.id decision f.path) is.accepted ∙ same_as f.path (outcome_path trade r.id decision is.message.sender) is.path
      in and_from (r.id.provider == p) (is_home r.by (trade.home recipient) && (has_pair trade recipient found && path))
      (eq-eqb r.id.provider p is.ours)
      (and_from (is_home r.by (trade.home recipient)) (has_pair trade recipient found && path)
      (home_again r.by (trade.home recipient) is.sealed) (and_from (has_pair trade recipient found) path pair along))

  ack_is : (r : Receipt) (recipient : Bytes) → trade.view f.message ≡ Some (SeenReceipt r) → r.kind ≡ kinds.Ack → r.recipient ≡ Some recipient
      → (now : ℕ) → ack_fits trade p now es f r recipient ≡ true → IsAck trade p es f r recipient
  ack_is r recipient seen kind names now e =
      let parts = and_parts (r.by == r.id.provider) _ e
      in let more = and_parts (is_home p (trade.home recipient)) _ parts.1
      in let last = and_parts (is_some (decided_of (half trade p es) (pair_of r.id recipient))) _ more.1
      in record {
        seen = seen;
        kind = kind;
        names = names;
        sealed = eqb-true r.by r.id.provider parts.0;
        home = home_is p (trade.home recipient) more.0;
        decided = last.0;
        path = path_is f.path (trade.receipts p ∷ []) last.1;
      }

  ack_again : (r : Receipt) (recipient : Bytes) → IsAck trade p es f r recipient → (now : ℕ) → ack_fits trade p now es f r recipient ≡ true
  ack_again r recipient is now =
      let there = is_some (decided_of (half trade p es) (pair_of r.id recipient))
      in let along = same_path f.path (trade.receipts p ∷ [])
      in and_from (r.by == r.id.provider) (is_home p (trade.home recipient) && (there && along)) (eq-eqb r.by r.id.provider is.sealed)
      (and_from (is_home p (trade.home recipient)) (there && along) (home_again p (trade.home recipient) is.home)
      (and_from there along is.decided (same_as f.path (trade.receipts p ∷ []) is.path)))

  module _ (now : ℕ) where
    -- ---- whether the message is a letter for this provider, as a test

    abbrev fits_outcome : Receipt → Decision → Option Bytes → Bool
    fits_outcome r decision None = false
    fits_outcome r decision (Some recipient) = outcome_fits trade p now es f r recipient decision

    abbrev fits_ack : Receipt → Option Bytes → Bool
    fits_ack r None = false
    fits_ack r (Some recipient) = ack_fits trade p now es f r recipient

    abbrev fits_kind : Receipt → Kind → Bool
    fits_kind r kinds.Charge = charge_fits trade p now es f r
    fits_kind r kinds.Delivery = fits_outcome r Placed r.recipient
    fits_kind r (kinds.DeliveryError refusals.NoMailbox) = fits_outcome r (Refused refusals.NoMailbox) r.recipient
    fits_kind r (kinds.DeliveryError refusals.MailboxFull) = fits_outcome r (Refused refusals.MailboxFull) r.recipient
    fits_kind r kinds.VirusFound = fits_outcome r (Refused refusals.Virus) r.recipient
    fits_kind r kinds.Ack = fits_ack r r.recipient
    fits_kind r _ = false

    abbrev fits_seen : Option Seen → Bool
    fits_seen None = false
    fits_seen (Some (SeenEnvelope id moment original)) = envelope_fits trade p f
    fits_seen (Some (SeenReceipt r)) = fits_kind r r.kind

    fits_decision : (r : Receipt) (decision : Decision) → fits_kind r (outcome_kind decision) ≡ fits_outcome r decision r.recipient
    fits_decision r Placed = refl
    fits_decision r (Refused refusals.NoMailbox) = refl
    fits_decision r (Refused refusals.MailboxFull) = refl
    fits_decision r (Refused refusals.Virus) = refl

    letter_fits : IsLetter trade p es f → fits_seen (trade.view f.message) ≡ true
    letter_fits (AnEnvelope id is) = ap fits_seen is.seen ∙ envelope_again id is
    letter_fits (ACharge r is) = ap fits_seen is.seen ∙ ap (fits_kind r) is.kind ∙ charge_again r is now
    letter_fits (AnOutcome r recipient decision is) =
        ap fits_seen is.seen ∙ ap (fits_kind r) is.kind ∙ fits_decision r decision ∙ ap (fits_outcome r decision) is.names ∙ outcome_again r recipient decision is now
    letter_fits (AnAck r recipient is) = ap fits_seen is.seen ∙ ap (fits_kind r) is.kind ∙ ap (fits_ack r) is.names ∙ ack_again r recipient is now

    no_letter : fits_seen (trade.view f.message) ≡ false → IsLetter trade p es f → ⊥
    no_letter e l = false≢true (sym e ∙ letter_fits l)

    -- ---- each step is a row's

    by_accounts : (IsLetter trade p es f → ⊥) → (accounts : Path) → accounts_with_room trade p es f.path ≡ accounts
        → IsReceived trade p es f now (anomaly trade p now es f.message accounts)
    by_accounts n [] e = NoRoom n e refl
    by_accounts n (a ∷ accounts) e = SomeRoom n a accounts e refl

    otherwise_received : fits_seen (trade.view f.message) ≡ false → IsReceived trade p es f now (otherwise trade p now es f)
    otherwise_received e = by_accounts (no_letter e) (accounts_with_room trade p es f.path) refl

    envelope_received : (id : Id) (moment : ℕ) (original : Bytes) → trade.view f.message ≡ Some (SeenEnvelope id moment original)
        → (fits : Bool) → envelope_fits trade p f ≡ fits → (row : Option Taken) → taken_of (half trade p es) id ≡ row
        → IsReceived trade p es f now (envelope_rows trade p now es f id fits row)
    envelope_received id moment original seen false e row t = otherwise_received (ap fits_seen seen ∙ e)
    envelope_received id moment original seen true e None t = NewEnvelope id (envelope_is id moment original seen e) t refl
    envelope_received id moment original seen true e (Some row) t = KnownEnvelope id (envelope_is id moment original seen e) (ap is_some t) refl

    charge_received : (r : Receipt) → trade.view f.message ≡ Some (SeenReceipt r) → r.kind ≡ kinds.Charge
        → (fits : Bool) → charge_fits trade p now es f r ≡ fits → (row : Option Charge) → charged_of (half trade p es) r.id r.by ≡ row
        → IsReceived trade p es f now (charge_rows trade p now es f r fits row)
    charge_received r seen kind false e row t = otherwise_received (ap fits_seen seen ∙ ap (fits_kind r) kind ∙ e)
    charge_received r seen kind true e None t = NewCharge r (charge_is r seen kind now e) t refl
    charge_received r seen kind true e (Some row) t = KnownCharge r (charge_is r seen kind now e) (ap is_some t) refl

    outcome_received : (r : Receipt) (recipient : Bytes) (decision : Decision) → trade.view f.message ≡ Some (SeenReceipt r) → r.kind ≡ outcome_kind decision
        → r.recipient ≡ Some recipient → (fits : Bool) → outcome_fits trade p now es f r recipient decision ≡ fits
        → (row : Option Known) → known_of (half trade p es) (pair_of r.id recipient) ≡ row
        → IsReceived trade p es f now (outcome_rows trade p now es f r recipient decision fits row)
    outcome_received r recipient decision seen kind names false e row t =
        otherwise_received (ap fits_seen seen ∙ ap (fits_kind r) kind ∙ fits_decision r decision ∙ ap (fits_outcome r decision) names ∙ e)
    outcome_received r recipient decision seen kind names true e None t =
        NewOutcome r recipient decision (outcome_is r recipient decision seen kind names now e) t refl
    outcome_received r recipient decision seen kind names true e (Some row) t =
        KnownOutcome r recipient decision (outcome_is r recipient decision seen kind names now e) (ap is_some t) refl

    ack_received : (r : Receipt) (recipient : Bytes) → trade.view f.message ≡ Some (SeenReceipt r) → r.kind ≡ kinds.Ack → r.recipient ≡ Some recipient
        → (fits : Bool) → ack_fits trade p now es f r recipient ≡ fits → (acked : Bool) → is_acked (half trade p es) (pair_of r.id recipient) ≡ acked
        → IsReceived trade p es f now (ack_rows trade p now es f r recipient fits acked)
    ack_received r recipient seen kind names false e acked t = otherwise_received (ap fits_seen seen ∙ ap (fits_kind r) kind ∙ ap (fits_ack r) names ∙ e)
    ack_received r recipient seen kind names true e false t = NewAck r recipient (ack_is r recipient seen kind names now e) t refl
    ack_received r recipient seen kind names true e true t = KnownAck r recipient (ack_is r recipient seen kind names now e) t refl

    by_outcome_received : (r : Receipt) (decision : Decision) → trade.view f.message ≡ Some (SeenReceipt r) → r.kind ≡ outcome_kind decision
        → (recipient : Option Bytes) → r.recipient ≡ recipient → IsReceived trade p es f now (by_outcome trade p now es f r decision recipient)
    by_outcome_received r decision seen kind None names =
        otherwise_received (ap fits_seen seen ∙ ap (fits_kind r) kind ∙ fits_decision r decision ∙ ap (fits_outcome r decision) names)
    by_outcome_received r decision seen kind (Some recipient) names =
        outcome_received r recipient decision seen kind names (outcome_fits trade p now es f r recipient decision) refl
        (known_of (half trade p es) (pair_of r.id recipient)) refl

    by_ack_received : (r : Receipt) → trade.view f.message ≡ Some (SeenReceipt r) → r.kind ≡ kinds.Ack
        → (recipient : Option Bytes) → r.recipient ≡ recipient → IsReceived trade p es f now (by_ack trade p now es f r recipient)
    by_ack_received r seen kind None names = otherwise_received (ap fits_seen seen ∙ ap (fits_kind r) kind ∙ ap (fits_ack r) names)
    by_ack_received r seen kind (Some recipient) names =
        ack_received r recipient seen kind names (ack_fits trade p now es f r recipient) refl (is_acked (half trade p es) (pair_of r.id recipient)) refl

    by_receipt_received : (r : Receipt) → trade.view f.message ≡ Some (SeenReceipt r) → (kind : Kind) → r.kind ≡ kind
        → IsReceived trade p es f now (by_receipt trade p now es f r kind)
    by_receipt_received r seen kinds.Charge kind =
        charge_received r seen kind (charge_fits trade p now es f r) refl (charged_of (half trade p es) r.id r.by) refl
    by_receipt_received r seen kinds.Delivery kind = by_outcome_received r Placed seen kind r.recipient refl
    by_receipt_received r seen (kinds.DeliveryError refusals.NoMailbox) kind = by_outcome_received r (Refused refusals.NoMailbox) seen kind r.recipient refl
    by_receipt_received r seen (kinds.DeliveryError refusals.MailboxFull) kind = by_outcome_received r (Refused refusals.MailboxFull) seen kind r.recipient refl
    by_receipt_received r seen (kinds.DeliveryError refusals.Virus) kind = otherwise_received (ap fits_seen seen ∙ ap (fits_kind r) kind)
    by_receipt_received r seen kinds.VirusFound kind = by_outcome_received r (Refused refusals.Virus) seen kind r.recipient refl
    by_receipt_received r seen kinds.Ack kind = by_ack_received r seen kind r.recipient refl
    by_receipt_received r seen kinds.Acceptance kind = otherwise_received (ap fits_seen seen ∙ ap (fits_kind r) kind)
    by_receipt_received r seen (kinds.NonAcceptance cause) kind = otherwise_received (ap fits_seen seen ∙ ap (fits_kind r) kind)
    by_receipt_received r seen kinds.Warning kind = otherwise_received (ap fits_seen seen ∙ ap (fits_kind r) kind)
    by_receipt_received r seen kinds.Notice kind = otherwise_received (ap fits_seen seen ∙ ap (fits_kind r) kind)
    by_receipt_received r seen kinds.LateNotice kind = otherwise_received (ap fits_seen seen ∙ ap (fits_kind r) kind)

    by_seen_received : (seen : Option Seen) → trade.view f.message ≡ seen → IsReceived trade p es f now (by_seen trade p now es f seen)
    by_seen_received None e = otherwise_received (ap fits_seen e)
    by_seen_received (Some (SeenEnvelope id moment original)) e =
        envelope_received id moment original e (envelope_fits trade p f) refl (taken_of (half trade p es) id) refl
    by_seen_received (Some (SeenReceipt r)) e = by_receipt_received r e r.kind refl

    -- ---- and no other's

    else_is : (step : Step) → IsReceived trade p es f now step → (IsLetter trade p es f → ⊥) → step ≡ otherwise trade p now es f
    else_is step (NewEnvelope id is t e) n = absurd (n (AnEnvelope id is))
    else_is step (KnownEnvelope id is t e) n = absurd (n (AnEnvelope id is))
    else_is step (NewCharge r is t e) n = absurd (n (ACharge r is))
    else_is step (KnownCharge r is t e) n = absurd (n (ACharge r is))
    else_is step (NewOutcome r recipient decision is t e) n = absurd (n (AnOutcome r recipient decision is))
    else_is step (KnownOutcome r recipient decision is t e) n = absurd (n (AnOutcome r recipient decision is))
    else_is step (NewAck r recipient is t e) n = absurd (n (AnAck r recipient is))
    else_is step (KnownAck r recipient is t e) n = absurd (n (AnAck r recipient is))
    else_is step (SomeRoom m a accounts t e) n = e ∙ sym (ap (anomaly trade p now es f.message) t)
    else_is step (NoRoom m t e) n = e ∙ sym (ap (anomaly trade p now es f.message) t)

    by_kind : (r : Receipt) (kind : Kind) → trade.view f.message ≡ Some (SeenReceipt r) → r.kind ≡ kind
        → by_seen trade p now es f (trade.view f.message) ≡ by_receipt trade p now es f r kind
    by_kind r kind seen e = ap (by_seen trade p now es f) seen ∙ ap (by_receipt trade p now es f r) e

    by_decision : (r : Receipt) (decision : Decision) → by_receipt trade p now es f r (outcome_kind decision) ≡ by_outcome trade p now es f r decision r.recipient
    by_decision r Placed = refl
    by_decision r (Refused refusals.NoMailbox) = refl
    by_decision r (Refused refusals.MailboxFull) = refl
    by_decision r (Refused refusals.Virus) = refl

    outcome_by : (r : Receipt) (recipient : Bytes) (decision : Decision) → IsOutcome trade p es f r recipient decision → (row : Option Known)
        → known_of (half trade p es) (pair_of r.id recipient) ≡ row
        → by_seen trade p now es f (trade.view f.message) ≡ outcome_rows trade p now es f r recipient decision true row
    outcome_by r recipient decision is row t =
        by_kind r (outcome_kind decision) is.seen is.kind ∙ by_decision r decision ∙ ap (by_outcome trade p now es f r decision) is.names
        ∙ ap (λ (fits : Bool). outcome_rows trade p now es f r recipient decision fits (known_of (half trade p es) (pair_of r.id recipient)))
        (outcome_again r recipient decision is now)
        ∙ ap (outcome_rows trade p now es f r recipient decision true) t

    ack_by : (r : Receipt) (recipient : Bytes) → IsAck trade p es f r recipient → (acked : Bool) → is_acked (half trade p es) (pair_of r.id recipient) ≡ acked
        → by_seen trade p now es f (trade.view f.message) ≡ ack_rows trade p now es f r recipient true acked
    ack_by r recipient is acked t =
        by_kind r kinds.Ack is.seen is.kind ∙ ap (by_ack trade p now es f r) is.names
        ∙ ap (λ (fits : Bool). ack_rows trade p now es f r recipient fits (is_acked (half trade p es) (pair_of r.id recipient))) (ack_again r recipient is now)
        ∙ ap (ack_rows trade p now es f r recipient true) t

    charge_by : (r : Receipt) → IsCharge trade p es f r → (row : Option Charge) → charged_of (half trade p es) r.id r.by ≡ row
        → by_seen trade p now es f (trade.view f.message) ≡ charge_rows trade p now es f r true row
    charge_by r is row t =
        by_kind r kinds.Charge is.seen is.kind
        ∙ ap (λ (fits : Bool). charge_rows trade p now es f r fits (charged_of (half trade p es) r.id r.by)) (charge_again r is now)
        ∙ ap (charge_rows trade p now es f r true) t

    envelope_by : (id : Id) → IsEnvelope trade p es f id → (row : Option Taken) → taken_of (half trade p es) id ≡ row
        → by_seen trade p now es f (trade.view f.message) ≡ envelope_rows trade p now es f id true row
    envelope_by id is row t =
        ap (by_seen trade p now es f) is.seen
        ∙ ap (λ (fits : Bool). envelope_rows trade p now es f id fits (taken_of (half trade p es) id)) (envelope_again id is)
        ∙ ap (envelope_rows trade p now es f id true) t

    only_row : (step : Step) → IsReceived trade p es f now step → by_seen trade p now es f (trade.view f.message) ≡ step
    only_row step (NewEnvelope id is t e) = envelope_by id is None t ∙ sym e
    only_row step (KnownEnvelope id is t e) = let row = what_is (taken_of (half trade p es) id) t in envelope_by id is (Some row.0) row.1 ∙ sym e
    only_row step (NewCharge r is t e) = charge_by r is None t ∙ sym e
    only_row step (KnownCharge r is t e) = let row = what_is (charged_of (half trade p es) r.id r.by) t in charge_by r is (Some row.0) row.1 ∙ sym e
    only_row step (NewOutcome r recipient decision is t e) = outcome_by r recipient decision is None t ∙ sym e
    only_row step (KnownOutcome r recipient decision is t e) =
        let row = what_is (known_of (half trade p es) (pair_of r.id recipient)) t in outcome_by r recipient decision is (Some row.0) row.1 ∙ sym e
    only_row step (NewAck r recipient is t e) = ack_by r recipient is false t ∙ sym e
    only_row step (KnownAck r recipient is t e) = ack_by r recipient is true t ∙ sym e
    only_row step (SomeRoom n a accounts t e) =
        else_is (by_seen trade p now es f (trade.view f.message)) (by_seen_received (trade.view f.message) refl) n ∙ sym (else_is step (SomeRoom n a accounts t e) n)
    only_row step (NoRoom n t e) =
        else_is (by_seen trade p now es f (trade.view f.message)) (by_seen_received (trade.view f.message) refl) n ∙ sym (else_is step (NoRoom n t e) n)

-- A frame is done with by the row that applies.
pub row_says : (trade : Trade) (p now : ℕ) (es : List Entry) (frame : Bytes) (f : Framed) → trade.unframed frame ≡ Some f → (step : Step)
    → (arrive trade p now es frame ≡ step) ↔ IsReceived trade p es f now step
unfolding arrive
row_says trade p now es frame f u step = (
  λ e. subst (IsReceived trade p es f now) (sym (ap (by_frame trade p now es) u) ∙ e) (by_seen_received trade p es f now (trade.view f.message) refl),
  λ r. ap (by_frame trade p now es) u ∙ only_row trade p es f now step r,
)

pub no_frame : (trade : Trade) (p now : ℕ) (es : List Entry) (frame : Bytes) → trade.unframed frame ≡ None → arrive trade p now es frame ≡ passes events.Dropped []
unfolding arrive
no_frame trade p now es frame u = ap (by_frame trade p now es) u
