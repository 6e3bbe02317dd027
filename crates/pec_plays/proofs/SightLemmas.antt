-- What is done with a frame, and what is decided, is what the tables of pec_points answer.
use Rattle.std.proofs.Common.{◌≡◌, ℕ, List, [], ◌∷◌, Bool, true, false, not, ◌&&◌, cond, inl, inr, length, refl, ap, sym, ◌∙◌, arith, nat_lt, Option, Some, None}
use Rattle.std.specs.Prelude.{is_some, nat_le, unwrap_or, ◌==◌, if◌then◌else◌}
use Rattle.std.proofs.lemmas.Bool.{and_parts, eqb-true, eq-eqb, false≢true, ltb-false, ne_eqb}
use Rattle.pec_types.specs.Bytes.{Bytes, Path}
use Rattle.pec_types.specs.Message.{Id}
use Rattle.pec_types.specs.declared.letters.Letter.{Letter}
use Rattle.pec_types.specs.declared.letters.Letter.TheVariants as letters
use Rattle.pec_types.specs.declared.messages.Decision.{Decision}
use Rattle.pec_types.specs.declared.messages.Decision.TheVariants.{Placed, Refused}
use Rattle.pec_types.specs.declared.messages.Refusal.TheVariants as refusals
use Rattle.pec_types.specs.declared.receipts.Kind.{Kind}
use Rattle.pec_types.specs.declared.receipts.Kind.TheVariants as kinds
use Rattle.pec_types.specs.declared.turns.Event.TheVariants as events
use Rattle.pec_records.specs.declared.entries.Entry.{Entry}
use Rattle.pec_points.specs.Decision.{HasRoom, Infected, IsFull, NoAccount, decided_by}
use Rattle.pec_points.specs.DecisionReading.{decision_of}
use Rattle.pec_points.specs.Reception.{FrameRow, NewEnvelope, KnownEnvelope, NewCharge, KnownCharge, NewOutcome, KnownOutcome, NewAck, KnownAck, SomeRoom, NoRoom, received_by}
use Rattle.pec_points.specs.ReceptionReading.{is_home as is_table_home, reception_of}
use Rattle.pec_points.specs.declared.reception.Arrived.{Arrived}
use Rattle.pec_points.specs.declared.reception.Reception.{Reception}
use Rattle.pec_points.specs.declared.reception.Reception.TheVariants.{Take, Charge, Outcome, Ack, Repeat, Anomaly, Drop}
use Rattle.pec_ledger.specs.Half.{Half, Charge as ChargeRow, Known, Taken}
use Rattle.pec_ledger.specs.Lookups.{accepted_at, charged_of, counted, decided_of, is_acked, is_home, known_of, taken_of}
use Rattle.pec_ledger.specs.Own.{MayDecide, decision_at}
use Rattle.pec_ledger.specs.Pairs.{pair_of}
use Rattle.pec_ledger.specs.Steps.{half}
use Rattle.pec_ledger.specs.Trade.{Framed, Receipt, Seen, SeenEnvelope, SeenReceipt, Trade}
use Rattle.pec_plays.specs.Decisions.{decision_on}
use Rattle.pec_plays.specs.Reception.{accounts_with_room, ack_fits, ack_rows, anomaly, arrive, by_ack, by_frame, by_outcome, by_receipt, by_seen, charge_fits, charge_rows, envelope_fits, envelope_rows, has_pair, is_outcome_path, otherwise, outcome_fits, outcome_rows, same_path}
use Rattle.pec_plays.specs.Steps.{Step, passes}
use Rattle.pec_plays.specs.TableSight.{a_charge, a_receipt, an_ack, an_envelope, an_outcome, arrived_at, arrived_by, decision_of_kind, done_by, done_on, mailbox_at, no_letter, rooms_in}

-- ---- decisions

abbrev table_decision : Bool → Bool → Bool → Decision
table_decision account virus full =
    decided_by (unwrap_or (cond (not account) (Some NoAccount) (cond virus (Some Infected) (cond full (Some IsFull) (Some HasRoom)))) HasRoom)

abbrev own_decision : Bool → Bool → Decision
own_decision account full = if not account then Refused refusals.NoMailbox else (if full then Refused refusals.MailboxFull else Placed)

abbrev screened_decision : Bool → Bool → Bool → Decision
screened_decision account virus full = if account && virus then Refused refusals.Virus else own_decision account full

one_decision : (account virus full : Bool) → screened_decision account virus full ≡ table_decision account virus full
one_decision true true full = refl
one_decision true false true = refl
one_decision true false false = refl
one_decision false true true = refl
one_decision false true false = refl
one_decision false false true = refl
one_decision false false false = refl

pub decision_seen_so : (trade : Trade) (p : ℕ) (h : Half) (r : Bytes) (found : Bool) → decision_on trade p h r found ≡ decision_of (mailbox_at trade p h r found)
unfolding decision_at decision_of decision_on mailbox_at
decision_seen_so trade p h r found = one_decision (trade.is_account p r) found (nat_le (trade.quota r) (counted h r))

-- a provider may decide so
pub may_decide : (trade : Trade) (p : ℕ) (h : Half) (r : Bytes) (found : Bool) → MayDecide trade p h r (decision_on trade p h r found)
unfolding decision_on
may_decide trade p h r found = by (trade.is_account p r && found) refl
  where
    by : (b : Bool) → (trade.is_account p r && found) ≡ b → MayDecide trade p h r (if b then Refused refusals.Virus else decision_at trade p h r)
    by true e = inr (refl, (and_parts (trade.is_account p r) found e).0)
    by false e = inl refl

-- no screen being asked it is the decision of the ledger
pub unscreened_decision : (trade : Trade) (p : ℕ) (h : Half) (r : Bytes) → decision_on trade p h r false ≡ decision_at trade p h r
unfolding decision_on
unscreened_decision trade p h r = by (trade.is_account p r)
  where
    by : (b : Bool) → (if b && false then Refused refusals.Virus else decision_at trade p h r) ≡ decision_at trade p h r
    by true = refl
    by false = refl

-- ---- the answer of the table of reception, by what the tests say

-- a letter for this provider is taken in or repeated, anything else is an anomaly or dropped
abbrev answer : Bool → Bool → Bool → Reception → Reception
answer fits done room new = if fits then (if done then Repeat else new) else (if room then Anomaly else Drop)

abbrev pair_row : FrameRow → FrameRow → Bool → Bool → Bool → Reception
pair_row new known fits done room =
    received_by (unwrap_or (cond (fits && not done) (Some new) (cond (fits && done) (Some known) (cond room (Some SomeRoom) (Some NoRoom)))) NoRoom)

row_answers : (new known : FrameRow) → received_by known ≡ Repeat → (fits done room : Bool)
    → pair_row new known fits done room ≡ answer fits done room (received_by new)
row_answers new known e true true room = e
row_answers new known e true false room = refl
row_answers new known e false true true = refl
row_answers new known e false true false = refl
row_answers new known e false false true = refl
row_answers new known e false false false = refl

module _ (trade : Trade) (p now : ℕ) (es : List Entry) (f : Framed) where
  abbrev room : Bool
  room = nat_lt 0 (rooms_in trade p es f)

  -- ---- what the table answers on each kind of letter

  same_home : (number : ℕ) (home : Option ℕ) → is_table_home number home ≡ is_home number home
  same_home number None = refl
  same_home number (Some home) = turned_round (home == number) refl
    where
      turned_round : (b : Bool) → (home == number) ≡ b → (home == number) ≡ (number == home)
      turned_round true e = e ∙ sym (eq-eqb number home (sym (eqb-true home number e)))
      turned_round false e = e ∙ sym (ne_eqb number home (λ (same : number ≡ home). false≢true (sym e ∙ eq-eqb home number (sym same))))

  itself : (n : ℕ) (test : Bool) → ((n == n) && test) ≡ test
  itself n test = ap (λ b. b && test) (eq-eqb n n refl)

  on_nothing : reception_of p (no_letter trade p es f) ≡ answer false false room Drop
  unfolding reception_of
  on_nothing = by_room room
    where
      by_room : (r : Bool) → received_by (unwrap_or (cond r (Some SomeRoom) (Some NoRoom)) NoRoom) ≡ answer false false r Drop
      by_room true = refl
      by_room false = refl

  on_envelope : (id : Id) → reception_of p (an_envelope trade p es f id) ≡ answer (envelope_fits trade p f) (is_some (taken_of (half trade p es) id)) room Take
  unfolding reception_of
  on_envelope id =
      row_answers NewEnvelope KnownEnvelope refl ((id.provider == id.provider) && envelope_fits trade p f) (is_some (taken_of (half trade p es) id)) room
      ∙ ap (λ (b : Bool). answer b (is_some (taken_of (half trade p es) id)) room Take) (itself id.provider (envelope_fits trade p f))

  on_charge : (r : Receipt)
      → reception_of p (a_charge trade p es f r) ≡ answer (charge_fits trade p now es f r) (is_some (charged_of (half trade p es) r.id r.by)) room Charge
  unfolding reception_of
  on_charge r =
      row_answers NewCharge KnownCharge refl ((r.by == r.by) && charge_fits trade p now es f r) (is_some (charged_of (half trade p es) r.id r.by)) room
      ∙ ap (λ (b : Bool). answer b (is_some (charged_of (half trade p es) r.id r.by)) room Charge) (itself r.by (charge_fits trade p now es f r))

  swapped_tests : (a b c d : Bool) → a ≡ b → (a && (c && d)) ≡ (c && (b && d))
  swapped_tests true true true d e = refl
  swapped_tests true true false d e = refl
  swapped_tests false false true d e = refl
  swapped_tests false false false d e = refl
  swapped_tests true false c d e = absurd (false≢true (sym e))
  swapped_tests false true c d e = absurd (false≢true e)

  on_outcome : (r : Receipt) (decision : Decision) (recipient : Bytes) → reception_of p (an_outcome trade p es f r decision (Some recipient))
      ≡ answer (outcome_fits trade p now es f r recipient decision) (is_some (known_of (half trade p es) (pair_of r.id recipient))) room Outcome
  unfolding reception_of
  on_outcome r decision recipient =
      let found = accepted_at (half trade p es) r.id.number
      in let there = has_pair trade recipient found && is_outcome_path trade r.id decision f.path found
      in row_answers NewOutcome KnownOutcome refl (is_table_home r.by (trade.home recipient) && ((r.id.provider == p) && there))
      (is_some (known_of (half trade p es) (pair_of r.id recipient))) room
      ∙ ap (λ (b : Bool). answer b (is_some (known_of (half trade p es) (pair_of r.id recipient))) room Outcome)
      (swapped_tests (is_table_home r.by (trade.home recipient)) (is_home r.by (trade.home recipient)) (r.id.provider == p) there (same_home r.by (trade.home recipient)))

  on_ack : (r : Receipt) (recipient : Bytes) → reception_of p (an_ack trade p es f r (Some recipient))
      ≡ answer (ack_fits trade p now es f r recipient) (is_acked (half trade p es) (pair_of r.id recipient)) room Ack
  unfolding reception_of
  on_ack r recipient =
      let there = is_some (decided_of (half trade p es) (pair_of r.id recipient)) && same_path f.path (trade.receipts p ∷ [])
      in row_answers NewAck KnownAck refl ((r.by == r.id.provider) && (is_table_home p (trade.home recipient) && there)) (is_acked (half trade p es) (pair_of r.id recipient)) room
      ∙ ap (λ (b : Bool). answer ((r.by == r.id.provider) && (b && there)) (is_acked (half trade p es) (pair_of r.id recipient)) room Ack) (same_home p (trade.home recipient))

  -- ---- what is done

  no_room : (accounts : Path) → nat_lt 0 (length accounts) ≡ false → anomaly trade p now es f.message accounts ≡ passes events.Dropped []
  no_room [] e = refl
  no_room (a ∷ accounts) e = absurd (let l = ltb-false 0 (length (a ∷ accounts)) e in omega (arith, l))

  else_done : (seen : Option Seen) (letter : Option Letter) (r : Bool) → room ≡ r
      → otherwise trade p now es f ≡ done_on trade p now es f seen (if r then Anomaly else Drop) letter
  else_done seen letter true e = refl
  else_done seen letter false e = no_room (accounts_with_room trade p es f.path) e

  envelope_done : (id : Id) (seen : Option Seen) (fits : Bool) (row : Option Taken)
      → envelope_rows trade p now es f id fits row ≡ done_on trade p now es f seen (answer fits (is_some row) room Take) (Some (letters.Envelope id p))
  envelope_done id seen false row = else_done seen (Some (letters.Envelope id p)) room refl
  envelope_done id seen true None = refl
  envelope_done id seen true (Some row) = refl

  charge_done : (r : Receipt) (seen : Option Seen) (fits : Bool) (row : Option ChargeRow)
      → charge_rows trade p now es f r fits row ≡ done_on trade p now es f seen (answer fits (is_some row) room Charge) (Some (letters.Charge r.id r.by))
  charge_done r seen false row = else_done seen (Some (letters.Charge r.id r.by)) room refl
  charge_done r seen true None = refl
  charge_done r seen true (Some row) = refl

  outcome_done : (r : Receipt) (recipient : Bytes) (decision : Decision) → decision_of_kind r.kind ≡ decision → (fits : Bool) (row : Option Known)
      → outcome_rows trade p now es f r recipient decision fits row
      ≡ done_on trade p now es f (Some (SeenReceipt r)) (answer fits (is_some row) room Outcome) (Some (letters.Outcome r.id recipient))
  outcome_done r recipient decision e false row = else_done (Some (SeenReceipt r)) (Some (letters.Outcome r.id recipient)) room refl
  outcome_done r recipient decision e true None = ap (λ (d : Decision). outcome_rows trade p now es f r recipient d true None) (sym e)
  outcome_done r recipient decision e true (Some row) = refl

  ack_done : (r : Receipt) (recipient : Bytes) (seen : Option Seen) (fits acked : Bool)
      → ack_rows trade p now es f r recipient fits acked ≡ done_on trade p now es f seen (answer fits acked room Ack) (Some (letters.Ack r.id recipient))
  ack_done r recipient seen false acked = else_done seen (Some (letters.Ack r.id recipient)) room refl
  ack_done r recipient seen true false = refl
  ack_done r recipient seen true true = refl

  -- ---- all together

  abbrev By : Option Seen → Step → Arrived → Type 0
  By seen step arrived = step ≡ done_on trade p now es f seen (reception_of p arrived) arrived.letter

  otherwise_by : (seen : Option Seen) → By seen (otherwise trade p now es f) (no_letter trade p es f)
  otherwise_by seen = else_done seen None room refl ∙ sym (ap (λ (a : Reception). done_on trade p now es f seen a None) on_nothing)

  outcome_by : (r : Receipt) (decision : Decision) → decision_of_kind r.kind ≡ decision → (recipient : Option Bytes)
      → By (Some (SeenReceipt r)) (by_outcome trade p now es f r decision recipient) (an_outcome trade p es f r decision recipient)
  outcome_by r decision e None = otherwise_by (Some (SeenReceipt r))
  outcome_by r decision e (Some recipient) =
      outcome_done r recipient decision e (outcome_fits trade p now es f r recipient decision) (known_of (half trade p es) (pair_of r.id recipient))
      ∙ sym (ap (λ (a : Reception). done_on trade p now es f (Some (SeenReceipt r)) a (Some (letters.Outcome r.id recipient))) (on_outcome r decision recipient))

  ack_by : (r : Receipt) (recipient : Option Bytes) → By (Some (SeenReceipt r)) (by_ack trade p now es f r recipient) (an_ack trade p es f r recipient)
  ack_by r None = otherwise_by (Some (SeenReceipt r))
  ack_by r (Some recipient) =
      ack_done r recipient (Some (SeenReceipt r)) (ack_fits trade p now es f r recipient) (is_acked (half trade p es) (pair_of r.id recipient))
      ∙ sym (ap (λ (a : Reception). done_on trade p now es f (Some (SeenReceipt r)) a (Some (letters.Ack r.id recipient))) (on_ack r recipient))

  receipt_by : (r : Receipt) (kind : Kind) → r.kind ≡ kind → By (Some (SeenReceipt r)) (by_receipt trade p now es f r kind) (a_receipt trade p es f r kind)
  receipt_by r kinds.Charge e =
      charge_done r (Some (SeenReceipt r)) (charge_fits trade p now es f r) (charged_of (half trade p es) r.id r.by)
      ∙ sym (ap (λ (a : Reception). done_on trade p now es f (Some (SeenReceipt r)) a (Some (letters.Charge r.id r.by))) (on_charge r))
  receipt_by r kinds.Delivery e = outcome_by r Placed (ap decision_of_kind e) r.recipient
  receipt_by r (kinds.DeliveryError refusals.NoMailbox) e = outcome_by r (Refused refusals.NoMailbox) (ap decision_of_kind e) r.recipient
  receipt_by r (kinds.DeliveryError refusals.MailboxFull) e = outcome_by r (Refused refusals.MailboxFull) (ap decision_of_kind e) r.recipient
  receipt_by r (kinds.DeliveryError refusals.Virus) e = otherwise_by (Some (SeenReceipt r))
  receipt_by r kinds.VirusFound e = outcome_by r (Refused refusals.Virus) (ap decision_of_kind e) r.recipient
  receipt_by r kinds.Ack e = ack_by r r.recipient
  receipt_by r kinds.Acceptance e = otherwise_by (Some (SeenReceipt r))
  receipt_by r (kinds.NonAcceptance cause) e = otherwise_by (Some (SeenReceipt r))
  receipt_by r kinds.Warning e = otherwise_by (Some (SeenReceipt r))
  receipt_by r kinds.Notice e = otherwise_by (Some (SeenReceipt r))
  receipt_by r kinds.LateNotice e = otherwise_by (Some (SeenReceipt r))

  seen_by : (seen : Option Seen) → By seen (by_seen trade p now es f seen) (arrived_by trade p es f seen)
  seen_by None = otherwise_by None
  seen_by (Some (SeenEnvelope id moment original)) =
      envelope_done id (Some (SeenEnvelope id moment original)) (envelope_fits trade p f) (taken_of (half trade p es) id)
      ∙ sym (ap (λ (a : Reception). done_on trade p now es f (Some (SeenEnvelope id moment original)) a (Some (letters.Envelope id p))) (on_envelope id))
  seen_by (Some (SeenReceipt r)) = receipt_by r r.kind refl

pub done_by_table : (trade : Trade) (p now : ℕ) (es : List Entry) (frame : Bytes) (f : Framed) → trade.unframed frame ≡ Some f
    → arrive trade p now es frame ≡ done_by trade p now es f (reception_of p (arrived_at trade p es f)) (arrived_at trade p es f).letter
unfolding arrive arrived_at
done_by_table trade p now es frame f u = ap (by_frame trade p now es) u ∙ seen_by trade p now es f (trade.view f.message)
