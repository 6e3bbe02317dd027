-- The tests of reception decide its rows, so `reception_of` is what is done with a frame.
use Rattle.std.proofs.Common.{◌≡◌, ℕ, nat_lt, ◌==◌, Bool, true, false, not, ◌&&◌, ◌↔◌, [], ◌∷◌, Option, Some, None, cond, unwrap_or, Decides, refl, sym, ap, ◌∙◌}
use Rattle.std.proofs.lemmas.Bool.{and_from, and_parts, eqb-true, eq-eqb}
use Rattle.std.proofs.lemmas.Bool.Decides.{Decides-and, Decides-ltb}
use Rattle.pec_types.specs.declared.letters.Letter.{Letter}
use Rattle.pec_types.specs.declared.letters.Letter.TheVariants as letters
use Rattle.pec_types.specs.Tables.{IsFirst, first_of, not_so, one_first}
use Rattle.pec_points.specs.Reception.{FrameRow, NewEnvelope, KnownEnvelope, NewCharge, KnownCharge, NewOutcome, KnownOutcome, NewAck, KnownAck, SomeRoom, NoRoom, frame_rows, AppliesToFrame, received_by, IsReception, IsEnvelope, IsCharge, IsOutcome, IsAck}
use Rattle.pec_points.specs.ReceptionReading.{applies_to_frame, fits, frame_row_of, is_ack, is_charge, is_envelope, is_home, is_outcome, received_else, received_new, reception_of}
use Rattle.pec_points.specs.declared.reception.Arrived.{Arrived}
use Rattle.pec_points.specs.declared.reception.Reception.{Reception}
use Rattle.pec_points.specs.declared.reception.Reception.TheVariants.{Repeat, Anomaly, Drop}

same : (b : Bool) → Decides b (b ≡ true)
same b = (λ e. e, λ e. e)

home_is : (number : ℕ) (home : Option ℕ) → Decides (is_home number home) (home ≡ Some number)
home_is number None = (λ e. absurd cc, λ e. absurd cc)
home_is number (Some home) = (λ e. ap (λ n. Some n) (eqb-true home number e), λ e. let same : home ≡ number = cc in eq-eqb home number same)

-- ---- the letters

envelope_row : (me : ℕ) (seen : Arrived) (letter : Option Letter) → seen.letter ≡ letter → Decides (is_envelope me seen letter) (IsEnvelope seen)
envelope_row me seen (Some (letters.Envelope id to)) e = (
  λ t.
      let parts = and_parts (seen.sealer == seen.id_provider) seen.path_fits t
      in record { id = id; to = to; letter = e; sealed = eqb-true seen.sealer seen.id_provider parts.0; path = parts.1 },
  λ h. and_from (seen.sealer == seen.id_provider) seen.path_fits (eq-eqb seen.sealer seen.id_provider h.sealed) h.path,
)
envelope_row me seen letter e = (λ t. absurd cc, λ h. absurd (let f = sym e ∙ h.letter in cc))

charge_row : (me : ℕ) (seen : Arrived) (letter : Option Letter) → seen.letter ≡ letter → Decides (is_charge me seen letter) (IsCharge me seen)
charge_row me seen (Some (letters.Charge id by)) e = (
  λ t.
      let first = and_parts (seen.sealer == by) ((seen.id_provider == me) && (seen.row_there && seen.path_fits)) t
      in let second = and_parts (seen.id_provider == me) (seen.row_there && seen.path_fits) first.1
      in let third = and_parts seen.row_there seen.path_fits second.1
      in record { id = id; by = by; letter = e; sealed = eqb-true seen.sealer by first.0; ours = eqb-true seen.id_provider me second.0; pairs = third.0; path = third.1 },
  λ h.
      let f : Some (letters.Charge id by) ≡ Some (letters.Charge h.id h.by) = sym e ∙ h.letter
      in let by_is : seen.sealer ≡ by = cc h.sealed
      in and_from (seen.sealer == by) ((seen.id_provider == me) && (seen.row_there && seen.path_fits)) (eq-eqb seen.sealer by by_is)
      (and_from (seen.id_provider == me) (seen.row_there && seen.path_fits) (eq-eqb seen.id_provider me h.ours) (and_from seen.row_there seen.path_fits h.pairs h.path)),
)
charge_row me seen letter e = (λ t. absurd cc, λ h. absurd (let f = sym e ∙ h.letter in cc))

outcome_row : (me : ℕ) (seen : Arrived) (letter : Option Letter) → seen.letter ≡ letter → Decides (is_outcome me seen letter) (IsOutcome me seen)
outcome_row me seen (Some (letters.Outcome id recipient)) e = (
  λ t.
      let first = and_parts (is_home seen.sealer seen.recipient_home) ((seen.id_provider == me) && (seen.row_there && seen.path_fits)) t
      in let second = and_parts (seen.id_provider == me) (seen.row_there && seen.path_fits) first.1
      in let third = and_parts seen.row_there seen.path_fits second.1
      in record { id = id; recipient = recipient; letter = e; sealed = (home_is seen.sealer seen.recipient_home).0 first.0; ours = eqb-true seen.id_provider me second.0; pair = third.0; path = third.1 },
  λ h. and_from (is_home seen.sealer seen.recipient_home) ((seen.id_provider == me) && (seen.row_there && seen.path_fits)) ((home_is seen.sealer seen.recipient_home).1 h.sealed)
      (and_from (seen.id_provider == me) (seen.row_there && seen.path_fits) (eq-eqb seen.id_provider me h.ours) (and_from seen.row_there seen.path_fits h.pair h.path)),
)
outcome_row me seen letter e = (λ t. absurd cc, λ h. absurd (let f = sym e ∙ h.letter in cc))

ack_row : (me : ℕ) (seen : Arrived) (letter : Option Letter) → seen.letter ≡ letter → Decides (is_ack me seen letter) (IsAck me seen)
ack_row me seen (Some (letters.Ack id recipient)) e = (
  λ t.
      let first = and_parts (seen.sealer == seen.id_provider) (is_home me seen.recipient_home && (seen.row_there && seen.path_fits)) t
      in let second = and_parts (is_home me seen.recipient_home) (seen.row_there && seen.path_fits) first.1
      in let third = and_parts seen.row_there seen.path_fits second.1
      in record { id = id; recipient = recipient; letter = e; sealed = eqb-true seen.sealer seen.id_provider first.0; ours = (home_is me seen.recipient_home).0 second.0; pair = third.0; path = third.1 },
  λ h. and_from (seen.sealer == seen.id_provider) (is_home me seen.recipient_home && (seen.row_there && seen.path_fits)) (eq-eqb seen.sealer seen.id_provider h.sealed)
      (and_from (is_home me seen.recipient_home) (seen.row_there && seen.path_fits) ((home_is me seen.recipient_home).1 h.ours) (and_from seen.row_there seen.path_fits h.pair h.path)),
)
ack_row me seen letter e = (λ t. absurd cc, λ h. absurd (let f = sym e ∙ h.letter in cc))

-- ---- the rows

frame_row : (me : ℕ) (seen : Arrived) (row : FrameRow) → Decides (applies_to_frame me seen row) (AppliesToFrame me seen row)
frame_row me seen NewEnvelope = Decides-and (is_envelope me seen seen.letter) (not seen.done) (envelope_row me seen seen.letter refl) (not_so seen.done)
frame_row me seen KnownEnvelope = Decides-and (is_envelope me seen seen.letter) seen.done (envelope_row me seen seen.letter refl) (same seen.done)
frame_row me seen NewCharge = Decides-and (is_charge me seen seen.letter) (not seen.done) (charge_row me seen seen.letter refl) (not_so seen.done)
frame_row me seen KnownCharge = Decides-and (is_charge me seen seen.letter) seen.done (charge_row me seen seen.letter refl) (same seen.done)
frame_row me seen NewOutcome = Decides-and (is_outcome me seen seen.letter) (not seen.done) (outcome_row me seen seen.letter refl) (not_so seen.done)
frame_row me seen KnownOutcome = Decides-and (is_outcome me seen seen.letter) seen.done (outcome_row me seen seen.letter refl) (same seen.done)
frame_row me seen NewAck = Decides-and (is_ack me seen seen.letter) (not seen.done) (ack_row me seen seen.letter refl) (not_so seen.done)
frame_row me seen KnownAck = Decides-and (is_ack me seen seen.letter) seen.done (ack_row me seen seen.letter refl) (same seen.done)
frame_row me seen SomeRoom = Decides-ltb 0 seen.accounts_with_room
frame_row me seen NoRoom = (λ e. tt, λ h. refl)

first_row : (me : ℕ) (seen : Arrived) → IsFirst (AppliesToFrame me seen) frame_rows (frame_row_of me seen)
first_row me seen =
    first_of (applies_to_frame me seen) (AppliesToFrame me seen) (frame_row me seen)
    (NewEnvelope ∷ KnownEnvelope ∷ NewCharge ∷ KnownCharge ∷ NewOutcome ∷ KnownOutcome ∷ NewAck ∷ KnownAck ∷ SomeRoom ∷ []) NoRoom NoRoom refl

pub some_row : (me : ℕ) (seen : Arrived) → (row : FrameRow) × IsFirst (AppliesToFrame me seen) frame_rows row
some_row me seen = (frame_row_of me seen, first_row me seen)

pub one_row : (me : ℕ) (seen : Arrived) (row other : FrameRow)
    → IsFirst (AppliesToFrame me seen) frame_rows row → IsFirst (AppliesToFrame me seen) frame_rows other → row ≡ other
one_row me seen = one_first (applies_to_frame me seen) (AppliesToFrame me seen) (frame_row me seen) frame_rows

pub reception_is : (me : ℕ) (seen : Arrived) (reception : Reception) → reception ≡ reception_of me seen → IsReception me seen reception
unfolding reception_of
reception_is me seen reception e = record { row = frame_row_of me seen; first = first_row me seen; answer = e }

reception_again : (me : ℕ) (seen : Arrived) (reception : Reception) → IsReception me seen reception → reception_of me seen ≡ reception
unfolding reception_of
reception_again me seen reception h = ap received_by (one_row me seen (frame_row_of me seen) h.row (first_row me seen) h.first) ∙ sym h.answer

pub reception_says : (me : ℕ) (seen : Arrived) (reception : Reception) → (reception_of me seen ≡ reception) ↔ IsReception me seen reception
reception_says me seen reception = (λ e. reception_is me seen reception (sym e), λ h. reception_again me seen reception h)

-- ---- by letters

fitting : (me : ℕ) (seen : Arrived) (letter : Letter) (done : Bool) → seen.letter ≡ Some letter → fits me seen letter ≡ true → seen.done ≡ done
    → reception_of me seen ≡ cond done Repeat (received_new letter)
unfolding reception_of
fitting me seen (letters.Envelope id to) true e f d = rw (e, d, f) refl
fitting me seen (letters.Envelope id to) false e f d = rw (e, d, f) refl
fitting me seen (letters.Charge id by) true e f d = rw (e, d, f) refl
fitting me seen (letters.Charge id by) false e f d = rw (e, d, f) refl
fitting me seen (letters.Outcome id recipient) true e f d = rw (e, d, f) refl
fitting me seen (letters.Outcome id recipient) false e f d = rw (e, d, f) refl
fitting me seen (letters.Ack id recipient) true e f d = rw (e, d, f) refl
fitting me seen (letters.Ack id recipient) false e f d = rw (e, d, f) refl

else_by : (b : Bool) → received_by (unwrap_or (cond b (Some SomeRoom) (Some NoRoom)) NoRoom) ≡ cond b Anomaly Drop
else_by true = refl
else_by false = refl

pub no_letter : (me : ℕ) (seen : Arrived) → seen.letter ≡ None → reception_of me seen ≡ received_else seen
unfolding reception_of
no_letter me seen e = rw e (else_by (nat_lt 0 seen.accounts_with_room))

pub no_fit : (me : ℕ) (seen : Arrived) (letter : Letter) → seen.letter ≡ Some letter → fits me seen letter ≡ false → reception_of me seen ≡ received_else seen
unfolding reception_of
no_fit me seen (letters.Envelope id to) e f = rw (e, f) (else_by (nat_lt 0 seen.accounts_with_room))
no_fit me seen (letters.Charge id by) e f = rw (e, f) (else_by (nat_lt 0 seen.accounts_with_room))
no_fit me seen (letters.Outcome id recipient) e f = rw (e, f) (else_by (nat_lt 0 seen.accounts_with_room))
no_fit me seen (letters.Ack id recipient) e f = rw (e, f) (else_by (nat_lt 0 seen.accounts_with_room))

pub known_letter : (me : ℕ) (seen : Arrived) (letter : Letter) → seen.letter ≡ Some letter → fits me seen letter ≡ true → seen.done ≡ true
    → reception_of me seen ≡ Repeat
known_letter me seen letter e f d = fitting me seen letter true e f d

pub new_letter : (me : ℕ) (seen : Arrived) (letter : Letter) → seen.letter ≡ Some letter → fits me seen letter ≡ true → seen.done ≡ false
    → reception_of me seen ≡ received_new letter
new_letter me seen letter e f d = fitting me seen letter false e f d
