-- Reception as a function of what is seen: the rows by tests, and the first that applies. `Reception` says what the
-- rows mean.
use Rattle.std.specs.Prelude.{ℕ, ◌==◌, nat_lt, Bool, true, false, not, ◌&&◌, if◌then◌else◌, Option, Some, None, unwrap_or}
use Rattle.std.specs.List.{find}
use Rattle.pec_types.specs.declared.letters.Letter.{Letter}
use Rattle.pec_types.specs.declared.letters.Letter.TheVariants as letters
use Rattle.pec_points.specs.Reception.{FrameRow, NewEnvelope, KnownEnvelope, NewCharge, KnownCharge, NewOutcome, KnownOutcome, NewAck, KnownAck, SomeRoom, NoRoom, frame_rows, received_by}
use Rattle.pec_points.specs.declared.reception.Arrived.{Arrived}
use Rattle.pec_points.specs.declared.reception.Reception.{Reception}
use Rattle.pec_points.specs.declared.reception.Reception.TheVariants.{Take, Charge, Outcome, Ack, Anomaly, Drop}

abbrev pub is_home : ℕ → Option ℕ → Bool
is_home number None = false
is_home number (Some home) = home == number

-- Whether the letter is one for the provider of the number `me`, new or not.
abbrev pub fits : ℕ → Arrived → Letter → Bool
fits me seen (letters.Envelope id to) = (seen.sealer == seen.id_provider) && seen.path_fits
fits me seen (letters.Charge id by) =
    (seen.sealer == by) && ((seen.id_provider == me) && (seen.row_there && seen.path_fits))
fits me seen (letters.Outcome id recipient) =
    is_home seen.sealer seen.recipient_home && ((seen.id_provider == me) && (seen.row_there && seen.path_fits))
fits me seen (letters.Ack id recipient) =
    (seen.sealer == seen.id_provider) && (is_home me seen.recipient_home && (seen.row_there && seen.path_fits))

-- What is done with such a letter where it is new.
abbrev pub received_new : Letter → Reception
received_new (letters.Envelope id to) = Take
received_new (letters.Charge id by) = Charge
received_new (letters.Outcome id recipient) = Outcome
received_new (letters.Ack id recipient) = Ack

-- What is done with a frame that holds no such letter.
abbrev pub received_else : Arrived → Reception
received_else seen = if nat_lt 0 seen.accounts_with_room then Anomaly else Drop

abbrev pub is_envelope : ℕ → Arrived → Option Letter → Bool
is_envelope me seen (Some (letters.Envelope id to)) = fits me seen (letters.Envelope id to)
is_envelope me seen _ = false

abbrev pub is_charge : ℕ → Arrived → Option Letter → Bool
is_charge me seen (Some (letters.Charge id by)) = fits me seen (letters.Charge id by)
is_charge me seen _ = false

abbrev pub is_outcome : ℕ → Arrived → Option Letter → Bool
is_outcome me seen (Some (letters.Outcome id recipient)) = fits me seen (letters.Outcome id recipient)
is_outcome me seen _ = false

abbrev pub is_ack : ℕ → Arrived → Option Letter → Bool
is_ack me seen (Some (letters.Ack id recipient)) = fits me seen (letters.Ack id recipient)
is_ack me seen _ = false

-- Whether a row applies.
abbrev pub applies_to_frame : ℕ → Arrived → FrameRow → Bool
applies_to_frame me seen NewEnvelope = is_envelope me seen seen.letter && not seen.done
applies_to_frame me seen KnownEnvelope = is_envelope me seen seen.letter && seen.done
applies_to_frame me seen NewCharge = is_charge me seen seen.letter && not seen.done
applies_to_frame me seen KnownCharge = is_charge me seen seen.letter && seen.done
applies_to_frame me seen NewOutcome = is_outcome me seen seen.letter && not seen.done
applies_to_frame me seen KnownOutcome = is_outcome me seen seen.letter && seen.done
applies_to_frame me seen NewAck = is_ack me seen seen.letter && not seen.done
applies_to_frame me seen KnownAck = is_ack me seen seen.letter && seen.done
applies_to_frame me seen SomeRoom = nat_lt 0 seen.accounts_with_room
applies_to_frame me seen NoRoom = true

-- The first row that applies.
abbrev pub frame_row_of : ℕ → Arrived → FrameRow
frame_row_of me seen = unwrap_or (find (applies_to_frame me seen) frame_rows) NoRoom

-- What is done with the frame.
unfoldable pub reception_of : ℕ → Arrived → Reception
reception_of me seen = received_by (frame_row_of me seen)
