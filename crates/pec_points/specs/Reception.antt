-- Reception: what a provider does with a frame, row by row, by what it sees of the letter in it (RFC 6109, sections 3.1
-- to 3.3, within this project's profile). `IsReception`, at the end. The rows of letters come in pairs, for a letter
-- that is new and for one that was received before.
use Rattle.std.specs.Prelude.{◌≡◌, ℕ, ◌<◌, true, false, List, [], ◌∷◌, Some}
use Rattle.pec_types.specs.Message.{Id}
use Rattle.pec_types.specs.Tables.{IsFirst}
use Rattle.pec_types.specs.declared.letters.Letter.TheVariants as letters
use Rattle.pec_points.specs.declared.reception.Arrived.{Arrived}
use Rattle.pec_points.specs.declared.reception.Reception.{Reception}
use Rattle.pec_points.specs.declared.reception.Reception.TheVariants.{Take, Charge, Outcome, Ack, Repeat, Anomaly, Drop}

-- ---- letters for this provider

-- An envelope that the provider of its id sealed, along the path of the certified recipients here, of whom there are
-- some.
pub record IsEnvelope (seen : Arrived) : Type 0 where
  pub id : Id
  pub to : ℕ
  pub letter : seen.letter ≡ Some (letters.Envelope id to)
  pub sealed : seen.sealer ≡ seen.id_provider
  pub path : seen.path_fits ≡ true

-- A charge that its own provider sealed, for a message of this provider that has pairs there, along the path of the
-- receipt address.
pub record IsCharge (me : ℕ) (seen : Arrived) : Type 0 where
  pub id : Id
  pub by : ℕ
  pub letter : seen.letter ≡ Some (letters.Charge id by)
  pub sealed : seen.sealer ≡ by
  pub ours : seen.id_provider ≡ me
  pub pairs : seen.row_there ≡ true
  pub path : seen.path_fits ≡ true

-- An outcome that the recipient's provider sealed, of a pair of a message of this provider, along the path of the
-- sender, or of the receipt address where it tells of a virus.
pub record IsOutcome (me : ℕ) (seen : Arrived) : Type 0 where
  pub id : Id
  pub recipient : List ℕ
  pub letter : seen.letter ≡ Some (letters.Outcome id recipient)
  pub sealed : seen.recipient_home ≡ Some seen.sealer
  pub ours : seen.id_provider ≡ me
  pub pair : seen.row_there ≡ true
  pub path : seen.path_fits ≡ true

-- An acknowledgement that the provider of the id sealed, of a pair that is decided here, where its recipient is at
-- home, along the path of the receipt address.
pub record IsAck (me : ℕ) (seen : Arrived) : Type 0 where
  pub id : Id
  pub recipient : List ℕ
  pub letter : seen.letter ≡ Some (letters.Ack id recipient)
  pub sealed : seen.sealer ≡ seen.id_provider
  pub ours : seen.recipient_home ≡ Some me
  pub pair : seen.row_there ≡ true
  pub path : seen.path_fits ≡ true

-- ---- the table

-- The rows, each named by its case.
pub data FrameRow : Type 0 where
  NewEnvelope : FrameRow
  KnownEnvelope : FrameRow
  NewCharge : FrameRow
  KnownCharge : FrameRow
  NewOutcome : FrameRow
  KnownOutcome : FrameRow
  NewAck : FrameRow
  KnownAck : FrameRow
  SomeRoom : FrameRow
  NoRoom : FrameRow

-- The rows in their order.
abbrev pub frame_rows : List FrameRow
frame_rows =
    NewEnvelope ∷ KnownEnvelope ∷ NewCharge ∷ KnownCharge ∷ NewOutcome ∷ KnownOutcome ∷ NewAck ∷ KnownAck
    ∷ SomeRoom ∷ NoRoom ∷ []

-- When a row applies at the provider of the number `me`. The last two are for anything else.
abbrev pub AppliesToFrame : ℕ → Arrived → FrameRow → Type 0
AppliesToFrame me seen NewEnvelope = IsEnvelope seen × (seen.done ≡ false)
AppliesToFrame me seen KnownEnvelope = IsEnvelope seen × (seen.done ≡ true)
AppliesToFrame me seen NewCharge = IsCharge me seen × (seen.done ≡ false)
AppliesToFrame me seen KnownCharge = IsCharge me seen × (seen.done ≡ true)
AppliesToFrame me seen NewOutcome = IsOutcome me seen × (seen.done ≡ false)
AppliesToFrame me seen KnownOutcome = IsOutcome me seen × (seen.done ≡ true)
AppliesToFrame me seen NewAck = IsAck me seen × (seen.done ≡ false)
AppliesToFrame me seen KnownAck = IsAck me seen × (seen.done ≡ true)
AppliesToFrame me seen SomeRoom = 0 < seen.accounts_with_room
AppliesToFrame me seen NoRoom = Unit {0}

-- What a row answers.
abbrev pub received_by : FrameRow → Reception
received_by NewEnvelope = Take
received_by KnownEnvelope = Repeat
received_by NewCharge = Charge
received_by KnownCharge = Repeat
received_by NewOutcome = Outcome
received_by KnownOutcome = Repeat
received_by NewAck = Ack
received_by KnownAck = Repeat
received_by SomeRoom = Anomaly
received_by NoRoom = Drop

-- This is done with the frame, by the first row that applies.
pub record IsReception (me : ℕ) (seen : Arrived) (reception : Reception) : Type 0 where
  pub row : FrameRow
  pub first : IsFirst (AppliesToFrame me seen) frame_rows row
  pub answer : reception ≡ received_by row
