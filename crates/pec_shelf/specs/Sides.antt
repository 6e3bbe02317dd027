-- What contracts see of the parts of a shelf: the rows of the sender's side, of the recipient's side, and of mailboxes, and
-- the places of entries, each with the number of further rows that its lists have memory for.
use Rattle.std.specs.Prelude.{ℕ, ◌==◌, List, map, length, Option, Some, None, if◌then◌else◌}
use Rattle.pec_types.specs.Bytes.{Bytes}
use Rattle.pec_types.specs.declared.places.Place.{Place}
use Rattle.pec_ledger.specs.Half.{Charge, Fate, Known, Mark, Message, Posted, Taken}
use Rattle.pec_ledger.specs.Pairs.{Pair}
use Rattle.pec_shelf.specs.declared.certified.Certified.{Certified}

-- A message that was submitted here, and its certified recipients.
pub record Kept : Type 0 where
  pub message : Message
  pub certified : List Certified

-- The sender's side.
pub record Sent : Type 0 where
  pub me : ℕ
  pub messages : List Kept
  pub charged : List Charge
  pub marks : List Mark
  pub known : List Known
  pub room : ℕ

-- The recipient's side.
pub record Received : Type 0 where
  pub taken : List Taken
  pub decided : List Fate
  pub acked : List Pair
  pub room : ℕ

-- All items of mailboxes.
pub record Boxed : Type 0 where
  pub items : List Posted
  pub room : ℕ

-- Where the bytes of each entry stand, in order of taking in.
pub record Standing : Type 0 where
  pub places : List Place
  pub room : ℕ

-- whose book has lines of a message: nobody's, where it has no certified recipient
abbrev pub booked_by : Kept → Option Bytes
booked_by kept = if length kept.certified == 0 then None else Some kept.message.sender

abbrev pub messages_of : List Kept → List Message
messages_of rows = map (λ (row : Kept). row.message) rows

abbrev pub certified_of_rows : List Kept → List (List Certified)
certified_of_rows rows = map (λ (row : Kept). row.certified) rows
