-- What a contract sees of a shelf: `Seen`, a provider's half of the ledger, the certified recipients of its messages, each
-- with the provider where it is at home, and where the bytes of each entry stand. `IsFor` says that these homes are those of
-- a trade. This project's profile.
use Rattle.std.specs.Prelude.{◌≡◌, ℕ, List, [], map, Option, Some, None}
use Rattle.std.specs.List.{filter_map}
use Rattle.std.specs.Option.{option_map}
use Rattle.pec_types.specs.declared.messages.Facts.{Facts}
use Rattle.pec_types.specs.declared.messages.Recipient.{Recipient}
use Rattle.pec_types.specs.declared.places.Place.{Place}
use Rattle.pec_ledger.specs.Half.{Half, Message, empty}
use Rattle.pec_ledger.specs.Trade.{Trade}
use Rattle.pec_shelf.specs.declared.certified.Certified.{Certified}

-- A shelf: the number of its provider, the provider's half of the ledger, the certified recipients of each of its
-- messages, how many further rows each of its lists has memory for, the moment of the last clock call, 0 where there was
-- none, how often the moment of an acceptance was looked up, and the place of each entry, in order of taking in.
pub record Seen : Type 0 where
  pub me : ℕ
  pub half : Half
  pub certified : List (List Certified)
  pub room : ℕ
  pub ticked : ℕ
  pub looks : ℕ
  pub places : List Place

-- a recipient that is at home somewhere
abbrev pub certified_at : Recipient → ℕ → Certified
certified_at recipient home = record { address = recipient.address; class = recipient.class; home = home }

-- a recipient, where some provider has it at home
abbrev pub certified_of : Trade → Recipient → Option Certified
certified_of trade recipient = option_map (certified_at recipient) (trade.home recipient.address)

abbrev pub certified_in : Trade → Option Facts → List Certified
certified_in trade None = []
certified_in trade (Some facts) = filter_map (certified_of trade) facts.recipients

-- The certified recipients of a message, in their order: none where it wasn't accepted.
abbrev pub certified_by : Trade → Message → List Certified
certified_by trade message = certified_in trade message.facts

-- The certified recipients that the shelf keeps, and their homes, are those of this trade.
abbrev pub IsFor : Trade → Seen → Type 0
IsFor trade shelf = shelf.certified ≡ map (certified_by trade) shelf.half.messages

-- The shelf of a provider before its first entry.
abbrev pub IsNew : ℕ → Seen → Type 0
IsNew me shelf = (shelf.me ≡ me) × (shelf.half ≡ empty) × (shelf.certified ≡ []) × (shelf.ticked ≡ 0) × (shelf.places ≡ [])

-- What is seen of the shelf is as it was: only room was made, and acceptances were looked up.
abbrev pub HoldsAs : Seen → Seen → Type 0
HoldsAs old new =
    (new.me ≡ old.me) × (new.half ≡ old.half) × (new.certified ≡ old.certified) × (new.ticked ≡ old.ticked)
    × (new.places ≡ old.places)
