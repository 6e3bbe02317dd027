-- What is named in the ledger beside messages: a pair, which is a message and one of its certified recipients, and how
-- ids and pairs are compared. RFC 6109, section 3; the names are this project's profile.
use Rattle.std.specs.Prelude.{ℕ, ◌==◌, Bool, ◌&&◌}
use Rattle.std.specs.Str.{bytes_eq}
use Rattle.pec_types.specs.Bytes.{Bytes}
use Rattle.pec_types.specs.Message.{Id}

-- A message and one of its recipients.
pub record Pair : Type 0 where
  pub id : Id
  pub recipient : Bytes

-- the message that a provider numbered so
abbrev pub id_of : ℕ → ℕ → Id
id_of provider number = record { provider = provider; number = number }

-- the pair of a message and a recipient
abbrev pub pair_of : Id → Bytes → Pair
pair_of id recipient = record { id = id; recipient = recipient }

-- the two are one message
abbrev pub same_id : Id → Id → Bool
same_id a b = (a.provider == b.provider) && (a.number == b.number)

-- the two are one pair
abbrev pub same_pair : Pair → Pair → Bool
same_pair a b = same_id a.id b.id && bytes_eq a.recipient b.recipient
