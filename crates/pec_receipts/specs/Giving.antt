-- Whether a provider may give a receipt, as a test: `can_be_given` is true exactly where `CanBeGiven` holds.
use Rattle.std.specs.Prelude.{ℕ, List, Bool, true, false, ◌&&◌, ◌||◌, ◌==◌, nat_lt, nat_le, length, Option, Some, None}
use Rattle.std.specs.Option.{is_none, is_some}
use Rattle.pec_types.specs.Bytes.{Bytes}
use Rattle.pec_types.specs.declared.messages.Recipient.{Recipient}
use Rattle.pec_directory.specs.Directory.{Provider, home_of, is_certified, is_number}
use Rattle.pec_receipts.specs.Kinds.{row_of}
use Rattle.pec_receipts.specs.Receipts.{place_among}
use Rattle.pec_receipts.specs.declared.kinds.About.{About}
use Rattle.pec_receipts.specs.declared.kinds.About.TheVariants as about
use Rattle.pec_receipts.specs.declared.receipts.Receipt.{Receipt}

-- both providers are the directory's, and the message's is the sender's home
unfoldable pub is_from_there : List Provider → Receipt → Bool
is_from_there providers r =
    (nat_lt r.by (length providers) && nat_lt r.id.provider (length providers))
    && is_number r.id.provider (home_of providers r.facts.sender)

-- a subject that is there isn't too long
abbrev pub is_short : Option Bytes → Bool
is_short None = true
is_short (Some subject) = nat_le (length subject) 900

-- a recipient is named exactly where the kind has one; it is one of the message's, and a certified one
abbrev pub is_named : List Provider → List Recipient → About → Option Bytes → Bool
is_named providers recipients about.Message recipient = is_none recipient
is_named providers recipients about.Provider recipient = is_none recipient
is_named providers recipients about.Recipient None = false
is_named providers recipients about.Recipient (Some address) =
    is_certified providers address && is_some (place_among recipients address)

-- A provider may give the receipt.
unfoldable pub can_be_given : List Provider → Receipt → Bool
can_be_given providers r =
    (((is_from_there providers r && nat_lt 0 (length r.facts.recipients)) && is_short r.facts.subject)
    && is_named providers r.facts.recipients (row_of r.kind).about r.recipient)
    && ((row_of r.kind).elsewhere || r.by == r.id.provider)
