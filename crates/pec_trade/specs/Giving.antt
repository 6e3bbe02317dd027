-- Which receipts a provider may give, as a test: `can_be_given`. `CanBeGiven` of pec_receipts says what that means, and
-- a law that the two agree. This project's profile.
use Rattle.std.specs.Prelude.{◌==◌, nat_le, nat_lt, List, Bool, true, false, ◌&&◌, ◌||◌, length, Option, None, Some, is_some}
use Rattle.pec_types.specs.Bytes.{Bytes}
use Rattle.pec_types.specs.declared.messages.Recipient.{Recipient}
use Rattle.pec_types.specs.declared.receipts.Kind.{Kind}
use Rattle.pec_types.specs.declared.receipts.Kind.TheVariants as kinds
use Rattle.pec_heads.specs.declared.TheConstants.{TEXT_LIMIT}
use Rattle.pec_directory.specs.Directory.{Provider, home_of, is_certified, is_number}
use Rattle.pec_receipts.specs.Kinds.{row_of}
use Rattle.pec_receipts.specs.Receipts.{place_among}
use Rattle.pec_receipts.specs.declared.receipts.Receipt.{Receipt}

-- a kind of receipts that name a recipient
abbrev pub names_one : Kind → Bool
names_one kinds.Acceptance = false
names_one (kinds.NonAcceptance cause) = false
names_one kinds.Charge = false
names_one kinds.Delivery = true
names_one (kinds.DeliveryError refusal) = true
names_one kinds.VirusFound = true
names_one kinds.Warning = true
names_one kinds.Notice = true
names_one kinds.LateNotice = true
names_one kinds.Ack = true

-- a certified recipient of the message is named exactly where one is to be
abbrev pub is_named_so : List Provider → List Recipient → Bool → Option Bytes → Bool
is_named_so providers all true None = false
is_named_so providers all true (Some address) = is_certified providers address && is_some (place_among all address)
is_named_so providers all false None = true
is_named_so providers all false (Some address) = false

-- a subject that isn't too long
abbrev pub is_short : Option Bytes → Bool
is_short None = true
is_short (Some subject) = nat_le (length subject) TEXT_LIMIT

-- The provider that composes it is there, and is the message's where no other may give the kind; the message's is the
-- sender's home; and the message has a recipient, a subject that isn't too long, and the recipient that is named.
unfoldable pub can_be_given : List Provider → Receipt → Bool
can_be_given providers r =
    ((nat_lt r.by (length providers) && ((row_of r.kind).elsewhere || r.by == r.id.provider))
    && is_number r.id.provider (home_of providers r.facts.sender))
    && ((nat_lt 0 (length r.facts.recipients) && is_short r.facts.subject)
    && is_named_so providers r.facts.recipients (names_one r.kind) r.recipient)
