-- What is always so of the facts of a head: how long their texts are, and which recipients they have. The headlines are
-- `AreBounded` and `AreRecipients`.
use Rattle.std.specs.Prelude.{◌≡◌, ◌<◌, ◌≤◌, List, [], ◌∷◌, ◌++◌, Bool, true, false, not, if◌then◌else◌, length, map}
use Rattle.std.specs.List.{AllByRecursion}
use Rattle.std.specs.Option.{IfSome}
use Rattle.pec_types.specs.Address.{IsLowerAddress}
use Rattle.pec_types.specs.Bytes.{Bytes, Path}
use Rattle.pec_types.specs.Text.{AllPrintable}
use Rattle.pec_types.specs.declared.messages.Class.{Class}
use Rattle.pec_types.specs.declared.messages.Class.TheVariants.{Primary, Copy}
use Rattle.pec_types.specs.declared.messages.Facts.{Facts}
use Rattle.pec_types.specs.declared.messages.Recipient.{Recipient}
use Rattle.pec_heads.specs.Bytes.{begins_blank, ends_blank}
use Rattle.pec_heads.specs.FactsOfHeads.{has_address, recipient}
use Rattle.pec_heads.specs.declared.TheConstants.{TEXT_LIMIT}

-- A subject, a reference or a reply: printable, with 1 to 900 bytes and no blank at its ends.
pub record IsShortText (text : Bytes) : Type 0 where
  pub printable : AllPrintable text
  pub some : 0 < length text
  pub short : length text ≤ TEXT_LIMIT
  pub begins : begins_blank text ≡ false
  pub ends : ends_blank text ≡ false

-- What is so of the texts and addresses of facts.
pub record AreBounded (facts : Facts) : Type 0 where
  pub sender : IsLowerAddress facts.sender
  pub recipients : AllByRecursion (λ r. IsLowerAddress r.address) facts.recipients
  pub subject : IfSome facts.subject IsShortText
  pub reference : IfSome facts.reference IsShortText
  pub reply : IsShortText facts.reply

-- ---- recipients

-- the class of those in `To`
abbrev pub is_primary_class : Class → Bool
is_primary_class Primary = true
is_primary_class Copy = false

-- a recipient that stands in `To`
abbrev pub is_primary : Recipient → Bool
is_primary r = is_primary_class r.class

-- a recipient that stands in `Cc` alone
abbrev pub is_copy : Recipient → Bool
is_copy r = not (is_primary_class r.class)

-- the addresses of all recipients, in their order
abbrev pub addresses_of : List Recipient → Path
addresses_of all = map (λ r. r.address) all

-- no address stands twice
abbrev pub AllDifferent : Path → Type 0
AllDifferent [] = Unit {0}
AllDifferent (address ∷ addresses) = (has_address addresses address ≡ false) × AllDifferent addresses

-- the addresses of those recipients that pass the test, in their order
abbrev pub addresses_where : (Recipient → Bool) → List Recipient → Path
addresses_where passes [] = []
addresses_where passes (r ∷ all) =
    if passes r then r.address ∷ addresses_where passes all else addresses_where passes all

-- The recipients are those of `To` and of `Cc`, each once; primary are exactly those of `To`, and they stand first.
pub record AreRecipients (to copies : Path) (all : List Recipient) : Type 0 where
  pub some : 0 < length (addresses_where is_primary all)
  pub different : AllDifferent (addresses_of all)
  pub each : (address : Bytes) → has_address (addresses_of all) address ≡ has_address (to ++ copies) address
  pub primary : (address : Bytes) → has_address (addresses_where is_primary all) address ≡ has_address to address
  pub order : all ≡ map (recipient Primary) (addresses_where is_primary all)
      ++ map (recipient Copy) (addresses_where is_copy all)
