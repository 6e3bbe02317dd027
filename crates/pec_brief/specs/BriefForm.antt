-- The brief form of a message (RFC 6109, section 3.1, for what it is for; this project's profile): a message in which something
-- stands in the place of each attachment, and all other bytes stay. `IsBrief`, at the end, says which text that is.
use Rattle.std.specs.Prelude.{◌≡◌, ℕ, ◌<◌, ◌≤◌, List, [], ◌∷◌, ◌++◌, length, take, drop, true, false, if◌then◌else◌, ◌⊎◌}
use Rattle.std.specs.List.{AllByRecursion}
use Rattle.pec_types.specs.Bytes.{Bytes}
use Rattle.pec_heads.specs.Heads.{NamedValue, HasHeadFault, IsHead}
use Rattle.pec_bodies.specs.Multiparts.{HasFaultOf, IsParts, ReadPart, with_parts}
use Rattle.pec_brief.specs.Attachments.{is_attachment, replacement}
use Rattle.pec_brief.specs.declared.TheConstants.{BRIEF_LIMIT}

-- what stands in the place of a part with this head: something else for an attachment, and otherwise the part
abbrev pub stands_for : List NamedValue → Bytes → Bytes → Bytes
stands_for head whole body = if is_attachment head then replacement head body else whole

abbrev pub brief_part : ReadPart → Bytes
brief_part part = stands_for part.head part.whole part.body

-- a message whose body begins at a place and has these parts, with something in the place of each attachment
abbrev pub shortened : Bytes → ℕ → List ReadPart → Bytes
shortened original place parts = take place original ++ with_parts brief_part 0 (drop place original) parts

-- The message has a head and parts, and the text is the message with something in the place of each attachment.
pub record IsShortened (original short : Bytes) : Type 0 where
  pub fields : List NamedValue
  pub place : ℕ
  pub parts : List ReadPart
  pub head_is : IsHead original fields place
  pub parts_are : IsParts fields (drop place original) parts
  pub short_is : short ≡ shortened original place parts

-- The message has a head, and no parts behind it.
pub record HasUnreadBody (original : Bytes) : Type 0 where
  pub fields : List NamedValue
  pub place : ℕ
  pub head_is : IsHead original fields place
  pub fault : HasFaultOf fields (drop place original)

-- With something in the place of each attachment the message would be too long.
pub record GrowsTooLong (original : Bytes) : Type 0 where
  pub short : Bytes
  pub is : IsShortened original short
  pub long : BRIEF_LIMIT < length short

-- Why a message is its own brief form: it has no head, or no parts, or would grow too long.
abbrev pub StaysWhole : Bytes → Type 0
StaysWhole original = HasHeadFault original ⊎ HasUnreadBody original ⊎ GrowsTooLong original

-- The text is the brief form of the message: the message with something in the place of each attachment, or the message itself where
-- it has no head or no parts, or would grow too long.
abbrev pub IsBrief : Bytes → Bytes → Type 0
IsBrief original brief =
    (IsShortened original brief × (length brief ≤ BRIEF_LIMIT)) ⊎ (StaysWhole original × (brief ≡ original))

-- ---- what follows of it

-- no part of the message is an attachment
abbrev pub HasNoAttachment : Bytes → Type 0
HasNoAttachment original =
    (fields : List NamedValue) (place : ℕ) (parts : List ReadPart) → IsHead original fields place
    → IsParts fields (drop place original) parts
    → AllByRecursion (λ (part : ReadPart). is_attachment part.head ≡ false) parts

-- An attachment, and what stands between the one before it, or the beginning, and it.
pub record Reached : Type 0 where
  pub before : Bytes
  pub part : ReadPart

-- Attachments with what stands before each, and what is behind the last, each attachment's bytes given so.
abbrev pub woven : (ReadPart → Bytes) → List Reached → Bytes → Bytes
woven bytes_for [] last = last
woven bytes_for (next ∷ others) last = next.before ++ (bytes_for next.part ++ woven bytes_for others last)

-- The two texts are the same around the attachments of one of them: in the other something stands in the place of each, with the
-- digest of the body that the attachment has there.
pub record DifferInAttachments (original short : Bytes) : Type 0 where
  pub reached : List Reached
  pub last : Bytes
  pub attachments : AllByRecursion (λ (next : Reached). is_attachment next.part.head ≡ true) reached
  pub original_is : original ≡ woven (λ part. part.whole) reached last
  pub short_is : short ≡ woven (λ part. replacement part.head part.body) reached last
