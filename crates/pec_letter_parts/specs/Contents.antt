-- The body of a letter of certified mail: a text for people, the message that the letter carries, and the certification text (RFC
-- 6109, section 4.4, for what they are for; heads, names and phrases are this project's profile). The headline is `parts_of`.
use Rattle.std.specs.Prelude.{List, [], ◌∷◌, ◌++◌, Bool, true, false, Option, None, Some, codes}
use Rattle.pec_types.specs.Bytes.{Bytes, carriage_return, line_feed}
use Rattle.pec_heads.specs.WrittenHeads.{Written, field, with_head}
use Rattle.pec_letter_parts.specs.declared.contents.PartKind.{PartKind}
use Rattle.pec_letter_parts.specs.declared.contents.PartKind.TheVariants.{Text, Message, Certificate}

-- What stands in the parts of a letter: the text for people, and what else it has.
pub record Contents : Type 0 where
  pub text : Bytes
  pub message : Option Bytes
  pub certificate : Option Bytes

-- the name of the part with the message, and of that with the certification text
abbrev pub message_name : Bytes
message_name = codes "postacert.eml"

abbrev pub certificate_name : Bytes
certificate_name = codes "daticert.xml"

-- the two fields of a part that has a name
abbrev pub named_fields : Bytes → Bytes → List Written
named_fields type name =
    field (codes "Content-Type") (type ++ (codes "; name=\"" ++ (name ++ codes "\"")))
    ∷ field (codes "Content-Disposition") (codes "attachment; filename=\"" ++ (name ++ codes "\""))
    ∷ []

-- the head of a part
abbrev pub part_fields : PartKind → List Written
part_fields Text = field (codes "Content-Type") (codes "text/plain; charset=us-ascii") ∷ []
part_fields Message = named_fields (codes "message/rfc822") message_name
part_fields Certificate = named_fields (codes "application/xml") certificate_name

-- a part with its head
abbrev pub part_text : PartKind → Bytes → Bytes
part_text kind body = with_head (part_fields kind) body

abbrev pub optional_part : PartKind → Option Bytes → List Bytes
optional_part kind None = []
optional_part kind (Some body) = part_text kind body ∷ []

-- lines joined by CRLF, for the text of a letter
abbrev pub lines_text : List Bytes → Bytes
lines_text [] = []
lines_text (last ∷ []) = last
lines_text (line ∷ next ∷ lines) = line ++ carriage_return ∷ line_feed ∷ lines_text (next ∷ lines)

-- what stands behind a line of these: nothing behind the last
abbrev pub behind_line : Bool → Bytes
behind_line true = []
behind_line false = carriage_return ∷ line_feed ∷ []

-- The parts of a letter, in their order.
unfoldable pub parts_of : Contents → List Bytes
parts_of c = part_text Text c.text ∷ (optional_part Message c.message ++ optional_part Certificate c.certificate)

-- ---- the same in pieces of whole lines

abbrev pub optional_pieces : PartKind → Option Bytes → List Bytes
optional_pieces kind None = []
optional_pieces kind (Some body) = part_text kind [] ∷ body ∷ []

-- heads and bodies of the parts, in their order
abbrev pub pieces_of : Contents → List Bytes
pieces_of c = part_text Text [] ∷ c.text ∷ (optional_pieces Message c.message ++ optional_pieces Certificate c.certificate)
