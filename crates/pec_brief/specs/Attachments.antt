-- Attachments of a message (RFC 2183, sections 2.2 and 2.3, and RFC 2045, section 5.1, within this project's profile): `is_attachment`
-- tells them by their heads, and `replacement` is what stands for one in the brief form.
use Rattle.std.specs.Prelude.{ℕ, ◌==◌, List, [], ◌∷◌, ◌++◌, map, Bool, false, ◌||◌, if◌then◌else◌, length, take, Option, Some, None, codes}
use Rattle.std.specs.Str.{str_eq_ignore_ascii_case}
use Rattle.hex.specs.Hex.{encode_lower}
use Rattle.sha2.specs.Sha256.{sha256}
use Rattle.pec_types.specs.Bytes.{Bytes, backslash, quote}
use Rattle.pec_types.specs.Options.{◌>>=◌}
use Rattle.pec_types.specs.Text.{is_unprintable}
use Rattle.pec_heads.specs.FactsOfHeads.{first_value, unless_nothing}
use Rattle.pec_heads.specs.Heads.{NamedValue}
use Rattle.pec_heads.specs.WrittenHeads.{Written, field, with_head}
use Rattle.pec_bodies.specs.Parameters.{with_parameter}
use Rattle.pec_bodies.specs.ParametersReading.{parameter_of}

-- ---- which parts are attachments

-- the value begins with `attachment`, in whatever case its letters are
unfoldable pub begins_attachment : Bytes → Bool
begins_attachment value = str_eq_ignore_ascii_case (take (length (codes "attachment")) value) (codes "attachment")

abbrev pub says_attachment : Option Bytes → Bool
says_attachment None = false
says_attachment (Some value) = begins_attachment value

-- The head is an attachment's: its first `Content-Disposition` begins with `attachment`.
unfoldable pub is_attachment : List NamedValue → Bool
is_attachment head = says_attachment (first_value (codes "Content-Disposition") head)

-- ---- their names

-- a parameter of a head's first field of a name; one that is empty counts as absent
unfoldable pub named_in : Bytes → Bytes → List NamedValue → Option Bytes
named_in parameter name head = first_value name head >>= parameter_of parameter >>= unless_nothing

-- what may be there, or else this
abbrev pub or_this : Option Bytes → Bytes → Bytes
or_this None other = other
or_this (Some found) other = found

-- The name that a head gives an attachment: `filename` of its `Content-Disposition`, or else `name` of its `Content-Type`.
unfoldable pub given_name : List NamedValue → Bytes
given_name head =
    or_this (named_in (codes "filename") (codes "Content-Disposition") head)
    (or_this (named_in (codes "name") (codes "Content-Type") head) (codes "allegato"))

abbrev pub underscore : ℕ
underscore = 95

-- a byte as it may stand in a name in quotes: each outside 0x20 to 0x7e, each quote and each backslash becomes `_`
abbrev pub safe_byte : ℕ → ℕ
safe_byte b = if is_unprintable b || (b == quote || b == backslash) then underscore else b

-- the name of what stands for an attachment
unfoldable pub hash_name : List NamedValue → Bytes
hash_name head = map safe_byte (given_name head) ++ codes ".hash"

-- ---- what stands for them

-- the two fields of what stands for an attachment, by its name
abbrev pub type_field : Bytes → Written
type_field name = field (codes "Content-Type") (with_parameter (codes "text/plain") (codes "name") name)

abbrev pub disposition_field : Bytes → Written
disposition_field name = field (codes "Content-Disposition") (with_parameter (codes "attachment") (codes "filename") name)

abbrev pub replacement_fields : Bytes → List Written
replacement_fields name = type_field name ∷ disposition_field name ∷ []

-- What stands for an attachment with this head and this body: a head with its name, and SHA-256 (FIPS 180-4) of the body as it
-- stands, in hexadecimal digits.
unfoldable pub replacement : List NamedValue → Bytes → Bytes
replacement head body = with_head (replacement_fields (hash_name head)) (encode_lower (sha256 body))
