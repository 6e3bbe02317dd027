-- Bodies composed of parts (RFC 2046, section 5.1.1), with the least boundary that no line of a part begins with (this
-- project's profile). `IsComposed` says which body that is, `composed_number` and `composed_body` are the same as
-- functions, and `IsReadAgain` says what reading it gives.
use Rattle.std.specs.Prelude.{◌≡◌, ℕ, zero, suc, ◌+◌, ◌^◌, ◌<◌, List, [], ◌∷◌, ◌++◌, Bool, true, false, if◌then◌else◌, length, take, map, Option, Some, None, codes}
use Rattle.std.specs.Fmt.{decimal}
use Rattle.std.specs.List.{AllByRecursion, flat_map, list_any, sum_by}
use Rattle.std.specs.Option.{option_map}
use Rattle.std.specs.Str.{bytes_eq}
use Rattle.pec_types.specs.Bytes.{Bytes, hyphen}
use Rattle.pec_heads.specs.Heads.{NamedValue}
use Rattle.pec_heads.specs.Lines.{ended_line, whole_lines, last_piece}
use Rattle.pec_bodies.specs.Marks.{dashed}
use Rattle.pec_bodies.specs.Multiparts.{HasOwnHead, IsParts, ReadPart}
use Rattle.pec_bodies.specs.Parameters.{IsBoundary, with_parameter}

-- the boundary with this number
unfoldable pub boundary_number : ℕ → Bytes
boundary_number n = codes "=_pec_" ++ decimal n

-- the lines of a text, and its last piece
abbrev pub all_lines : Bytes → List Bytes
all_lines text = whole_lines text ++ last_piece text ∷ []

-- the line begins with this front
abbrev pub begins : Bytes → Bytes → Bool
begins front line = bytes_eq front (take (length front) line)

-- a line of some part begins with two dashes and the boundary
abbrev pub boundary_taken : Bytes → List Bytes → Bool
boundary_taken boundary parts = list_any (λ part. list_any (begins (dashed boundary)) (all_lines part)) parts

-- The number below 2^64 is the least whose boundary no part takes.
pub record IsLeastFree (parts : List Bytes) (n : ℕ) : Type 0 where
  pub fits : n < 2 ^ 64
  pub free : boundary_taken (boundary_number n) parts ≡ false
  pub least : (k : ℕ) → k < n → boundary_taken (boundary_number k) parts ≡ true

-- a part behind a delimiter and before a line end
abbrev pub delimited : Bytes → Bytes → Bytes
delimited boundary part = ended_line (dashed boundary) ++ ended_line part

-- The value of the `Content-Type` of a body that is composed with this number.
abbrev pub composed_type : ℕ → Bytes
composed_type n = with_parameter (codes "multipart/mixed") (codes "boundary") (boundary_number n)

-- each part behind a delimiter and before a line end, and a closing delimiter
abbrev pub joined_parts : Bytes → List Bytes → Bytes
joined_parts boundary parts =
    flat_map (delimited boundary) parts ++ ended_line (dashed boundary ++ hyphen ∷ hyphen ∷ [])

-- The parts are composed to this body, with the boundary of this number, which is the least that no line begins with.
pub record IsComposed (parts : List Bytes) (n : ℕ) (body : Bytes) : Type 0 where
  pub number : IsLeastFree parts n
  pub body_is : body ≡ joined_parts (boundary_number n) parts

-- ---- the same as functions

-- the first of so many numbers, from one on, whose boundary no part takes
unfoldable pub free_from : ℕ → ℕ → List Bytes → Option ℕ
free_from zero n parts = None
free_from (suc more) n parts = if boundary_taken (boundary_number n) parts then free_from more (n + 1) parts else Some n

-- The number of the boundary of the body that the parts are composed to: `IsLeastFree` as a function.
unfoldable pub composed_number : List Bytes → Option ℕ
composed_number parts = free_from (2 ^ 64) 0 parts

-- The body that the parts are composed to: `IsComposed` as a function.
unfoldable pub composed_body : List Bytes → Option Bytes
composed_body parts = option_map (λ n. joined_parts (boundary_number n) parts) (composed_number parts)

-- how many bytes the parts have together
abbrev pub bytes_of : List Bytes → ℕ
bytes_of parts = sum_by (λ part. length part) parts

-- ---- reading it again

-- each part begins with its head
abbrev pub AllHaveHeads : List ReadPart → Type 0
AllHaveHeads parts = AllByRecursion HasOwnHead parts

-- the bytes of each part
abbrev pub wholes_of : List ReadPart → List Bytes
wholes_of parts = map (λ part. part.whole) parts

-- the parts, each with the place where it stands in the body that is composed of them, from a place of that on
abbrev pub placed_from : Bytes → ℕ → List ReadPart → List ReadPart
placed_from boundary place [] = []
placed_from boundary place (part ∷ parts) =
    record {
      start = place + length (ended_line (dashed boundary));
      whole = part.whole;
      head = part.head;
      body = part.body;
    }
    ∷ placed_from boundary (place + length (delimited boundary part.whole)) parts

-- What parts are composed to is, by a head with the boundary, read as these parts, each at its place.
abbrev pub IsReadAgain : List ReadPart → ℕ → Bytes → Type 0
IsReadAgain parts n body =
    (head : List NamedValue) → IsBoundary head (boundary_number n)
    → IsParts head body (placed_from (boundary_number n) 0 parts)
