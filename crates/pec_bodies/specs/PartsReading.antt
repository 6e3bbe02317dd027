-- Bodies read line by line, as the code reads them. `Multiparts` says what that means; these functions are only the way
-- from the code to it.
use Rattle.std.specs.Prelude.{ℕ, ◌+◌, ◌-◌, List, [], ◌∷◌, ◌++◌, length, take, drop, Option, Some, None, Result, Ok, Err}
use Rattle.pec_types.specs.Bytes.{Bytes}
use Rattle.pec_types.specs.Results.{◌>>=◌}
use Rattle.pec_heads.specs.Heads.{NamedValue}
use Rattle.pec_heads.specs.HeadReading.{read_of}
use Rattle.pec_heads.specs.Lines.{whole_lines, content_of, last_piece}
use Rattle.pec_heads.specs.declared.faults.HeadFault.{HeadFault}
use Rattle.pec_bodies.specs.Marks.{mark_of}
use Rattle.pec_bodies.specs.Multiparts.{Span, ReadPart}
use Rattle.pec_bodies.specs.ParametersReading.{boundary_of}
use Rattle.pec_bodies.specs.declared.faults.BodyFault.{BodyFault}
use Rattle.pec_bodies.specs.declared.faults.BodyFault.TheVariants.{NoBoundary, NoOpening, NoClosing, PartHead}
use Rattle.pec_bodies.specs.declared.marks.Mark.{Mark}
use Rattle.pec_bodies.specs.declared.marks.Mark.TheVariants.{Delimiter, Closing, Text}

-- the first, the second or the third, as the line is a delimiter, a closing one, or neither
abbrev pub by_mark : {X : Type 0} → Mark → X → X → X → X
by_mark Delimiter delimiter closing text = delimiter
by_mark Closing delimiter closing text = closing
by_mark Text delimiter closing text = text

-- the place behind the first delimiter, and the lines there
abbrev pub opening_from : Bytes → ℕ → List Bytes → Option (ℕ × List Bytes)
opening_from boundary at [] = None
opening_from boundary at (line ∷ lines) =
    by_mark (mark_of boundary (content_of line)) (Some (at + (length line + 1), lines))
    (opening_from boundary (at + (length line + 1)) lines)
    (opening_from boundary (at + (length line + 1)) lines)

-- Bytes of a body, and the place of the first of them.
pub record PlacedBytes : Type 0 where
  pub start : ℕ
  pub bytes : Bytes

-- the bytes of a body from a place up to another
abbrev pub between : Bytes → ℕ → ℕ → PlacedBytes
between body start stop = record { start = start; bytes = take (stop - start) (drop start body) }

-- the bytes at a place of a body
abbrev pub placed_at : Bytes → Span → PlacedBytes
placed_at body place = between body place.start place.stop

-- What is cut: a body, its boundary, and its last piece.
pub record Cutting : Type 0 where
  pub body : Bytes
  pub boundary : Bytes
  pub last : Bytes

-- Where reading stands: the part that the next line may belong to begins at start and has come so far as stop, its last
-- line end not counted; the line itself begins at `at`.
pub record Progress : Type 0 where
  pub start : ℕ
  pub stop : ℕ
  pub at : ℕ

-- where a part begins
abbrev pub begun_at : ℕ → Progress
begun_at place = record { start = place; stop = place; at = place }

-- where reading stands behind a line of a part
abbrev pub text_read : Progress → Bytes → Progress
text_read s line = record {
  start = s.start;
  stop = s.at + length (content_of line);
  at = s.at + (length line + 1);
}

-- the part as far as it has come
abbrev pub part_so_far : Cutting → Progress → PlacedBytes
part_so_far c s = between c.body s.start s.stop

-- the parts, from a line on
abbrev pub wholes_from : Cutting → List PlacedBytes → Progress → List Bytes → Result (List PlacedBytes) BodyFault
wholes_from c wholes s [] =
    by_mark (mark_of c.boundary c.last) (Err NoClosing) (Ok (wholes ++ part_so_far c s ∷ [])) (Err NoClosing)
wholes_from c wholes s (line ∷ lines) =
    by_mark (mark_of c.boundary (content_of line))
    (wholes_from c (wholes ++ part_so_far c s ∷ []) (begun_at (s.at + (length line + 1))) lines)
    (Ok (wholes ++ part_so_far c s ∷ []))
    (wholes_from c wholes (text_read s line) lines)

-- the parts behind the first delimiter
abbrev pub behind_opening : Bytes → Bytes → Option (ℕ × List Bytes) → Result (List PlacedBytes) BodyFault
behind_opening boundary body None = Err NoOpening
behind_opening boundary body (Some opening) =
    wholes_from (record { body = body; boundary = boundary; last = last_piece body }) [] (begun_at opening.0) opening.1

-- the parts of a body
unfoldable pub cut_of : Bytes → Bytes → Result (List PlacedBytes) BodyFault
cut_of boundary body = behind_opening boundary body (opening_from boundary 0 (whole_lines body))

-- the part with this number, its head read
abbrev pub read_part : ℕ → PlacedBytes → Result (List NamedValue × ℕ) HeadFault → Result ReadPart BodyFault
read_part i whole (Ok read) = Ok (record {
  start = whole.start;
  whole = whole.bytes;
  head = read.0;
  body = drop read.1 whole.bytes;
})
read_part i whole (Err fault) = Err (PartHead i fault)

-- the parts with their heads, behind those that were read
abbrev pub parts_from : List ReadPart → List PlacedBytes → Result (List ReadPart) BodyFault
parts_from parts [] = Ok parts
parts_from parts (whole ∷ wholes) =
    read_part (length parts) whole (read_of whole.bytes) >>= λ part. parts_from (parts ++ part ∷ []) wholes

-- the parts by a boundary that may be there
abbrev pub parts_behind : Bytes → Option (Bytes) → Result (List ReadPart) BodyFault
parts_behind body None = Err NoBoundary
parts_behind body (Some boundary) = cut_of boundary body >>= λ wholes. parts_from [] wholes

-- the parts of a body with this head
unfoldable pub parts_of : List NamedValue → Bytes → Result (List ReadPart) BodyFault
parts_of head body = parts_behind body (boundary_of head)
