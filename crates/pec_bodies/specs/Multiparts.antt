-- The parts of a multipart body (RFC 2046, section 5.1.1, within this project's profile): which lines part it, where
-- its parts stand, and why a body has none.
use Rattle.std.specs.Prelude.{◌≡◌, ◌≢◌, ℕ, ◌+◌, ◌-◌, ◌<◌, ◌≤◌, List, [], ◌∷◌, ◌++◌, length, take, drop, ◌⊎◌}
use Rattle.std.specs.List.{flat_map}
use Rattle.pec_types.specs.Bytes.{Bytes}
use Rattle.pec_heads.specs.Heads.{NamedValue, IsHead, IsFaulty}
use Rattle.pec_heads.specs.Lines.{whole_lines, last_piece, content_of, size}
use Rattle.pec_heads.specs.declared.faults.HeadFault.{HeadFault}
use Rattle.pec_bodies.specs.Marks.{mark_of}
use Rattle.pec_bodies.specs.Parameters.{HasNoBoundary, IsBoundary}
use Rattle.pec_bodies.specs.declared.faults.BodyFault.{BodyFault}
use Rattle.pec_bodies.specs.declared.faults.BodyFault.TheVariants.{NoBoundary, NoOpening, NoClosing, PartHead, NoMemory}
use Rattle.pec_bodies.specs.declared.marks.Mark.{Mark}
use Rattle.pec_bodies.specs.declared.marks.Mark.TheVariants.{Delimiter, Closing, Text}

-- ---- lines

-- the line is this to the boundary, its line end not counted
abbrev pub IsMarked : Bytes → Mark → Bytes → Type 0
IsMarked boundary mark line = mark_of boundary (content_of line) ≡ mark

-- none of the lines is a delimiter
abbrev pub HasNoDelimiter : Bytes → List Bytes → Type 0
HasNoDelimiter boundary [] = Unit {0}
HasNoDelimiter boundary (line ∷ lines) =
    (mark_of boundary (content_of line) ≢ Delimiter) × HasNoDelimiter boundary lines

-- neither delimiters nor closing ones
abbrev pub AllText : Bytes → List Bytes → Type 0
AllText boundary [] = Unit {0}
AllText boundary (line ∷ lines) = IsMarked boundary Text line × AllText boundary lines

-- A delimiter, and the lines of the part behind it.
pub record Section : Type 0 where
  pub delimiter : Bytes
  pub lines : List Bytes

-- the lines of a section
abbrev pub section_lines : Section → List Bytes
section_lines s = s.delimiter ∷ s.lines

-- each begins with a delimiter and has no other in it
abbrev pub AllSections : Bytes → List Section → Type 0
AllSections boundary [] = Unit {0}
AllSections boundary (s ∷ ss) =
    IsMarked boundary Delimiter s.delimiter × AllText boundary s.lines × AllSections boundary ss

-- a closing delimiter stands first in these lines, or is the last piece where there are none
abbrev pub Closes : Bytes → List Bytes → Bytes → Type 0
Closes boundary [] last = mark_of boundary last ≡ Closing
Closes boundary (line ∷ lines) last = IsMarked boundary Closing line

-- ---- places

-- The places of a part in its body: its first byte and the one behind its last.
pub record Span : Type 0 where
  pub start : ℕ
  pub stop : ℕ

-- the bytes of a body at a place
abbrev pub bytes_in : Bytes → Span → Bytes
bytes_in body place = take (place.stop - place.start) (drop place.start body)

-- how many bytes the lines take, without the line end of the last one
abbrev pub inner_size : List Bytes → ℕ
inner_size [] = 0
inner_size (line ∷ []) = length (content_of line)
inner_size (line ∷ next ∷ lines) = length line + 1 + inner_size (next ∷ lines)

-- a part begins behind its delimiter, and ends before the last line end behind that
abbrev pub part_span : ℕ → Section → Span
part_span place s = record {
  start = place + (length s.delimiter + 1);
  stop = place + (length s.delimiter + 1) + inner_size s.lines;
}

-- the places of the parts of sections that begin at a place
abbrev pub spans_of : ℕ → List Section → List Span
spans_of place [] = []
spans_of place (s ∷ ss) = part_span place s ∷ spans_of (place + size (section_lines s)) ss

-- The body has parts at these places: behind lines that are no delimiters stand sections, and then a closing delimiter.
-- What is behind that is passed over.
pub record IsMultipart (boundary body : Bytes) (places : List Span) : Type 0 where
  pub before : List Bytes
  pub first : Section
  pub others : List Section
  pub rest : List Bytes
  pub lines : whole_lines body ≡ before ++ (flat_map section_lines (first ∷ others) ++ rest)
  pub passed : HasNoDelimiter boundary before
  pub each : AllSections boundary (first ∷ others)
  pub closes : Closes boundary rest (last_piece body)
  pub places_are : places ≡ spans_of (size before) (first ∷ others)

-- Sections go on to the end of the body.
pub record HasNoClosing (boundary body : Bytes) : Type 0 where
  pub before : List Bytes
  pub first : Section
  pub others : List Section
  pub lines : whole_lines body ≡ before ++ flat_map section_lines (first ∷ others)
  pub passed : HasNoDelimiter boundary before
  pub each : AllSections boundary (first ∷ others)
  pub open_ : mark_of boundary (last_piece body) ≢ Closing

-- ---- parts with their heads

-- What is seen of a part: the place of its first byte in the body, its bytes, the fields of its head, and the bytes
-- behind that.
pub record ReadPart : Type 0 where
  pub start : ℕ
  pub whole : Bytes
  pub head : List NamedValue
  pub body : Bytes

-- The part's bytes begin with its head, and its body is what stands behind that.
pub record HasOwnHead (part : ReadPart) : Type 0 where
  pub place : ℕ
  pub head_is : IsHead part.whole part.head place
  pub body_is : part.body ≡ drop place part.whole

-- The part stands at this place of the body.
pub record IsPart (body : Bytes) (place : Span) (part : ReadPart) : Type 0 where
  pub start_is : part.start ≡ place.start
  pub whole_is : part.whole ≡ bytes_in body place
  pub headed : HasOwnHead part

-- the parts at these places of the body
abbrev pub AreParts : Bytes → List Span → List ReadPart → Type 0
AreParts body [] [] = Unit {0}
AreParts body [] (part ∷ parts) = ⊥
AreParts body (place ∷ places) [] = ⊥
AreParts body (place ∷ places) (part ∷ parts) = IsPart body place part × AreParts body places parts

-- The body has these parts by the boundary of this head.
pub record IsParts (head : List NamedValue) (body : Bytes) (parts : List ReadPart) : Type 0 where
  pub boundary : Bytes
  pub places : List Span
  pub boundary_is : IsBoundary head boundary
  pub multipart : IsMultipart boundary body places
  pub parts_are : AreParts body places parts

-- where a part stands in its body
abbrev pub own_span : ReadPart → Span
own_span part = record { start = part.start; stop = part.start + length part.whole }

-- The parts stand one behind the other in the body, past a place: each begins further on than the one before it ends,
-- its bytes are those at its place, and the last one ends in the body.
abbrev pub StandInOrder : ℕ → Bytes → List ReadPart → Type 0
StandInOrder past body [] = past ≤ length body
StandInOrder past body (part ∷ parts) =
    (past < part.start)
    × ((part.whole ≡ bytes_in body (own_span part)) × StandInOrder (part.start + length part.whole) body parts)

-- The body from a place on, with other bytes in the place of each part. All that stands between them stays.
abbrev pub with_parts : (ReadPart → Bytes) → ℕ → Bytes → List ReadPart → Bytes
with_parts bytes_for past body [] = drop past body
with_parts bytes_for past body (part ∷ parts) =
    take (part.start - past) (drop past body)
    ++ (bytes_for part ++ with_parts bytes_for (part.start + length part.whole) body parts)

-- At these places behind those of some parts stands what begins with no head.
pub record HasBadHead (body : Bytes) (places : List Span) (i : ℕ) (fault : HeadFault) : Type 0 where
  pub front : List Span
  pub place : Span
  pub back : List Span
  pub before : List ReadPart
  pub places_are : places ≡ front ++ place ∷ back
  pub before_are : AreParts body front before
  pub number : i ≡ length front
  pub faulty : IsFaulty (bytes_in body place) fault

-- The body has parts at some places, and at one of these stands what begins with no head.
pub record HasBadPart (boundary body : Bytes) (i : ℕ) (fault : HeadFault) : Type 0 where
  pub places : List Span
  pub multipart : IsMultipart boundary body places
  pub bad : HasBadHead body places i fault

-- Why a body has no parts by a boundary.
abbrev pub HasFault : Bytes → Bytes → BodyFault → Type 0
HasFault boundary body NoBoundary = ⊥
HasFault boundary body NoOpening = HasNoDelimiter boundary (whole_lines body)
HasFault boundary body NoClosing = HasNoClosing boundary body
HasFault boundary body (PartHead i fault) = HasBadPart boundary body i fault
HasFault boundary body NoMemory = ⊥

-- Why a body has no parts by this head.
abbrev pub IsBodyFault : List NamedValue → Bytes → BodyFault → Type 0
IsBodyFault head body fault =
    (HasNoBoundary head × (fault ≡ NoBoundary))
    ⊎ ((boundary : Bytes) × (IsBoundary head boundary × HasFault boundary body fault))

-- the body has some parts by this head
abbrev pub HasParts : List NamedValue → Bytes → Type 0
HasParts head body = (parts : List ReadPart) × IsParts head body parts

-- the body has some fault by this head
abbrev pub HasFaultOf : List NamedValue → Bytes → Type 0
HasFaultOf head body = (fault : BodyFault) × IsBodyFault head body fault
