-- Heads read from the first line on, as the code reads them. `Heads` says what that means; these functions are only the
-- way from the code to it. The headline is `read_of`, at the end.
use Rattle.std.specs.Prelude.{ℕ, ◌+◌, ◌==◌, nat_lt, List, [], ◌∷◌, ◌++◌, map, Bool, if◌then◌else◌, length, take, drop, Option, Some, None, Result, Ok, Err, position}
use Rattle.pec_types.specs.Bytes.{Bytes}
use Rattle.pec_heads.specs.Bytes.{begins_blank}
use Rattle.pec_heads.specs.Heads.{NamedValue, cut, is_control, is_colon, is_name}
use Rattle.pec_heads.specs.Lines.{whole_lines, content_of}
use Rattle.pec_heads.specs.declared.TheConstants.{LINE_LIMIT}
use Rattle.pec_heads.specs.declared.faults.HeadFault.{HeadFault}
use Rattle.pec_heads.specs.declared.faults.HeadFault.TheVariants.{NoColon, BadName, BareControl, NoEnd, LineTooLong}
use Rattle.pec_types.specs.Results.{◌>>=◌}

-- what a line does: it ends the head, goes on with the last field, or opens one
pub data Role : Type 0 where
  ends : Role
  more : Bytes → Role
  opens : Bytes → Bytes → Role

-- a field opens where its name is one
abbrev pub named : ℕ → Bytes → Bytes → Result Role HeadFault
named place name rest = if is_name name then Ok (opens name rest) else Err (BadName place)

-- a line that is parted by its first colon
abbrev pub parted : ℕ → Bytes → Option ℕ → Result Role HeadFault
parted place bytes None = Err (NoColon place)
parted place bytes (Some i) = named place (take i bytes) (drop (i + 1) bytes)

-- the role of a line with no control byte that isn't too long
unfoldable pub role_of : ℕ → Bool → Bytes → Result Role HeadFault
role_of place first bytes =
    if length bytes == 0 then Ok ends else (
    if begins_blank bytes then (if first then Err (BadName place) else Ok (more bytes)) else
    parted place bytes (position is_colon bytes))

-- a line whose first control byte is here
abbrev pub controlled : ℕ → Bool → Bytes → Option ℕ → Result Role HeadFault
controlled place first bytes (Some i) = Err (BareControl (place + i))
controlled place first bytes None = role_of place first bytes

-- the role of a line that starts at a place, or its fault; first says whether it is the first line of all
unfoldable pub line_of : ℕ → Bool → Bytes → Result Role HeadFault
line_of place first bytes = if nat_lt LINE_LIMIT (length bytes) then Err (LineTooLong place)
    else controlled place first bytes (position is_control bytes)

-- the fields with bytes at the end of the last one's value
abbrev pub onto_last : List NamedValue → Bytes → List NamedValue
onto_last [] bytes = []
onto_last (f ∷ []) bytes = record { name = f.name; value = f.value ++ bytes } ∷ []
onto_last (f ∷ g ∷ fs) bytes = f ∷ onto_last (g ∷ fs) bytes

-- the fields with what a line says
abbrev pub added : List NamedValue → Role → List NamedValue
added fs ends = fs
added fs (more bytes) = onto_last fs bytes
added fs (opens name rest) = fs ++ record { name = name; value = rest } ∷ []

-- the head behind a line: it ends there, or goes on with the fields that there are then
abbrev pub after_line : List NamedValue → ℕ → Role → (List NamedValue → Result (List NamedValue × ℕ) HeadFault)
    → Result (List NamedValue × ℕ) HeadFault
after_line fs place ends next = Ok (fs, place)
after_line fs place (more bytes) next = next (onto_last fs bytes)
after_line fs place (opens name rest) next = next (fs ++ record { name = name; value = rest } ∷ [])

-- the fields, their values not yet cut at both ends, and the place after the empty line
abbrev pub head_from : List NamedValue → ℕ → List Bytes → Result (List NamedValue × ℕ) HeadFault
head_from fs place [] = Err NoEnd
head_from fs place (line ∷ lines) = line_of place (length fs == 0) (content_of line) >>= λ role.
    after_line fs (place + (length line + 1)) role (λ gs. head_from gs (place + (length line + 1)) lines)

-- the same for a whole text
unfoldable pub head_of : Bytes → Result (List NamedValue × ℕ) HeadFault
head_of text = head_from [] 0 (whole_lines text)

-- the same with the values cut: the fields of the head at the front of a text, and the place behind it
unfoldable pub read_of : Bytes → Result (List NamedValue × ℕ) HeadFault
read_of text = head_of text >>= λ read. Ok (map cut read.0, read.1)
