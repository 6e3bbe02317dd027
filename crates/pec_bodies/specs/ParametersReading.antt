-- Parameters and boundaries as the code finds them: `parameter_of` and `boundary_of`. `Parameters` says what that
-- means, and the law `a_value_has_one_parameter_of_a_name` that it is the same.
use Rattle.std.specs.Prelude.{ℕ, ◌+◌, ◌-◌, ◌==◌, nat_le, List, [], ◌∷◌, Bool, false, not, ◌&&◌, if◌then◌else◌, length, take, drop, position, slice_get, slice_index, Option, Some, None, codes}
use Rattle.std.specs.List.{onto_first}
use Rattle.std.specs.Option.{option_map}
use Rattle.std.specs.Str.{str_eq_ignore_ascii_case}
use Rattle.pec_types.specs.Bytes.{Bytes, is_quote, quote}
use Rattle.pec_types.specs.Options.{◌>>=◌}
use Rattle.pec_heads.specs.Bytes.{trimmed}
use Rattle.pec_heads.specs.Heads.{NamedValue, values_of}
use Rattle.pec_bodies.specs.Parameters.{is_equals, is_multipart, is_semicolon}
use Rattle.pec_bodies.specs.declared.TheConstants.{BOUNDARY_LIMIT}

-- whether the next byte stands in quotes, where this one does or doesn't
abbrev pub turned : Bool → ℕ → Bool
turned quoted b = if is_quote b then not quoted else quoted

-- the pieces of a text, cut at each `;` outside quotes
abbrev pub pieces_from : Bool → Bytes → List Bytes
pieces_from quoted [] = [] ∷ []
pieces_from quoted (b ∷ bs) =
    if not quoted && is_semicolon b then [] ∷ pieces_from false bs
    else onto_first b (pieces_from (turned quoted b) bs)

-- The pieces of a value. `ArePieces` is what they are.
abbrev pub pieces_of : Bytes → List Bytes
pieces_of value = pieces_from false value

-- the first `;` outside quotes
abbrev pub semicolon_from : Bool → Bytes → Option ℕ
semicolon_from quoted [] = None
semicolon_from quoted (b ∷ bs) =
    if not quoted && is_semicolon b then Some 0
    else option_map (λ k. k + 1) (semicolon_from (turned quoted b) bs)

-- what stands before a place, or all
abbrev pub before : Bytes → Option ℕ → Bytes
before text None = text
before text (Some k) = take k text

-- a value in double quotes without them
unfoldable pub unquoted : Bytes → Bytes
unquoted value =
    if nat_le 2 (length value) && slice_index value 0 == quote && slice_index value (length value - 1) == quote
    then take (length value - 2) (drop 1 value)
    else value

-- the value of a piece whose `=` stands at a place, where it has this name
abbrev pub named_value : Bytes → Bytes → ℕ → Option Bytes
named_value name piece at =
    if str_eq_ignore_ascii_case (take at piece) name then Some (unquoted (drop (at + 1) piece)) else None

-- the value of a piece `name=value` of this name
unfoldable pub value_named : Bytes → Bytes → Option Bytes
value_named name piece = position is_equals (trimmed piece) >>= named_value name (trimmed piece)

-- the first of two that is there
abbrev pub or_else : Option Bytes → Option Bytes → Option Bytes
or_else (Some value) other = Some value
or_else None other = other

-- the value of the first piece of a name
abbrev pub first_named : Bytes → List Bytes → Option Bytes
first_named name [] = None
first_named name (piece ∷ pieces) = or_else (value_named name piece) (first_named name pieces)

abbrev pub behind_first : List Bytes → List Bytes
behind_first [] = []
behind_first (piece ∷ pieces) = pieces

-- The value of the first parameter of a name.
unfoldable pub parameter_of : Bytes → Bytes → Option Bytes
parameter_of name value = first_named name (behind_first (pieces_of value))

-- a boundary of 1 to 70 bytes
abbrev pub sized : Bytes → Option Bytes
sized boundary = if nat_le 1 (length boundary) && nat_le (length boundary) BOUNDARY_LIMIT then Some boundary else None

-- the boundary that a `Content-Type` gives
abbrev pub boundary_in : Bytes → Option Bytes
boundary_in value = if is_multipart value then parameter_of (codes "boundary") value >>= sized else None

-- The boundary that a head's first `Content-Type` gives.
unfoldable pub boundary_of : List NamedValue → Option Bytes
boundary_of head = slice_get (values_of (codes "Content-Type") head) 0 >>= boundary_in
