-- Parameters of a field's value, and the boundary of a multipart (RFC 2045, section 5.1; RFC 2046, section 5.1.1;
-- within this project's profile: double quotes have no escapes, and no blank stands beside a `=`). `IsParameter`,
-- `HasNoParameter` and `IsBoundary` say what is found, and `with_parameter` how a parameter is written.
use Rattle.std.specs.Prelude.{◌≡◌, ◌≢◌, ℕ, ◌≤◌, ◌==◌, List, [], ◌∷◌, ◌++◌, Bool, true, false, not, if◌then◌else◌, length, take, codes, ◌⊎◌}
use Rattle.std.specs.List.{AllByRecursion}
use Rattle.std.specs.Str.{str_eq_ignore_ascii_case}
use Rattle.pec_types.specs.Bytes.{Bytes, equals_sign, is_quote, quote, semicolon, space}
use Rattle.pec_heads.specs.Bytes.{NonePass, begins_blank, trimmed}
use Rattle.pec_heads.specs.Heads.{NamedValue, values_of}
use Rattle.pec_bodies.specs.declared.TheConstants.{BOUNDARY_LIMIT}

abbrev pub is_semicolon : ℕ → Bool
is_semicolon b = b == semicolon

abbrev pub is_equals : ℕ → Bool
is_equals b = b == equals_sign

-- ---- pieces

-- quotes that aren't closed in these bytes
abbrev pub leaves_open : Bytes → Bool
leaves_open [] = false
leaves_open (b ∷ bs) = if is_quote b then not (leaves_open bs) else leaves_open bs

-- each `;` in the bytes stands in quotes
abbrev pub AllQuoted : Bytes → Type 0
AllQuoted bytes = (front back : Bytes) → bytes ≡ front ++ semicolon ∷ back → leaves_open front ≡ true

-- The value is a piece, its first `;` outside quotes, and the rest.
pub record IsCut (value piece rest : Bytes) : Type 0 where
  pub parts : value ≡ piece ++ semicolon ∷ rest
  pub quoted : AllQuoted piece
  pub closed : leaves_open piece ≡ false

-- The pieces of a value: it is cut at each `;` outside quotes.
abbrev pub ArePieces : Bytes → List Bytes → Type 0
ArePieces value [] = ⊥
ArePieces value (piece ∷ []) = (value ≡ piece) × AllQuoted piece
ArePieces value (piece ∷ next ∷ more) = (rest : Bytes) × (IsCut value piece rest × ArePieces rest (next ∷ more))

-- ---- a piece

-- a value in double quotes
abbrev pub in_quotes : Bytes → Bytes
in_quotes value = quote ∷ (value ++ quote ∷ [])

-- The written bytes are in double quotes, and the value is what stands between; or they aren't, and are the value.
abbrev pub IsUnquoted : Bytes → Bytes → Type 0
IsUnquoted written value =
    (written ≡ in_quotes value) ⊎ ((value ≡ written) × ((inner : Bytes) → written ≢ in_quotes inner))

-- The piece is `name=value` with blanks round it, the name in whatever case its letters are.
pub record IsNamed (name piece value : Bytes) : Type 0 where
  pub before : Bytes
  pub behind : Bytes
  pub parts : trimmed piece ≡ before ++ equals_sign ∷ behind
  pub first : NonePass is_equals before
  pub same : str_eq_ignore_ascii_case before name ≡ true
  pub value_is : IsUnquoted behind value

-- the piece has another name, or none
abbrev pub HasOtherName : Bytes → Bytes → Type 0
HasOtherName name piece = (value : Bytes) → IsNamed name piece value → ⊥

-- ---- values and heads

-- The first parameter of a name in a value: of the pieces behind the first one, the first that has the name.
pub record IsParameter (name value found : Bytes) : Type 0 where
  pub first : Bytes
  pub before : List Bytes
  pub piece : Bytes
  pub after : List Bytes
  pub pieces : ArePieces value (first ∷ (before ++ piece ∷ after))
  pub others : AllByRecursion (HasOtherName name) before
  pub named : IsNamed name piece found

-- No piece behind the first one has the name.
pub record HasNoParameter (name value : Bytes) : Type 0 where
  pub first : Bytes
  pub others : List Bytes
  pub pieces : ArePieces value (first ∷ others)
  pub none : AllByRecursion (HasOtherName name) others

-- the value begins with `multipart/`, in whatever case its letters are
unfoldable pub is_multipart : Bytes → Bool
is_multipart value = str_eq_ignore_ascii_case (take (length (codes "multipart/")) value) (codes "multipart/")

-- The boundary of a head: its first `Content-Type` is a multipart's, and has this parameter `boundary` of 1 to 70
-- bytes.
pub record IsBoundary (head : List NamedValue) (boundary : Bytes) : Type 0 where
  pub value : Bytes
  pub others : List Bytes
  pub first : values_of (codes "Content-Type") head ≡ value ∷ others
  pub multipart : is_multipart value ≡ true
  pub parameter : IsParameter (codes "boundary") value boundary
  pub some : 1 ≤ length boundary
  pub short : length boundary ≤ BOUNDARY_LIMIT

abbrev pub HasNoBoundary : List NamedValue → Type 0
HasNoBoundary head = (boundary : Bytes) → IsBoundary head boundary → ⊥

-- ---- as they are written

-- A value with one parameter, in quotes: `first; name="value"`.
abbrev pub with_parameter : Bytes → Bytes → Bytes → Bytes
with_parameter first name value = first ++ semicolon ∷ space ∷ (name ++ equals_sign ∷ in_quotes value)

-- the first piece of a written value: no `;` and no quote
pub record IsFirstPiece (bytes : Bytes) : Type 0 where
  pub no_quote : NonePass is_quote bytes
  pub no_semicolon : NonePass is_semicolon bytes

-- the name of a written parameter: no `;`, no quote, no `=`, and no blank in front
pub record IsParameterName (bytes : Bytes) : Type 0 where
  pub no_quote : NonePass is_quote bytes
  pub no_semicolon : NonePass is_semicolon bytes
  pub no_equals : NonePass is_equals bytes
  pub no_blank : begins_blank bytes ≡ false

-- The value of a written parameter may have any bytes but a quote.
abbrev pub HasNoQuote : Bytes → Type 0
HasNoQuote bytes = NonePass is_quote bytes
