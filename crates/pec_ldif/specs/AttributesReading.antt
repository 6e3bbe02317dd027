-- What a line says, as the code reads it. `Attributes` says what that means.
use Rattle.std.specs.Prelude.{◌+◌, ℕ, ◌==◌, [], ◌∷◌, take, drop, option_map, Option, Some, None, if◌then◌else◌, Result, Ok, Err}
use Rattle.std.specs.Result.{result_ok}
use Rattle.std.specs.Str.{is_utf8}
use Rattle.base64.specs.Engines.{standard}
use Rattle.base64.specs.GeneralPurpose.{decode_of}
use Rattle.pec_types.specs.Bytes.{Bytes, colon}
use Rattle.pec_ldif.specs.Attributes.{Attribute, is_name, is_plain, is_space}
use Rattle.pec_ldif.specs.Lines.{Line, begins_with}
use Rattle.pec_ldif.specs.declared.faults.LdifFault.{LdifFault}
use Rattle.pec_ldif.specs.declared.faults.LdifFault.TheVariants.{Syntax, BadBase64}

-- the place of the first colon
abbrev pub colon_at : Bytes → Option ℕ
colon_at [] = None
colon_at (b ∷ bs) = if b == colon then Some 0 else option_map (λ at. at + 1) (colon_at bs)

-- what is left behind spaces
abbrev pub skip_spaces : Bytes → Bytes
skip_spaces [] = []
skip_spaces (b ∷ bs) = if is_space b then skip_spaces bs else b ∷ bs

-- what is there, or else this fault
abbrev pub or_fault : {A : Type 0} → LdifFault → Option A → Result A LdifFault
or_fault fault None = Err fault
or_fault fault (Some x) = Ok x

-- these bytes, where they are UTF-8
abbrev pub only_utf8 : Option Bytes → Option Bytes
only_utf8 None = None
only_utf8 (Some bytes) = if is_utf8 bytes then Some bytes else None

-- the UTF-8 that base64 stands for
unfoldable pub decoded : Bytes → Option Bytes
decoded code = only_utf8 (result_ok (decode_of standard code))

-- a plain value
unfoldable pub plain_of : ℕ → Bytes → Result Bytes LdifFault
plain_of place value = if is_plain value then Ok value else Err (Syntax place)

-- the value that stands behind the colon of a name
unfoldable pub value_of : ℕ → Bytes → Result Bytes LdifFault
value_of place rest =
    if begins_with colon rest then or_fault (BadBase64 place) (decoded (skip_spaces (drop 1 rest)))
    else plain_of place (skip_spaces rest)

-- an attribute of this name
abbrev pub with_name : Bytes → Result Bytes LdifFault → Result Attribute LdifFault
with_name name (Ok value) = Ok (record { name = name; value = value })
with_name name (Err fault) = Err fault

-- an attribute whose name ends at a colon
abbrev pub named_at : Line → Option ℕ → Result Attribute LdifFault
named_at line None = Err (Syntax line.place)
named_at line (Some at) =
    if is_name (take at line.bytes) then with_name (take at line.bytes) (value_of line.place (drop (at + 1) line.bytes))
    else Err (Syntax line.place)

-- The attribute that a line says, or why it says none.
unfoldable pub attribute_of : Line → Result Attribute LdifFault
attribute_of line = named_at line (colon_at line.bytes)
