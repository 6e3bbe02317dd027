-- Fields of a head by their names, whatever the case of the letters (RFC 9110, section 5.1), and what a request tells by
-- them: `key_of`, `length_of` and `path_of`. The fields `x-key` and `x-path` are this project's.
use Rattle.std.specs.Prelude.{ℕ, ◌==◌, nat_le, Bool, List, [], ◌∷◌, length, codes, Option, None, if◌then◌else◌}
use Rattle.std.specs.List.{slice_get}
use Rattle.std.specs.Str.{str_eq_ignore_ascii_case}
use Rattle.pec_types.specs.Bytes.{Bytes, Path}
use Rattle.pec_types.specs.Options.{◌>>=◌}
use Rattle.pec_http_head.specs.Paths.{addresses_in}
use Rattle.pec_http_head.specs.Requests.{Request}
use Rattle.pec_words.specs.Numbers.{digits_number}

abbrev pub is_named : Bytes → Bytes × Bytes → Bool
is_named name field = str_eq_ignore_ascii_case field.0 name

-- The values of the fields of a name, in their order.
abbrev pub values_of : Bytes → List (Bytes × Bytes) → List Bytes
values_of name [] = []
values_of name (field ∷ fields) = if is_named name field then field.1 ∷ values_of name fields else values_of name fields

-- The value of the one field of a name, where there is exactly one.
abbrev pub only_value : Bytes → List (Bytes × Bytes) → Option Bytes
only_value name fields = if length (values_of name fields) == 1 then slice_get (values_of name fields) 0 else None

-- The account's key: the first `x-key`.
unfoldable pub key_of : Request → Option Bytes
key_of request = slice_get (values_of (codes "x-key") request.fields) 0

-- The length that 1 to 10 digits give, with zeros in front or without.
abbrev pub length_in : Bytes → Option ℕ
length_in text = if nat_le (length text) 10 then digits_number text else None

-- The length that the one `content-length` declares.
abbrev pub declared_in : List (Bytes × Bytes) → Option ℕ
declared_in fields = only_value (codes "content-length") fields >>= length_in

-- The declared length of the body, in bytes: exactly one `content-length` of 1 to 10 digits, and no `transfer-encoding`
-- (RFC 9112, section 6).
unfoldable pub length_of : Request → Option ℕ
length_of request =
    if length (values_of (codes "transfer-encoding") request.fields) == 0 then declared_in request.fields else None

-- The forward path: exactly one `x-path`, of 1 to 1,000 addresses.
unfoldable pub path_of : Request → Option Path
path_of request = only_value (codes "x-path") request.fields >>= addresses_in
