-- Lists of addresses read byte by byte, as the code reads them. `Lists` says what that means; these functions are only
-- the way from the code to it. The headline is `list_of`.
use Rattle.std.specs.Prelude.{ℕ, ◌+◌, ◌-◌, ◌==◌, nat_le, List, [], ◌∷◌, ◌++◌, Bool, true, false, not, ◌&&◌, if◌then◌else◌, length, take, drop, position, slice_index, Option, Some, None, Result, Ok, Err}
use Rattle.std.specs.List.{onto_first}
use Rattle.std.specs.Option.{option_map, option_and_then}
use Rattle.pec_types.specs.Bytes.{Bytes, Path, comma, is_quote}
use Rattle.pec_types.specs.AddressReading.{address_of}
use Rattle.pec_types.specs.declared.addresses.AddressFault.{AddressFault}
use Rattle.pec_heads.specs.Bytes.{cut_blanks, trimmed}
use Rattle.pec_types.specs.Results.{◌>>=◌}
use Rattle.pec_heads.specs.Lists.{opening, closing, is_backslash, is_comma, is_phrase_byte, is_ink, has_mark}
use Rattle.pec_heads.specs.declared.faults.ListFault.{ListFault}
use Rattle.pec_heads.specs.declared.faults.ListFault.TheVariants.{Syntax, BadAddress, Empty}
use Rattle.pec_heads.specs.declared.quoting.Quoting.{Quoting}
use Rattle.pec_heads.specs.declared.quoting.Quoting.TheVariants.{Outside, Inside, Escaped}

-- outside quotes
abbrev pub is_outside : Quoting → Bool
is_outside Outside = true
is_outside Inside = false
is_outside Escaped = false

-- one byte further
abbrev pub after : Quoting → ℕ → Quoting
after Outside b = if is_quote b then Inside else Outside
after Inside b = if is_quote b then Outside else (if is_backslash b then Escaped else Inside)
after Escaped b = Inside

-- the first comma outside quotes
abbrev pub comma_from : Quoting → Bytes → Option ℕ
comma_from quoting [] = None
comma_from quoting (b ∷ bs) =
    if is_outside quoting && is_comma b then Some 0 else option_map (λ k. k + 1) (comma_from (after quoting b) bs)

-- what stands before a comma, or all
abbrev pub before_comma : Bytes → Option ℕ → Bytes
before_comma text None = text
before_comma text (Some k) = take k text

-- the first `<` outside quotes, with only a phrase before it
abbrev pub angle_from : Quoting → Bytes → Option ℕ
angle_from quoting [] = None
angle_from quoting (b ∷ bs) =
    if is_outside quoting && b == opening then Some 0 else (
    if is_outside quoting && not (is_quote b) && not (is_phrase_byte b) then None else
    option_map (λ k. k + 1) (angle_from (after quoting b) bs))

-- the entries of a text whose first byte stands so
abbrev pub entries_from : Quoting → Bytes → List Bytes
entries_from quoting [] = [] ∷ []
entries_from quoting (b ∷ bs) = if is_outside quoting && is_comma b then [] ∷ entries_from Outside bs
    else onto_first b (entries_from (after quoting b) bs)

-- the entries from a place on; the place behind the last one is past the text's end by one
abbrev pub entries_at : ℕ → Bytes → List Bytes
entries_at place text = if nat_le place (length text) then entries_from Outside (drop place text) else []

-- what stands before a `>` at the end
unfoldable pub before_close : Bytes → Option Bytes
before_close text = if slice_index text (length text - 1) == closing then Some (take (length text - 1) text) else None

-- what stands between the angles of an entry of the second form
unfoldable pub inside_of : Bytes → Option Bytes
inside_of entry = option_and_then (λ at. before_close (cut_blanks (drop (at + 1) entry))) (angle_from Outside entry)

-- the address of an entry of the first form, or its fault at a place
abbrev pub bare_of : ℕ → Result Bytes AddressFault → Result Bytes ListFault
bare_of place (Ok address) = Ok address
bare_of place (Err fault) = Err (BadAddress place fault)

-- the address between angles, or a wrong entry
abbrev pub or_syntax : ℕ → Result Bytes AddressFault → Result Bytes ListFault
or_syntax place (Ok address) = Ok address
or_syntax place (Err fault) = Err (Syntax place)

-- the address of an entry of the second form
abbrev pub angled_of : ℕ → Option Bytes → Result Bytes ListFault
angled_of place None = Err (Syntax place)
angled_of place (Some inside) = or_syntax place (address_of (trimmed inside))

-- the address of an entry at a place, with its first byte that isn't blank so far behind that
unfoldable pub entry_of : ℕ → ℕ → Bytes → Result Bytes ListFault
entry_of place at entry =
    if has_mark entry then angled_of place (inside_of entry) else bare_of (place + at) (address_of (trimmed entry))

-- the addresses with that of an entry, where it isn't blank
abbrev pub with_entry : Path → ℕ → Bytes → Option ℕ → Result Path ListFault
with_entry addresses place entry None = Ok addresses
with_entry addresses place entry (Some at) = entry_of place at entry >>= λ address. Ok (addresses ++ address ∷ [])

-- the addresses with those of the entries from a place on
abbrev pub list_from : Path → ℕ → List Bytes → Result Path ListFault
list_from addresses place [] = Ok addresses
list_from addresses place (entry ∷ entries) = with_entry addresses place entry (position is_ink entry)
    >>= λ more. list_from more (place + (length entry + 1)) entries

-- a list has one address at least
abbrev pub unless_empty : Path → Result Path ListFault
unless_empty addresses = if length addresses == 0 then Err Empty else Ok addresses

-- The addresses of a list, or its first fault.
unfoldable pub list_of : Bytes → Result Path ListFault
list_of text = list_from [] 0 (entries_from Outside text) >>= λ addresses. unless_empty addresses

-- a value and the comma that joins it to the next
abbrev pub with_comma : Bytes → Bytes
with_comma value = value ++ comma ∷ []
