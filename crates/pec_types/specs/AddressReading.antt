-- How a reader goes through an address, byte by byte. That this finds the addresses and the faults of the grammar in
-- `Address`, and no others, is a law of the crate.
use Rattle.std.specs.Prelude.{ℕ, ◌+◌, ◌-◌, Bool, true, false, ◌==◌, nat_lt, List, [], ◌∷◌, length, take, drop, position, Option, Some, None, if◌then◌else◌, Result, Ok, Err}
use Rattle.std.specs.Char.{is_ascii_alphanumeric}
use Rattle.pec_types.specs.Address.{is_atom_byte, lowered}
use Rattle.pec_types.specs.declared.addresses.AddressFault.{AddressFault}
use Rattle.pec_types.specs.declared.addresses.AddressFault.TheVariants.{Empty, TooLong, NoAt, BadLocal, BadDomain}
use Rattle.pec_types.specs.declared.scanning.Stand.{Stand}
use Rattle.pec_types.specs.declared.scanning.Stand.TheVariants.{AtomBegins, InAtom, LabelBegins, BehindLetter, BehindHyphen}

-- one byte further in a label that has room for so many more; what a dot leads to differs
unfoldable pub in_label : ℕ → ℕ → Option Stand → Option Stand
in_label room b dot =
    if is_ascii_alphanumeric b then (if nat_lt 0 room then Some (BehindLetter (room - 1)) else None)
    else (if b == 45 then (if nat_lt 1 room then Some (BehindHyphen (room - 1)) else None) else (if b == 46 then dot else None))

unfoldable pub step_of : Stand → ℕ → Option Stand
step_of AtomBegins b = if is_atom_byte b then Some InAtom else None
step_of InAtom b = if is_atom_byte b then Some InAtom else (if b == 46 then Some AtomBegins else None)
step_of LabelBegins b = if is_ascii_alphanumeric b then Some (BehindLetter 62) else None
step_of (BehindLetter room) b = in_label room b (Some LabelBegins)
step_of (BehindHyphen room) b = in_label room b None

abbrev pub may_end : Stand → Bool
may_end AtomBegins = false
may_end InAtom = true
may_end LabelBegins = false
may_end (BehindLetter room) = true
may_end (BehindHyphen room) = false

-- a part stops here where no step goes on
abbrev pub stop_unless : Option Stand → ℕ → (Stand → Option ℕ) → Option ℕ
stop_unless None at goes_on = Some at
stop_unless (Some next) at goes_on = goes_on next

-- where a part stops being right, from a place in it on
abbrev pub stop_at : Stand → ℕ → List ℕ → Option ℕ
stop_at stand at [] = if may_end stand then None else Some at
stop_at stand at (b ∷ bs) = stop_unless (step_of stand b) at (λ next. stop_at next (at + 1) bs)

abbrev pub is_at_sign : ℕ → Bool
is_at_sign b = b == 64

abbrev pub behind_sign : List ℕ → Option ℕ → List ℕ
behind_sign text None = []
behind_sign text (Some sign) = drop (sign + 1) text

-- what stands behind the first `@`
unfoldable pub domain_of : List ℕ → List ℕ
domain_of address = behind_sign address (position is_at_sign address)

-- what is left to ask of a domain that begins at this place
abbrev pub domain_read : List ℕ → ℕ → Option ℕ → Result (List ℕ) AddressFault
domain_read text begin None = Ok (lowered text)
domain_read text begin (Some at) = Err (BadDomain (begin + at))

abbrev pub local_read : List ℕ → ℕ → Option ℕ → Result (List ℕ) AddressFault
local_read text sign None = domain_read text (sign + 1) (stop_at LabelBegins 0 (drop (sign + 1) text))
local_read text sign (Some at) = Err (BadLocal at)

abbrev pub parted_read : List ℕ → Option ℕ → Result (List ℕ) AddressFault
parted_read text None = Err NoAt
parted_read text (Some sign) = local_read text sign (stop_at AtomBegins 0 (take sign text))

-- the answer on a text
unfoldable pub address_of : List ℕ → Result (List ℕ) AddressFault
address_of text = if length text == 0 then Err Empty else (if nat_lt 254 (length text) then Err TooLong else parted_read text (position is_at_sign text))
