-- How an address in lower case is gone through from its first byte to its last, `@` included: `LowerAddressesPass`, at
-- the end, says that the bytes that pass are the addresses in lower case of `Address`, and no others. It is a law of
-- the crate.
use Rattle.std.specs.Prelude.{◌↔◌, ℕ, ◌≤◌, Bool, true, false, ◌==◌, [], ◌∷◌, length, Option, Some, None, IsTrue, if◌then◌else◌}
use Rattle.std.specs.Char.{is_ascii_uppercase}
use Rattle.pec_types.specs.Address.{IsLowerAddress}
use Rattle.pec_types.specs.AddressReading.{step_of}
use Rattle.pec_types.specs.Bytes.{Bytes, at_sign}
use Rattle.pec_types.specs.declared.scanning.Stand.{Stand}
use Rattle.pec_types.specs.declared.scanning.Stand.TheVariants.{AtomBegins, InAtom, LabelBegins, BehindLetter, BehindHyphen}

-- behind an `@` a domain begins
abbrev pub behind_at : Stand → Option Stand
behind_at AtomBegins = None
behind_at InAtom = Some LabelBegins
behind_at LabelBegins = None
behind_at (BehindLetter room) = None
behind_at (BehindHyphen room) = None

-- one byte further in an address in lower case
unfoldable pub further : Stand → ℕ → Option Stand
further stand b = if is_ascii_uppercase b then None else (if b == at_sign then behind_at stand else step_of stand b)

-- an address ends behind a letter or digit of its domain
abbrev pub is_end : Stand → Bool
is_end AtomBegins = false
is_end InAtom = false
is_end LabelBegins = false
is_end (BehindLetter room) = true
is_end (BehindHyphen room) = false

abbrev pub passes_behind : Option Stand → (Stand → Bool) → Bool
passes_behind None goes_on = false
passes_behind (Some next) goes_on = goes_on next

-- these bytes lead from a stand to an end
abbrev pub passes : Stand → Bytes → Bool
passes stand [] = is_end stand
passes stand (b ∷ bs) = passes_behind (further stand b) (λ next. passes next bs)

-- the addresses in lower case are what passes from where an atom begins, in at most 254 bytes
abbrev pub LowerAddressesPass : Type 0
LowerAddressesPass = (bytes : Bytes) → IsLowerAddress bytes ↔ (IsTrue (passes AtomBegins bytes) × (length bytes ≤ 254))
