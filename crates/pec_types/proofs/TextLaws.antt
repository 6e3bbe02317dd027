-- Printable texts, by the place of the first other byte and byte by byte; an address is one.
use Rattle.std.proofs.Common.{◌≡◌, ℕ, ◌+◌, ◌==◌, Bool, true, false, not, ◌||◌, cond, List, [], ◌∷◌, Some, None, codes, refl, sym, ◌∙◌, subst, arith, eqb-true}
use Rattle.std.specs.Char.{is_ascii_alphanumeric}
use Rattle.std.specs.List.{list_all, list_any, AllByRecursion, position_from}
use Rattle.std.proofs.lemmas.Bool.{false≢true, and_parts, not-true}
use Rattle.std.proofs.lemmas.Bool.Decides.{nat_tests}
use Rattle.std.proofs.lemmas.Iterator.Adapters.{position_from-zero}
use Rattle.pec_types.specs.Address.{Avoids, IsLowerAddress, is_atom_byte}
use Rattle.pec_types.specs.Text.{is_unprintable, AllPrintable}
use Rattle.pec_types.proofs.AddressBytes.{none_in}

-- ---- by the first place, and byte by byte

abbrev Printable : List ℕ → Type 0
Printable bytes = AllByRecursion (λ b. is_unprintable b ≡ false) bytes

all_step : (b from : ℕ) (bytes : List ℕ) (t : Bool) → is_unprintable b ≡ t → cond t (Some from) (position_from is_unprintable (from + 1) bytes) ≡ None
    → (position_from is_unprintable (from + 1) bytes ≡ None → Printable bytes) → Printable (b ∷ bytes)
all_step b from bytes true is found further = let h : ⊥ = cc in absurd h
all_step b from bytes false is found further = (is, further found)

all_from : (bytes : List ℕ) (from : ℕ) → position_from is_unprintable from bytes ≡ None → Printable bytes
all_from [] from e = tt
all_from (b ∷ bytes) from e = all_step b from bytes (is_unprintable b) refl e (all_from bytes (from + 1))

none_from : (bytes : List ℕ) (from : ℕ) → Printable bytes → position_from is_unprintable from bytes ≡ None
none_from [] from all = refl
none_from (b ∷ bytes) from all = rw all.0 (none_from bytes (from + 1) all.1)

pub all_printable : (bytes : List ℕ) → AllPrintable bytes → Printable bytes
all_printable bytes e = all_from bytes 0 (sym (position_from-zero is_unprintable bytes) ∙ e)

pub printable_all : (bytes : List ℕ) → Printable bytes → AllPrintable bytes
printable_all bytes all = position_from-zero is_unprintable bytes ∙ none_from bytes 0 all

-- ---- addresses

letter : (b : ℕ) → is_ascii_alphanumeric b ≡ true → is_unprintable b ≡ false
letter b e = grind (arith, nat_tests)

mark_step : (b m : ℕ) (t : Bool) → (m == b) ≡ t → is_unprintable m ≡ false → (rest : Bool) → (rest ≡ true → is_unprintable b ≡ false) → (t || rest) ≡ true → is_unprintable b ≡ false
mark_step b m true e printable rest later any = subst (λ n. is_unprintable n ≡ false) (eqb-true m b e) printable
mark_step b m false e printable rest later any = later any

marked : (b : ℕ) (marks : List ℕ) → Printable marks → list_any (λ mark. mark == b) marks ≡ true → is_unprintable b ≡ false
marked b [] printable any = absurd (false≢true any)
marked b (m ∷ marks) printable any = mark_step b m (m == b) refl printable.0 (list_any (λ mark. mark == b) marks) (marked b marks printable.1) any

atom_step : (b : ℕ) (t rest : Bool) → is_ascii_alphanumeric b ≡ t → (rest ≡ true → is_unprintable b ≡ false) → (t || rest) ≡ true → is_unprintable b ≡ false
atom_step b true rest e later any = letter b e
atom_step b false rest e later any = later any

atom_byte : (b : ℕ) → is_atom_byte b ≡ true → is_unprintable b ≡ false
unfolding is_atom_byte
atom_byte b is =
    atom_step b (is_ascii_alphanumeric b) (list_any (λ mark. mark == b) (codes "!#$%&'*+-/=?^_`{|}~")) refl
    (marked b (codes "!#$%&'*+-/=?^_`{|}~") (all_printable (codes "!#$%&'*+-/=?^_`{|}~") refl)) is

none_pass : (bytes : List ℕ) → list_all (λ b. not (is_unprintable b)) bytes ≡ true → Printable bytes
none_pass [] all = tt
none_pass (b ∷ bytes) all = let both = and_parts (not (is_unprintable b)) (list_all (λ x. not (is_unprintable x)) bytes) all in (not-true (is_unprintable b) both.0, none_pass bytes both.1)

avoided : Avoids is_unprintable
avoided = record { atom = atom_byte; alphanumeric = letter; hyphen = refl; dot = refl; at = refl }

pub printable_address : (address : List ℕ) → IsLowerAddress address → AllPrintable address
printable_address address is = printable_all address (none_pass address (none_in is_unprintable avoided address is.address))
