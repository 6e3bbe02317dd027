-- An address is a printable text.
use Rattle.std.proofs.Common.{◌≡◌, ℕ, Bool, true, false, ◌||◌, cond, eqb, List, [], ◌∷◌, ◌++◌, refl, sym, ap, subst, arith, eqb-true}
use Rattle.std.specs.Prelude.{codes}
use Rattle.std.specs.Char.{is_ascii_alphanumeric}
use Rattle.std.specs.List.{flat_map, list_any, AllByRecursion}
use Rattle.std.proofs.lemmas.Bool.{false≢true}
use Rattle.std.proofs.lemmas.Bool.Decides.{nat_tests}
use Rattle.pec_types.specs.Address.{is_atom_byte, AllAtomBytes, IsAtom, ends_well, IsLabel, dotted, IsDotted, IsLowerAddress}
use Rattle.pec_types.specs.Text.{is_unprintable, AllPrintable}
use Rattle.pec_cert.proofs.Texts.{all_printable, printable_all}

abbrev pub Printable : List ℕ → Type 0
Printable bytes = AllByRecursion (λ c. is_unprintable c ≡ false) bytes

pub joined : (a b : List ℕ) → Printable a → Printable b → Printable (a ++ b)
joined [] b first second = second
joined (c ∷ a) b first second = (first.0, joined a b first.1 second)

letter : (b : ℕ) → is_ascii_alphanumeric b ≡ true → is_unprintable b ≡ false
letter b e = grind (arith, nat_tests)

mark_step : (b m : ℕ) (t : Bool) → eqb m b ≡ t → is_unprintable m ≡ false → (rest : Bool) → (rest ≡ true → is_unprintable b ≡ false) → (t || rest) ≡ true → is_unprintable b ≡ false
mark_step b m true e printable rest later any = subst (λ n. is_unprintable n ≡ false) (eqb-true m b e) printable
mark_step b m false e printable rest later any = later any

marked : (b : ℕ) (marks : List ℕ) → Printable marks → list_any (λ mark. eqb mark b) marks ≡ true → is_unprintable b ≡ false
marked b [] printable any = absurd (false≢true any)
marked b (m ∷ ms) printable any = mark_step b m (eqb m b) refl printable.0 (list_any (λ mark. eqb mark b) ms) (marked b ms printable.1) any

atom_step : (b : ℕ) (t : Bool) (rest : Bool) → is_ascii_alphanumeric b ≡ t → (rest ≡ true → is_unprintable b ≡ false) → (t || rest) ≡ true → is_unprintable b ≡ false
atom_step b true rest e later any = letter b e
atom_step b false rest e later any = later any

atom_byte : (b : ℕ) → is_atom_byte b ≡ true → is_unprintable b ≡ false
unfolding is_atom_byte
atom_byte b is =
    atom_step b (is_ascii_alphanumeric b) (list_any (λ mark. eqb mark b) (codes "!#$%&'*+-/=?^_`{|}~")) refl
    (marked b (codes "!#$%&'*+-/=?^_`{|}~") (all_printable (codes "!#$%&'*+-/=?^_`{|}~") refl)) is

atoms : (bytes : List ℕ) → AllAtomBytes bytes → Printable bytes
atoms [] all = tt
atoms (b ∷ bs) all = (atom_byte b all.0, atoms bs all.1)

atom : (bytes : List ℕ) → IsAtom bytes → Printable bytes
atom [] is = absurd is
atom (b ∷ bs) is = (atom_byte b is.0, atoms bs is.1)

tail_step : (b : ℕ) (bs : List ℕ) (x y : Bool) → is_ascii_alphanumeric b ≡ x → eqb b 45 ≡ y → cond x (ends_well true bs) (cond y (ends_well false bs) false) ≡ true
    → ((good : Bool) → ends_well good bs ≡ true → Printable bs) → Printable (b ∷ bs)
tail_step b bs true y letter_is hyphen is further = (letter b letter_is, further true is)
tail_step b bs false true letter_is hyphen is further = (ap is_unprintable (eqb-true b 45 hyphen), further false is)
tail_step b bs false false letter_is hyphen is further = absurd (false≢true is)

tail : (bs : List ℕ) (good : Bool) → ends_well good bs ≡ true → Printable bs
tail [] good is = tt
tail (b ∷ bs) good is = tail_step b bs (is_ascii_alphanumeric b) (eqb b 45) refl refl is (tail bs)

label : (bytes : List ℕ) → IsLabel bytes → Printable bytes
label [] is = absurd is
label (b ∷ bs) is = (letter b is.0, tail bs true is.1.0)

module _ (IsPart : List ℕ → Type 0) (part : (bytes : List ℕ) → IsPart bytes → Printable bytes) where
  parts : (others : List (List ℕ)) → AllByRecursion IsPart others → Printable (flat_map dotted others)
  parts [] all = tt
  parts (x ∷ xs) all = joined (dotted x) (flat_map dotted xs) (refl, part x all.0) (parts xs all.1)

  dotted_parts : (bytes : List ℕ) → IsDotted IsPart IsPart bytes → Printable bytes
  dotted_parts bytes d = subst (λ z. Printable z) (sym d.parts) (joined d.first (flat_map dotted d.others) (part d.first d.first_is) (parts d.others d.others_are))

pub printable_address : (bytes : List ℕ) → IsLowerAddress bytes → AllPrintable bytes
printable_address bytes is =
    let a = is.address in
    printable_all bytes (subst (λ z. Printable z) (sym a.parts)
    (joined a.local (64 ∷ a.domain) (dotted_parts IsAtom atom a.local a.local_is) (refl, dotted_parts IsLabel label a.domain a.domain_is)))
