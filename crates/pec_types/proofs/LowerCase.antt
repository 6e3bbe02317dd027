-- An address in lower case is an address, and is in lower case.
use Rattle.std.proofs.Common.{◌≡◌, ℕ, ◌+◌, ◌≤◌, ◌⊎◌, Bool, true, false, eqb, ltb, List, [], ◌∷◌, ◌++◌, length, map, refl, sym, ◌∙◌, ap, subst, inl, inr, arith, ltb-true, ltb-false}
use Rattle.std.proofs.lemmas.Bool.Decides.{nat_tests}
use Rattle.std.proofs.lemmas.List.{length-map, map-append}
use Rattle.std.proofs.lemmas.Str.Ascii.{lowercase_is, lowercase-lowercase}
use Rattle.std.specs.Char.{is_ascii_alphanumeric, to_ascii_lowercase}
use Rattle.std.specs.List.{flat_map, AllByRecursion}
use Rattle.pec_types.specs.Address.{is_atom_byte, AllAtomBytes, IsAtom, IsLabel, ends_well, dotted, IsDotted, IsAddress, lowered, IsLowerAddress}

-- a byte is no capital, or it is one
abbrev LowerCases : ℕ → Type 0
LowerCases b = (to_ascii_lowercase b ≡ b) ⊎ ((65 ≤ b) × (b ≤ 90) × (to_ascii_lowercase b ≡ b + 32))

lower_cases : (b : ℕ) → LowerCases b
lower_cases b = below (ltb b 65) refl
  where
    above : (b : ℕ) (x : Bool) → 65 ≤ b → ltb 90 b ≡ x → LowerCases b
    above b true le is_so = inl ((lowercase_is b).2 (ltb-true 90 b is_so))
    above b false le is_not = inr (le, ltb-false 90 b is_not, (lowercase_is b).0 (le, ltb-false 90 b is_not))

    below : (x : Bool) → ltb b 65 ≡ x → LowerCases b
    below true is_so = inl ((lowercase_is b).1 (ltb-true b 65 is_so))
    below false is_not = above b (ltb 90 b) (ltb-false b 65 is_not) refl

capital_letter : (b : ℕ) → 65 ≤ b → b ≤ 90 → is_ascii_alphanumeric b ≡ true
capital_letter b low high = grind (arith, nat_tests)

small_letter : (b : ℕ) → 65 ≤ b → b ≤ 90 → is_ascii_alphanumeric (b + 32) ≡ true
small_letter b low high = grind (arith, nat_tests)

letter_stays : (b : ℕ) → is_ascii_alphanumeric (to_ascii_lowercase b) ≡ is_ascii_alphanumeric b
letter_stays b = elim (lower_cases b) [
  | inl same ↦ ap is_ascii_alphanumeric same
  | inr up ↦ ap is_ascii_alphanumeric up.2 ∙ (small_letter b up.0 up.1 ∙ sym (capital_letter b up.0 up.1))
]

no_hyphen : (b : ℕ) → 65 ≤ b → eqb b 45 ≡ false
no_hyphen b low = grind (arith, nat_tests)

hyphen_stays : (b : ℕ) → eqb (to_ascii_lowercase b) 45 ≡ eqb b 45
hyphen_stays b = elim (lower_cases b) [
  | inl same ↦ ap (λ x. eqb x 45) same
  | inr up ↦ ap (λ x. eqb x 45) up.2 ∙ (no_hyphen (b + 32) (omega (arith, up.0)) ∙ sym (no_hyphen b up.0))
]

atom_stays : (b : ℕ) → is_atom_byte b ≡ true → is_atom_byte (to_ascii_lowercase b) ≡ true
unfolding is_atom_byte
atom_stays b atom = elim (lower_cases b) [
  | inl same ↦ ap is_atom_byte same ∙ atom
  | inr up ↦ ap is_atom_byte up.2 ∙ rw (small_letter b up.0 up.1) refl
]

abbrev small : List ℕ → List ℕ
small bytes = map to_ascii_lowercase bytes

ends_stay : (behind_letter : Bool) (bs : List ℕ) → ends_well behind_letter (small bs) ≡ ends_well behind_letter bs
ends_stay behind_letter [] = refl
ends_stay behind_letter (b ∷ bs) = rw (letter_stays b, hyphen_stays b, ends_stay true bs, ends_stay false bs) refl

atoms_stay : (bs : List ℕ) → AllAtomBytes bs → AllAtomBytes (small bs)
atoms_stay [] all = tt
atoms_stay (b ∷ bs) all = (atom_stays b all.0, atoms_stay bs all.1)

atom_part : (bs : List ℕ) → IsAtom bs → IsAtom (small bs)
atom_part [] is = is
atom_part (b ∷ bs) is = (atom_stays b is.0, atoms_stay bs is.1)

label_part : (bs : List ℕ) → IsLabel bs → IsLabel (small bs)
label_part [] is = is
label_part (b ∷ bs) is =
    let size : length (small bs) ≡ length bs = length-map bs to_ascii_lowercase in
    (letter_stays b ∙ is.0, (ends_stay true bs ∙ is.1.0, omega (arith, is.1.1)))

parts_stay : (P : List ℕ → Type 0) → ((bs : List ℕ) → P bs → P (small bs)) → (others : List (List ℕ)) → AllByRecursion P others → AllByRecursion P (map small others)
parts_stay P part [] all = tt
parts_stay P part (o ∷ os) all = (part o all.0, parts_stay P part os all.1)

small_dotted : (others : List (List ℕ)) → small (flat_map dotted others) ≡ flat_map dotted (map small others)
small_dotted [] = refl
small_dotted (o ∷ os) = ap (λ x. 46 ∷ x) (map-append to_ascii_lowercase o (flat_map dotted os) ∙ ap (λ x. small o ++ x) (small_dotted os))

dotted_stays : (P : List ℕ → Type 0) → ((bs : List ℕ) → P bs → P (small bs)) → (bytes : List ℕ) → IsDotted P P bytes → IsDotted P P (small bytes)
dotted_stays P part bytes is = record {
  first = small is.first;
  others = map small is.others;
  first_is = part is.first is.first_is;
  others_are = parts_stay P part is.others is.others_are;
  parts = ap small is.parts ∙ (map-append to_ascii_lowercase is.first (flat_map dotted is.others) ∙ ap (λ x. small is.first ++ x) (small_dotted is.others));
}

twice : (bs : List ℕ) → small (small bs) ≡ small bs
twice [] = refl
twice (b ∷ bs) = rw (lowercase-lowercase b, twice bs) refl

pub lower_address : (text : List ℕ) → IsAddress text → IsLowerAddress (lowered text)
lower_address text is =
    let size : length (small text) ≡ length text = length-map text to_ascii_lowercase in
    record {
      address = record {
        local = small is.local;
        domain = small is.domain;
        local_is = dotted_stays IsAtom atom_part is.local is.local_is;
        domain_is = dotted_stays IsLabel label_part is.domain is.domain_is;
        parts = ap small is.parts ∙ map-append to_ascii_lowercase is.local (64 ∷ is.domain);
        short = omega (arith, is.short);
      };
      lower = twice text;
    }

pub kept_address : (text bytes : List ℕ) → IsAddress text → bytes ≡ lowered text → IsLowerAddress bytes
kept_address text bytes is same = subst IsLowerAddress (sym same) (lower_address text is)
