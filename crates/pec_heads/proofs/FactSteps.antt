-- Texts that are printable, and what is printed of a value.
use Rattle.std.proofs.Common.{◌≡◌, ℕ, ◌≤◌, ◌==◌, nat_lt, nat_le, List, [], ◌∷◌, ◌++◌, Bool, true, false, not, ◌&&◌, ◌||◌, cond, inl, inr, length, Some, None, codes, refl, sym, ◌∙◌, arith, lit≤}
use Rattle.std.proofs.lemmas.Bool.{cond_both, both_ways, and_parts, and_from, or_cases, or_from, not-true, not_from_false, leb-true, le-ltb, eqb-true, ne_eqb}
use Rattle.std.proofs.lemmas.List.{length-map, take-map}
use Rattle.std.proofs.lemmas.List.Folds.{list_all-append}
use Rattle.std.specs.List.{list_all, list_any}
use Rattle.std.specs.Char.{is_ascii_alphanumeric}
use Rattle.std.specs.Int.{is_in_range}
use Rattle.pec_types.specs.Text.{is_unprintable, AllPrintable}
use Rattle.pec_types.specs.Address.{Avoids, is_atom_byte, IsLowerAddress}
use Rattle.pec_heads.specs.Bytes.{NonePass, before_cut, cut_blanks, is_blank, skip_blanks, trimmed}
use Rattle.pec_heads.specs.FactsOfHeads.{front_of, printed_byte, printed, short_text, unless_nothing}
use Rattle.pec_heads.specs.declared.TheConstants.{TEXT_LIMIT}
use Rattle.pec_heads.proofs.Places.{none_of, no_place}
use Rattle.pec_types.proofs.AddressBytes.{none_in}
use Rattle.pec_heads.proofs.BlankLemmas.{trimmed_is}

-- ---- printed values

printed_fits : (b : ℕ) → is_unprintable (printed_byte b) ≡ false
printed_fits b =
    cond_both (b == 9) 32 (cond (is_unprintable b) 63 b) (λ c. is_unprintable c ≡ false)
    (λ t. refl)
    (λ t. cond_both (is_unprintable b) 63 b (λ c. is_unprintable c ≡ false) (λ u. refl) (λ u. u))

printed_none : (value : List ℕ) → NonePass is_unprintable (printed value)
printed_none [] = refl
printed_none (b ∷ bs) = and_from _ _ (not_from_false _ (printed_fits b)) (printed_none bs)

pub printed_printable : (value : List ℕ) → AllPrintable (printed value)
printed_printable value = no_place is_unprintable (printed value) (printed_none value)

none_append : (p : ℕ → Bool) (xs ys : List ℕ) → NonePass p (xs ++ ys) → NonePass p xs × NonePass p ys
none_append p xs ys h = and_parts _ _ (sym (list_all-append (λ b. not (p b)) xs ys) ∙ h)

trimmed_none : (bytes : List ℕ) → NonePass is_unprintable bytes → NonePass is_unprintable (trimmed bytes)
trimmed_none bytes h =
    let t = trimmed_is bytes
    in (none_append is_unprintable t.left (trimmed bytes) (none_append is_unprintable (t.left ++ trimmed bytes) t.right (rw t.parts at h)).0).1

pub trimmed_printable : (bytes : List ℕ) → AllPrintable bytes → AllPrintable (trimmed bytes)
trimmed_printable bytes h = no_place is_unprintable (trimmed bytes) (trimmed_none bytes (none_of is_unprintable bytes h))

pub front_printed : (value : List ℕ) → printed (front_of value) ≡ front_of (printed value)
unfolding front_of
front_printed value = sym (take-map printed_byte TEXT_LIMIT value)

pub front_printable : (value : List ℕ) → AllPrintable (front_of (printed value))
front_printable value = rw (← front_printed value) (printed_printable (front_of value))

-- what is printable already
plain_byte : (b : ℕ) → is_unprintable b ≡ false → printed_byte b ≡ b
plain_byte b fits =
    cond_both (b == 9) 32 (cond (is_unprintable b) 63 b) (λ c. c ≡ b)
    (λ t. absurd (both_ways (is_unprintable b) fits (rw (eqb-true b 9 t) refl)))
    (λ t. rw fits refl)

plain_printed : (value : List ℕ) → NonePass is_unprintable value → printed value ≡ value
plain_printed [] none = refl
plain_printed (b ∷ bs) none =
    let p = and_parts (not (is_unprintable b)) (list_all (λ x. not (is_unprintable x)) bs) none
    in rw (plain_byte b (not-true _ p.0), plain_printed bs p.1) refl

pub printable_printed : (value : List ℕ) → AllPrintable value → printed value ≡ value
printable_printed value all = plain_printed value (none_of is_unprintable value all)

-- blanks stay blanks, and nothing else becomes one
blank_printed : (b : ℕ) → is_blank (printed_byte b) ≡ is_blank b
blank_printed b =
    cond_both (b == 9) 32 (cond (is_unprintable b) 63 b) (λ c. is_blank c ≡ is_blank b)
    (λ t. rw (eqb-true b 9 t) refl)
    (λ t. cond_both (is_unprintable b) 63 b (λ c. is_blank c ≡ is_blank b) (λ u. sym (or_from (b == 32) (b == 9) (other b u) t)) (λ u. refl))
  where
    other : (b : ℕ) → is_unprintable b ≡ true → (b == 32) ≡ false
    other b u = ne_eqb b 32 (λ e. both_ways (is_unprintable b) (rw e refl) u)

skip_printed : (value : List ℕ) → skip_blanks (printed value) ≡ printed (skip_blanks value)
skip_printed [] = refl
skip_printed (b ∷ bs) =
    rw (blank_printed b)
    (cond_both (is_blank b) (skip_blanks bs) (b ∷ bs) (λ rest. cond (is_blank b) (skip_blanks (printed bs)) (printed (b ∷ bs)) ≡ printed rest)
    (λ t. rw t (skip_printed bs))
    (λ t. rw t refl))

before_printed : (b : ℕ) (bs : List ℕ) → before_cut (printed_byte b) (printed bs) ≡ printed (before_cut b bs)
before_printed b [] =
    rw (blank_printed b) (cond_both (is_blank b) [] (b ∷ []) (λ rest. cond (is_blank b) [] (printed (b ∷ [])) ≡ printed rest) (λ t. rw t refl) (λ t. rw t refl))
before_printed b (c ∷ bs) = refl

cut_printed : (value : List ℕ) → cut_blanks (printed value) ≡ printed (cut_blanks value)
cut_printed [] = refl
cut_printed (b ∷ bs) = rw (cut_printed bs) (before_printed b (cut_blanks bs))

trimmed_printed : (value : List ℕ) → trimmed (printed value) ≡ printed (trimmed value)
unfolding trimmed
trimmed_printed value = rw (skip_printed value) (cut_printed (skip_blanks value))

-- a text is what is printed of the front of a value without its blanks
pub short_as : (value : List ℕ) → short_text value ≡ unless_nothing (printed (trimmed (front_of value)))
unfolding short_text
short_as value = rw (← front_printed value, trimmed_printed (front_of value)) refl

pub short_none : (value front : List ℕ) → front ≡ trimmed (front_of value) → (length front == 0) ≡ true → None ≡ short_text value
short_none value front e none = sym (rw (short_as value, ← e, length-map front printed_byte, none) refl)

pub short_some : (value front : List ℕ) → front ≡ trimmed (front_of value) → (length front == 0) ≡ false → Some (printed front) ≡ short_text value
short_some value front e some = sym (rw (short_as value, ← e, length-map front printed_byte, some) refl)

-- ---- addresses

in_range_fits : (low high b : ℕ) → 32 ≤ low → high ≤ 126 → (nat_le low b && nat_le b high) ≡ true → is_unprintable b ≡ false
in_range_fits low high b l h e =
    let p = and_parts _ _ e
    in let a : low ≤ b = leb-true low b p.0
    in let z : b ≤ high = leb-true b high p.1
    in or_from (nat_lt b 32) (nat_lt 126 b) (le-ltb b 32 (omega arith)) (le-ltb 126 b (omega arith))

alphanumeric_fits : (b : ℕ) → is_ascii_alphanumeric b ≡ true → is_unprintable b ≡ false
alphanumeric_fits b e =
    elim (or_cases (is_in_range 48 57 b || is_in_range 65 90 b) (is_in_range 97 122 b) e) [
      | inl d ↦ elim (or_cases (is_in_range 48 57 b) (is_in_range 65 90 b) d) [
        | inl digit ↦ in_range_fits 48 57 b (lit≤ tt) (lit≤ tt) digit
        | inr upper ↦ in_range_fits 65 90 b (lit≤ tt) (lit≤ tt) upper
      ]
      | inr lower ↦ in_range_fits 97 122 b (lit≤ tt) (lit≤ tt) lower
    ]

marked_fits : (marks : List ℕ) (b : ℕ) → NonePass is_unprintable marks → list_any (λ mark. mark == b) marks ≡ true → is_unprintable b ≡ false
marked_fits [] b h e = absurd cc
marked_fits (m ∷ marks) b h e =
    let p = and_parts (not (is_unprintable m)) (list_all (λ x. not (is_unprintable x)) marks) h
    in elim (or_cases (m == b) (list_any (λ mark. mark == b) marks) e) [
      | inl s ↦ rw (eqb-true m b s) at (not-true (is_unprintable m) p.0)
      | inr r ↦ marked_fits marks b p.1 r
    ]

atom_byte_fits : (b : ℕ) → is_atom_byte b ≡ true → is_unprintable b ≡ false
unfolding is_atom_byte
atom_byte_fits b e =
    elim (or_cases (is_ascii_alphanumeric b) (list_any (λ mark. mark == b) (codes "!#$%&'*+-/=?^_`{|}~")) e) [
      | inl a ↦ alphanumeric_fits b a
      | inr m ↦ marked_fits (codes "!#$%&'*+-/=?^_`{|}~") b refl m
    ]

hides_nothing : Avoids is_unprintable
hides_nothing = record { atom = atom_byte_fits; alphanumeric = alphanumeric_fits; hyphen = refl; dot = refl; at = refl }

pub address_printable : (bytes : List ℕ) → IsLowerAddress bytes → AllPrintable bytes
address_printable bytes h = no_place is_unprintable bytes (none_in is_unprintable hides_nothing bytes h.address)
