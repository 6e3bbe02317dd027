-- An entry is an address with blanks round it, or a phrase and an address in `<` and `>`: only the second has a `<` or a quote.
use Rattle.std.proofs.Common.{◌≡◌, ℕ, ◌==◌, List, [], ◌∷◌, ◌++◌, Bool, true, false, not, ◌⊎◌, ◌↔◌, inl, inr, MatchBool, refl, ap, ◌∙◌}
use Rattle.std.proofs.lemmas.Bool.{false≢true, and_parts, eqb-true, ne_eqb, not-true, or_cases, or_from, or_right}
use Rattle.std.proofs.lemmas.List.Folds.{list_any-append}
use Rattle.std.specs.Char.{is_ascii_alphanumeric}
use Rattle.std.specs.List.{list_all}
use Rattle.pec_types.specs.Address.{Avoids, is_atom_byte, IsAddress}
use Rattle.pec_heads.specs.Bytes.{is_blank, AreBlanks, NonePass, trimmed}
use Rattle.pec_types.specs.Bytes.{is_quote}
use Rattle.pec_heads.specs.Lists.{is_mark, has_mark, IsAngled, IsBare, IsEntry}
use Rattle.pec_types.proofs.AddressBytes.{none_in}
use Rattle.pec_heads.proofs.BlankLemmas.{trimmed_is}

atom_60 : (b : ℕ) → is_atom_byte b ≡ true → b ≡ 60 → ⊥
unfolding is_atom_byte
atom_60 b e q = let h : false ≡ true = rw q at e in false≢true h

atom_34 : (b : ℕ) → is_atom_byte b ≡ true → b ≡ 34 → ⊥
unfolding is_atom_byte
atom_34 b e q = let h : false ≡ true = rw q at e in false≢true h

letter_60 : (b : ℕ) → is_ascii_alphanumeric b ≡ true → b ≡ 60 → ⊥
letter_60 b e q = let h : false ≡ true = rw q at e in false≢true h

letter_34 : (b : ℕ) → is_ascii_alphanumeric b ≡ true → b ≡ 34 → ⊥
letter_34 b e q = let h : false ≡ true = rw q at e in false≢true h

no_mark : (b : ℕ) → (b ≡ 60 → ⊥) → (b ≡ 34 → ⊥) → is_mark b ≡ false
no_mark b f g = or_from (b == 60) (is_quote b) (ne_eqb b 60 f) (ne_eqb b 34 g)

avoids_marks : Avoids is_mark
avoids_marks = record {
  atom = λ b e. no_mark b (atom_60 b e) (atom_34 b e);
  alphanumeric = λ b e. no_mark b (letter_60 b e) (letter_34 b e);
  hyphen = refl;
  dot = refl;
  at = refl;
}

none_marked : (bytes : List ℕ) → NonePass is_mark bytes → has_mark bytes ≡ false
none_marked [] h = refl
none_marked (b ∷ bs) h =
    let p = and_parts (not (is_mark b)) (list_all (λ x. not (is_mark x)) bs) h
    in or_from (is_mark b) (has_mark bs) (not-true (is_mark b) p.0) (none_marked bs p.1)

blank_no_mark : (b : ℕ) → is_blank b ≡ true → is_mark b ≡ false
blank_no_mark b e = elim (or_cases (b == 32) (b == 9) e) [ inl s ↦ rw (eqb-true b 32 s) refl | inr t ↦ rw (eqb-true b 9 t) refl ]

blanks_no_mark : (bytes : List ℕ) → AreBlanks bytes → has_mark bytes ≡ false
blanks_no_mark [] h = refl
blanks_no_mark (b ∷ bs) h =
    let p = and_parts (is_blank b) (list_all is_blank bs) h
    in or_from (is_mark b) (has_mark bs) (blank_no_mark b p.0) (blanks_no_mark bs p.1)

bare_no_mark : (entry : List ℕ) → IsAddress (trimmed entry) → has_mark entry ≡ false
bare_no_mark entry h =
    let t = trimmed_is entry
    in ap has_mark t.parts ∙ list_any-append is_mark (t.left ++ trimmed entry) t.right
    ∙ or_from (has_mark (t.left ++ trimmed entry)) (has_mark t.right)
    (list_any-append is_mark t.left (trimmed entry)
    ∙ or_from (has_mark t.left) (has_mark (trimmed entry)) (blanks_no_mark t.left t.left_blank) (none_marked (trimmed entry) (none_in is_mark avoids_marks (trimmed entry) h)))
    (blanks_no_mark t.right t.right_blank)

angled_mark : (entry address : List ℕ) → IsAngled entry address → has_mark entry ≡ true
angled_mark entry address a =
    ap has_mark a.parts ∙ list_any-append is_mark a.phrase (60 ∷ (a.inside ++ 62 ∷ a.tail)) ∙ or_right (has_mark a.phrase) (has_mark (60 ∷ (a.inside ++ 62 ∷ a.tail))) refl

to_entry : (entry address : List ℕ) → IsBare entry address ⊎ IsAngled entry address → IsEntry entry address
to_entry entry address (inl b) = rw (bare_no_mark entry b.address_is) b
to_entry entry address (inr a) = rw (angled_mark entry address a) a

of_entry : (entry address : List ℕ) (t : Bool) → MatchBool t (IsAngled entry address) (IsBare entry address) → IsBare entry address ⊎ IsAngled entry address
of_entry entry address true a = inr a
of_entry entry address false b = inl b

pub forms : (entry address : List ℕ) → (IsEntry entry address ↔ (IsBare entry address ⊎ IsAngled entry address))
forms entry address = ((λ h. of_entry entry address (has_mark entry) h), to_entry entry address)
