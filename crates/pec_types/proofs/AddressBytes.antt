-- What avoids the bytes of addresses is no byte of one.
use Rattle.std.proofs.Common.{◌≡◌, ℕ, ◌==◌, List, [], ◌∷◌, ◌++◌, Bool, true, false, not, cond, refl, ◌∙◌}
use Rattle.std.proofs.lemmas.Bool.{and_from, eqb-true, not_from_false}
use Rattle.std.proofs.lemmas.List.Folds.{list_all-append}
use Rattle.std.specs.Char.{is_ascii_alphanumeric}
use Rattle.std.specs.List.{flat_map, list_all, AllByRecursion}
use Rattle.pec_types.specs.Address.{Avoids, is_atom_byte, AllAtomBytes, IsAtom, ends_well, IsLabel, dotted, IsDotted, IsAddress}

-- no byte passes the test
abbrev NonePass : (ℕ → Bool) → List ℕ → Type 0
NonePass p bytes = list_all (λ b. not (p b)) bytes ≡ true

none_append : (p : ℕ → Bool) (xs ys : List ℕ) → NonePass p xs → NonePass p ys → NonePass p (xs ++ ys)
none_append p xs ys h k = list_all-append (λ b. not (p b)) xs ys ∙ and_from _ _ h k

none_more : (p : ℕ → Bool) (b : ℕ) (bs : List ℕ) → p b ≡ false → NonePass p bs → NonePass p (b ∷ bs)
none_more p b bs e h = and_from _ _ (not_from_false _ e) h

in_atoms : (p : ℕ → Bool) → Avoids p → (bytes : List ℕ) → AllAtomBytes bytes → NonePass p bytes
in_atoms p a [] h = refl
in_atoms p a (b ∷ bs) h = none_more p b bs (a.atom b h.0) (in_atoms p a bs h.1)

in_atom : (p : ℕ → Bool) → Avoids p → (bytes : List ℕ) → IsAtom bytes → NonePass p bytes
in_atom p a [] h = absurd h
in_atom p a (b ∷ bs) h = in_atoms p a (b ∷ bs) h

in_rest : (p : ℕ → Bool) → Avoids p → (b : ℕ) (bs : List ℕ) (t : Bool) → is_ascii_alphanumeric b ≡ t → (u : Bool) → (b == 45) ≡ u
    → (ends_well true bs ≡ true → NonePass p bs) → (ends_well false bs ≡ true → NonePass p bs)
    → cond t (ends_well true bs) (cond u (ends_well false bs) false) ≡ true → NonePass p (b ∷ bs)
in_rest p a b bs true e u f l r h = none_more p b bs (a.alphanumeric b e) (l h)
in_rest p a b bs false e true f l r h = none_more p b bs (rw (eqb-true b 45 f) a.hyphen) (r h)
in_rest p a b bs false e false f l r h = absurd cc

in_ending : (p : ℕ → Bool) → Avoids p → (behind : Bool) (bytes : List ℕ) → ends_well behind bytes ≡ true → NonePass p bytes
in_ending p a behind [] h = refl
in_ending p a behind (b ∷ bs) h = in_rest p a b bs (is_ascii_alphanumeric b) refl (b == 45) refl (in_ending p a true bs) (in_ending p a false bs) h

in_label : (p : ℕ → Bool) → Avoids p → (bytes : List ℕ) → IsLabel bytes → NonePass p bytes
in_label p a [] h = absurd h
in_label p a (b ∷ bs) h = none_more p b bs (a.alphanumeric b h.0) (in_ending p a true bs h.1.0)

in_others : (p : ℕ → Bool) → Avoids p → (IsPart : List ℕ → Type 0) → ((part : List ℕ) → IsPart part → NonePass p part) → (others : List (List ℕ))
    → AllByRecursion IsPart others → NonePass p (flat_map dotted others)
in_others p a IsPart f [] h = refl
in_others p a IsPart f (part ∷ others) h = none_append p (46 ∷ part) (flat_map dotted others) (none_more p 46 part a.dot (f part h.0)) (in_others p a IsPart f others h.1)

in_dotted : (p : ℕ → Bool) → Avoids p → (IsPart : List ℕ → Type 0) → ((part : List ℕ) → IsPart part → NonePass p part) → (bytes : List ℕ)
    → IsDotted IsPart IsPart bytes → NonePass p bytes
in_dotted p a IsPart f bytes h = rw h.parts (none_append p h.first (flat_map dotted h.others) (f h.first h.first_is) (in_others p a IsPart f h.others h.others_are))

pub none_in : (p : ℕ → Bool) → Avoids p → (bytes : List ℕ) → IsAddress bytes → list_all (λ b. not (p b)) bytes ≡ true
none_in p a bytes h =
    rw h.parts (none_append p h.local (64 ∷ h.domain) (in_dotted p a IsAtom (in_atom p a) h.local h.local_is)
    (none_more p 64 h.domain a.at (in_dotted p a IsLabel (in_label p a) h.domain h.domain_is)))
