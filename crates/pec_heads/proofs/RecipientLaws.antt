-- Recipients added one after another are those of `To`, each once, and then those of `Cc` that don't stand in `To`, each once.
use Rattle.std.proofs.Common.{◌≡◌, ℕ, List, [], ◌∷◌, ◌++◌, Bool, true, false, ◌||◌, cond, map, refl, ap, sym, ◌∙◌, append_assoc}
use Rattle.std.proofs.lemmas.Bool.{cond_both}
use Rattle.std.proofs.lemmas.List.{append-nil, map-append}
use Rattle.std.proofs.lemmas.List.Folds.{list_any-append}
use Rattle.std.proofs.lemmas.Slice.Eq.{bytes_eq-Decides}
use Rattle.std.specs.List.{list_any}
use Rattle.std.specs.Str.{bytes_eq}
use Rattle.pec_types.specs.declared.messages.Recipient.{Recipient}
use Rattle.pec_types.specs.declared.messages.Class.{Class}
use Rattle.pec_types.specs.declared.messages.Class.TheVariants.{Primary, Copy}
use Rattle.pec_heads.specs.FactsOfHeads.{has_address, fresh, recipient, recipients_of}
use Rattle.pec_heads.specs.FactsReading.{with_recipients}

abbrev pub addresses : List Recipient → List (List ℕ)
addresses all = map (λ r. r.address) all

there_is : (all : List Recipient) (x : List ℕ) → list_any (λ r. bytes_eq r.address x) all ≡ has_address (addresses all) x
there_is [] x = refl
there_is (r ∷ all) x = ap (λ t. bytes_eq r.address x || t) (there_is all x)

added_is : (class : Class) (all : List Recipient) (x : List ℕ) → addresses (all ++ recipient class x ∷ []) ≡ addresses all ++ x ∷ []
added_is class all x = map-append (λ (r : Recipient). r.address) all (recipient class x ∷ [])

added_case : (class : Class) (all : List Recipient) (x : List ℕ) (xs : List (List ℕ)) (t : Bool) → list_any (λ r. bytes_eq r.address x) all ≡ t
    → ((more : List Recipient) → with_recipients class more xs ≡ more ++ map (recipient class) (fresh (addresses more) xs))
    → with_recipients class (cond (list_any (λ r. bytes_eq r.address x) all) all (all ++ recipient class x ∷ [])) xs
    ≡ all ++ map (recipient class) (cond t (fresh (addresses all) xs) (x ∷ fresh (addresses all ++ x ∷ []) xs))
added_case class all x xs true e ih = rw e (ih all)
added_case class all x xs false e ih = rw e (ih (all ++ recipient class x ∷ []) ∙ rw (added_is class all x, append_assoc) refl)

-- recipients of one class, added
added_all : (class : Class) (all : List Recipient) (xs : List (List ℕ)) → with_recipients class all xs ≡ all ++ map (recipient class) (fresh (addresses all) xs)
added_all class all [] = sym (append-nil all)
added_all class all (x ∷ xs) = added_case class all x xs (has_address (addresses all) x) (there_is all x) (λ more. added_all class more xs)

-- ---- what stands before counts as a set

abbrev pub SameSet : List (List ℕ) → List (List ℕ) → Type 0
SameSet a b = (x : List ℕ) → has_address a x ≡ has_address b x

same_more : (a b : List (List ℕ)) (y : List ℕ) → SameSet a b → SameSet (a ++ y ∷ []) (b ++ y ∷ [])
same_more a b y same x = list_any-append (λ o. bytes_eq o x) a (y ∷ []) ∙ ap (λ t. t || has_address (y ∷ []) x) (same x) ∙ sym (list_any-append (λ o. bytes_eq o x) b (y ∷ []))

fresh_same : (a b xs : List (List ℕ)) → SameSet a b → fresh a xs ≡ fresh b xs
fresh_same a b [] same = refl
fresh_same a b (x ∷ xs) same = rw (same x)
    (cond_both (has_address b x) (fresh b xs) (x ∷ fresh (b ++ x ∷ []) xs) (λ ys. cond (has_address b x) (fresh a xs) (x ∷ fresh (a ++ x ∷ []) xs) ≡ ys)
    (λ t. rw t (fresh_same a b xs same))
    (λ t. rw t (ap (λ ys. x ∷ ys) (fresh_same (a ++ x ∷ []) (b ++ x ∷ []) xs (same_more a b x same)))))

skip_one : (a xs : List (List ℕ)) (y x : List ℕ) → has_address a y ≡ true → (t : Bool) → bytes_eq y x ≡ t → has_address a x || has_address xs x ≡ (has_address a x || (t || has_address xs x))
skip_one a xs y x e true f = let g : has_address a x ≡ true = rw ((bytes_eq-Decides y x).0 f) at e in rw g refl
skip_one a xs y x e false f = refl

skip : (a xs : List (List ℕ)) (y : List ℕ) → has_address a y ≡ true → SameSet (a ++ xs) (a ++ y ∷ xs)
skip a xs y e x =
    list_any-append (λ o. bytes_eq o x) a xs ∙ skip_one a xs y x e (bytes_eq y x) refl ∙ sym (list_any-append (λ o. bytes_eq o x) a (y ∷ xs))

fresh_case : (a xs : List (List ℕ)) (y : List ℕ) (t : Bool) → has_address a y ≡ t → ((b : List (List ℕ)) → SameSet (b ++ fresh b xs) (b ++ xs)) → SameSet (a ++ cond t (fresh a xs) (y ∷ fresh (a ++ y ∷ []) xs)) (a ++ y ∷ xs)
fresh_case a xs y true e ih x = ih a x ∙ skip a xs y e x
fresh_case a xs y false e ih x =
    ap (λ zs. has_address zs x) (sym (append_assoc a (y ∷ []) (fresh (a ++ y ∷ []) xs))) ∙ ih (a ++ y ∷ []) x ∙ ap (λ zs. has_address zs x) (append_assoc a (y ∷ []) xs)

pub fresh_set : (a xs : List (List ℕ)) → SameSet (a ++ fresh a xs) (a ++ xs)
fresh_set a [] = λ x. refl
fresh_set a (y ∷ xs) = fresh_case a xs y (has_address a y) refl (λ b. fresh_set b xs)

pub same_addresses : (class : Class) (xs : List (List ℕ)) → addresses (map (recipient class) xs) ≡ xs
same_addresses class [] = refl
same_addresses class (x ∷ xs) = ap (λ ys. x ∷ ys) (same_addresses class xs)

pub recipients_are : (to copies : List (List ℕ)) → with_recipients Copy (with_recipients Primary [] to) copies ≡ recipients_of to copies
unfolding recipients_of
recipients_are to copies =
    rw (added_all Primary [] to) (added_all Copy (map (recipient Primary) (fresh [] to)) copies
    ∙ rw (same_addresses Primary (fresh [] to), fresh_same (fresh [] to) to copies (fresh_set [] to)) refl)
