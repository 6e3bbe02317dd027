-- A path and recipients of whom each stands among the others are the same set of addresses.
use Rattle.std.proofs.Common.{◌≡◌, ℕ, List, [], ◌∷◌, Bool, true, false, ◌||◌, map, inl, inr, refl, ap, sym, ◌∙◌}
use Rattle.std.proofs.Math.Bool.{or-true}
use Rattle.std.proofs.lemmas.Bool.{and_parts, and_from, or_cases}
use Rattle.std.proofs.lemmas.List.Folds.{list_all-map}
use Rattle.std.proofs.lemmas.Slice.Eq.{bytes_eq-Decides}
use Rattle.std.specs.List.{list_all}
use Rattle.std.specs.Str.{bytes_eq}
use Rattle.pec_types.specs.declared.messages.Recipient.{Recipient}
use Rattle.pec_heads.specs.FactsOfHeads.{has_address}
use Rattle.pec_points.specs.AdmissionReading.{has_recipient, is_path_of}

all_pass : (p : List ℕ → Bool) (xs : List (List ℕ)) (x : List ℕ) → list_all p xs ≡ true → has_address xs x ≡ true → p x ≡ true
all_pass p [] x h e = absurd cc
all_pass p (y ∷ xs) x h e =
    let parts = and_parts (p y) (list_all p xs) h
    in elim (or_cases (bytes_eq y x) (has_address xs x) e) [
      | inl same ↦ rw ((bytes_eq-Decides y x).0 same) at parts.0
      | inr more ↦ all_pass p xs x parts.1 more
    ]

there_too : (a b : Bool) → b ≡ true → (a || b) ≡ true
there_too a b e = rw e (or-true a)

first_there : (x : List ℕ) (xs : List (List ℕ)) → has_address (x ∷ xs) x ≡ true
first_there x xs = rw ((bytes_eq-Decides x x).1 refl) refl

pass_all : (p : List ℕ → Bool) (xs : List (List ℕ)) → ((x : List ℕ) → has_address xs x ≡ true → p x ≡ true) → list_all p xs ≡ true
pass_all p [] h = refl
pass_all p (x ∷ xs) h =
    and_from (p x) (list_all p xs) (h x (first_there x xs)) (pass_all p xs (λ y e. h y (there_too (bytes_eq x y) (has_address xs y) e)))

both_or_none : (a b : Bool) → (a ≡ true → b ≡ true) → (b ≡ true → a ≡ true) → a ≡ b
both_or_none true b h k = sym (h refl)
both_or_none false true h k = k refl
both_or_none false false h k = refl

addresses : List Recipient → List (List ℕ)
addresses recipients = map (λ r. r.address) recipients

there_is : (recipients : List Recipient) (x : List ℕ) → has_recipient recipients x ≡ has_address (addresses recipients) x
unfolding addresses
there_is [] x = refl
there_is (r ∷ recipients) x = ap (λ t. bytes_eq r.address x || t) (there_is recipients x)

all_there : (p : List ℕ → Bool) (recipients : List Recipient) → list_all (λ r. p r.address) recipients ≡ list_all p (addresses recipients)
unfolding addresses
all_there p recipients = sym (list_all-map p (λ (r : Recipient). r.address) recipients)

pub path_is_set : (path : List (List ℕ)) (recipients : List Recipient) → is_path_of path recipients ≡ true
    → (x : List ℕ) → has_address path x ≡ has_recipient recipients x
unfolding is_path_of
path_is_set path recipients e x =
    let parts = and_parts (list_all (λ r. has_address path r.address) recipients) (list_all (λ y. has_recipient recipients y) path) e
    in both_or_none (has_address path x) (has_recipient recipients x)
    (λ h. all_pass (λ y. has_recipient recipients y) path x parts.1 h)
    (λ h. all_pass (λ y. has_address path y) (addresses recipients) x (sym (all_there (λ y. has_address path y) recipients) ∙ parts.0) (sym (there_is recipients x) ∙ h))

pub set_is_path : (path : List (List ℕ)) (recipients : List Recipient) → ((x : List ℕ) → has_address path x ≡ has_recipient recipients x)
    → is_path_of path recipients ≡ true
unfolding is_path_of
set_is_path path recipients same =
    and_from (list_all (λ r. has_address path r.address) recipients) (list_all (λ y. has_recipient recipients y) path)
    (all_there (λ y. has_address path y) recipients
    ∙ pass_all (λ y. has_address path y) (addresses recipients) (λ x h. same x ∙ there_is recipients x ∙ h))
    (pass_all (λ y. has_recipient recipients y) path (λ x h. sym (same x) ∙ h))
