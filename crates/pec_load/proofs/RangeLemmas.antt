-- What is put together number by number.
use Rattle.std.proofs.Common.{◌≡◌, ℕ, zero, suc, ◌+◌, ◌*◌, ◌≤◌, List, [], ◌∷◌, ◌++◌, length, sym, ◌∙◌, ap, arith, append_assoc, append-nil}
use Rattle.std.proofs.lemmas.Grind.{flat_map-append}
use Rattle.std.proofs.lemmas.List.{length-append, map-id}
use Rattle.std.proofs.lemmas.List.FromFn.{map-range_with_len_more}
use Rattle.std.specs.List.{flat_map, range_with_len}

range_more : (n : ℕ) → range_with_len 0 (n + 1) ≡ range_with_len 0 n ++ n ∷ []
range_more n =
    sym (map-id (range_with_len 0 (n + 1)))
    ∙ (map-range_with_len_more (λ (x : ℕ). x) 0 n n (omega arith) ∙ ap (λ xs. xs ++ n ∷ []) (map-id (range_with_len 0 n)))

-- one number more
pub over_more : {A : Type 0} (f : ℕ → List A) (n : ℕ)
    → flat_map f (range_with_len 0 (n + 1)) ≡ flat_map f (range_with_len 0 n) ++ f n
over_more f n =
    ap (flat_map f) (range_more n)
    ∙ (flat_map-append f (range_with_len 0 n) (n ∷ []) ∙ ap (λ ys. flat_map f (range_with_len 0 n) ++ ys) (append-nil (f n)))

-- a text in front, and what is added for one number more
pub behind_more : {A : Type 0} (front old new more : List A) (f : ℕ → List A) (n : ℕ)
    → old ≡ front ++ flat_map f (range_with_len 0 n) → more ≡ f n → new ≡ old ++ more
    → new ≡ front ++ flat_map f (range_with_len 0 (n + 1))
behind_more front old new more f n before is after =
    after
    ∙ (ap (λ t. t ++ more) before
    ∙ (append_assoc front (flat_map f (range_with_len 0 n)) more
    ∙ ap (λ t. front ++ t) (ap (λ t. flat_map f (range_with_len 0 n) ++ t) is ∙ sym (over_more f n))))

-- the same, in two steps: each number adds rows, and each row a text
pub rows_more : {A B : Type 0} (line : A → List B) (rows : ℕ → List A) (n : ℕ) (old new more : List B)
    → old ≡ flat_map line (flat_map rows (range_with_len 0 n)) → more ≡ flat_map line (rows n) → new ≡ old ++ more
    → new ≡ flat_map line (flat_map rows (range_with_len 0 (n + 1)))
rows_more line rows n old new more before is after =
    after
    ∙ (ap (λ t. t ++ more) before
    ∙ (ap (λ t. flat_map line (flat_map rows (range_with_len 0 n)) ++ t) is
    ∙ (sym (flat_map-append line (flat_map rows (range_with_len 0 n)) (rows n))
    ∙ ap (flat_map line) (sym (over_more rows n)))))

-- each number adds so many at most
pub over_few : {A : Type 0} (f : ℕ → List A) (most : ℕ) → ((k : ℕ) → length (f k) ≤ most) → (a n : ℕ)
    → length (flat_map f (range_with_len a n)) ≤ most * n
over_few f most few a zero = omega arith
over_few f most few a (suc n) =
    let rest : length (flat_map f (range_with_len (a + 1) n)) ≤ most * n = over_few f most few (a + 1) n in
    let first : length (f a) ≤ most = few a in
    omega (arith, first, rest, length-append (f a) (flat_map f (range_with_len (a + 1) n)))
