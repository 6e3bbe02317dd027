-- A loop that reads a part so many times and keeps what it read, a turn at a time.
use Rattle.std.proofs.Common.{◌≡◌, ℕ, zero, suc, ◌-◌, ◌<◌, ◌≤◌, List, [], ◌∷◌, ◌++◌, Ok, Err, refl, sym, ap, ◌∙◌, arith, append_assoc}
use Rattle.std.proofs.lemmas.List.{append-nil}
use Rattle.pec_grammar.specs.Grammar.{Cursor, Read, ◌>>=◌}
use Rattle.pec_grammar.specs.Dependent.{times_at}

-- what is read is behind what was read before
abbrev pub before_all : {A : Type 0} → List A → Read (List A) → Read (List A)
before_all xs r = r >>= λ p. Ok (xs ++ p.0, p.1)

pub before_nothing : {A : Type 0} (r : Read (List A)) → r ≡ before_all [] r
before_nothing (Ok taken) = refl
before_nothing (Err stop) = refl

pub before_more : {A : Type 0} (xs : List A) (x : A) (r : Read (List A)) → before_all xs (r >>= λ p. Ok (x ∷ p.0, p.1)) ≡ before_all (xs ++ x ∷ []) r
before_more xs x (Ok taken) = ap (λ z. Ok (z, taken.1)) (sym (append_assoc xs (x ∷ []) taken.0))
before_more xs x (Err stop) = refl

pub before_end : {A : Type 0} (xs : List A) (at : Cursor) → before_all xs (Ok ([], at)) ≡ Ok (xs, at)
before_end xs at = ap (λ z. Ok (z, at)) (append-nil xs)

module _ {A : Type 0} (reader : Cursor → Read A) where
  next_is : (left : ℕ) (at : Cursor) → 0 < left → times_at reader left at ≡ (reader at >>= λ x. times_at reader (left - 1) x.1 >>= λ xs. Ok (x.0 ∷ xs.0, xs.1))
  unfolding times_at
  next_is zero at lt = absurd (omega arith)
  next_is (suc left) at lt = let e : suc left - 1 ≡ left = omega arith in rw e refl

  pub times_goes_on : (left : ℕ) (at after : Cursor) (xs : List A) (x : A) (total : Read (List A)) → 0 < left → reader at ≡ Ok (x, after)
      → total ≡ before_all xs (times_at reader left at) → total ≡ before_all (xs ++ x ∷ []) (times_at reader (left - 1) after)
  times_goes_on left at after xs x total lt read so_far =
      so_far ∙ (ap (λ r. before_all xs r) (next_is left at lt ∙ ap (λ r. r >>= λ x. times_at reader (left - 1) x.1 >>= λ xs. Ok (x.0 ∷ xs.0, xs.1)) read)
      ∙ before_more xs x (times_at reader (left - 1) after))

  pub times_stops : (left : ℕ) (at : Cursor) (xs : List A) (stop : List ℕ) (total : Read (List A)) → 0 < left → reader at ≡ Err stop
      → total ≡ before_all xs (times_at reader left at) → total ≡ Err stop
  times_stops left at xs stop total lt read so_far =
      so_far ∙ ap (λ r. before_all xs r) (next_is left at lt ∙ ap (λ r. r >>= λ x. times_at reader (left - 1) x.1 >>= λ xs. Ok (x.0 ∷ xs.0, xs.1)) read)

  pub times_ends : (left : ℕ) (at : Cursor) (xs : List A) (total : Read (List A)) → left ≤ 0 → total ≡ before_all xs (times_at reader left at) → total ≡ Ok (xs, at)
  unfolding times_at
  times_ends zero at xs total le so_far = so_far ∙ before_end xs at
  times_ends (suc left) at xs total le so_far = absurd (omega arith)
