-- Parts that are repeated: at least once, and in the loop of a reader.
use Rattle.std.proofs.Common.{◌≡◌, ℕ, zero, suc, ◌+◌, ◌<◌, List, [], ◌∷◌, ◌++◌, length, Ok, Err, refl, sym, ap, subst, ◌∙◌, arith, append_assoc, length-append}
use Rattle.std.proofs.lemmas.List.{append-nil}
use Rattle.std.specs.List.{flat_map}
use Rattle.pec_grammar.specs.Grammar.{Cursor, Read, Grammar, ◌>>=◌, both_at, both, seen_at, once_more, many_from, many_at, many, AllOfSome, several}
use Rattle.pec_grammar.proofs.Parts.{Takes, Answers, Lawful}
use Rattle.pec_grammar.proofs.Sequences.{Views, seen_lawful, both_lawful}
use Rattle.pec_grammar.proofs.Alternatives.{Apart, HasByte, many_lawful}

-- At least once.

module _ {A B : Type 0} (g : Grammar A) (h : Grammar B) where
  abbrev gathered : A × (List A × B) → List A × B
  gathered p = (p.0 ∷ p.1.0, p.1.1)

  parted_from : A → List A → B → A × (List A × B)
  parted_from x [] y = (x, ([], y))
  parted_from x (z ∷ zs) y = (z, (zs, y))

  abbrev parted : A → List A × B → A × (List A × B)
  parted x p = parted_from x p.0 p.1

  again_from : (x : A) (xs : List A) (y : B) → AllOfSome g.Fits xs → h.Fits y → (both g (many g h)).Fits (parted_from x xs y)
  unfolding parted_from
  again_from x [] y xs_fit fits = absurd xs_fit
  again_from x (z ∷ zs) y xs_fit fits = (xs_fit.0, (xs_fit.1, fits))

  respelled_from : (x : A) (xs : List A) (y : B) → AllOfSome g.Fits xs → (both g (many g h)).spell (parted_from x xs y) ≡ flat_map g.spell xs ++ h.spell y
  unfolding parted_from
  respelled_from x [] y xs_fit = absurd xs_fit
  respelled_from x (z ∷ zs) y xs_fit = sym (append_assoc (g.spell z) (flat_map g.spell zs) (h.spell y))

  undone_from : (x : A) (xs : List A) (y : B) → AllOfSome g.Fits xs → gathered (parted_from x xs y) ≡ (xs, y)
  unfolding parted_from
  undone_from x [] y xs_fit = absurd xs_fit
  undone_from x (z ∷ zs) y xs_fit = refl

  several_views : (x : A) → Views (both g (many g h)) (several g h) gathered (parted x)
  several_views x = record {
    there = λ p fits. ((fits.0, fits.1.0), fits.1.1);
    spelled = λ p fits. append_assoc (g.spell p.0) (flat_map g.spell p.1.0) (h.spell p.1.1);
    again = λ p fits. again_from x p.0 p.1 fits.0 fits.1;
    respelled = λ p fits. respelled_from x p.0 p.1 fits.0;
    undone = λ p fits. undone_from x p.0 p.1 fits.0;
  }

  last_step : (x : A) (xs : List A) (at c : Cursor) (r : Read B) → both_at (λ _. Ok (x ∷ xs, c)) (λ _. r) at ≡ seen_at gathered (both_at (λ _. Ok (x, c)) (both_at (λ _. Ok (xs, c)) (λ _. r))) at
  last_step x xs at c (Ok b) = refl
  last_step x xs at c (Err stop) = refl

  many_step : (x : A) (at c : Cursor) (r : Read (List A)) → both_at (λ _. r >>= λ xs. Ok (x ∷ xs.0, xs.1)) h.read at ≡ seen_at gathered (both_at (λ _. Ok (x, c)) (both_at (λ _. r) h.read)) at
  many_step x at c (Ok taken) = last_step x taken.0 at taken.1 (h.read taken.1)
  many_step x at c (Err stop) = refl

  several_step : (at : Cursor) (r : Read A) → both_at (λ _. r >>= λ x. many_at g.read x.1 >>= λ xs. Ok (x.0 ∷ xs.0, xs.1)) h.read at ≡ seen_at gathered (both_at (λ _. r) (both_at (many_at g.read) h.read)) at
  several_step at (Ok taken) = many_step taken.0 at taken.1 (many_at g.read taken.1)
  several_step at (Err stop) = refl

  pub several_lawful : Apart g h → HasByte g → Lawful g → Lawful h → Lawful (several g h)
  several_lawful apart some_byte first second =
      seen_lawful (both g (many g h)) (several g h) gathered (parted first.some.0) (several_views first.some.0) (λ at. several_step at (g.read at))
      (both_lawful g (many g h) first (many_lawful g h apart some_byte first second))

-- A loop: what it has so far, and what it is still to read.

abbrev pub before_rest : {A : Type 0} → List A → Read (List A) → Read (List A)
before_rest front r = r >>= λ xs. Ok (front ++ xs.0, xs.1)

pub record SoFar {A : Type 0} (reader : Cursor → Read A) (front : List A) (at : Cursor) (total : Read (List A)) : Type 0 where
  pub steps : ℕ
  pub enough : length at.rest < steps
  pub so_far : before_rest front (many_from reader steps at) ≡ total

module _ {A : Type 0} (reader : Cursor → Read A) where
  begins_with : (at : Cursor) (r : Read (List A)) → before_rest [] r ≡ r
  begins_with at (Ok taken) = refl
  begins_with at (Err stop) = refl

  pub starts : (at : Cursor) → SoFar reader [] at (many_at reader at)
  starts at = record { steps = suc (length at.rest); enough = omega arith; so_far = begins_with at (many_from reader (suc (length at.rest)) at) }

  regroup : (front : List A) (x : A) (r : Read (List A)) → before_rest (front ++ x ∷ []) r ≡ before_rest front (r >>= λ xs. Ok (x ∷ xs.0, xs.1))
  regroup front x (Ok taken) = ap (λ z. Ok (z, taken.1)) (append_assoc front (x ∷ []) taken.0)
  regroup front x (Err stop) = refl

  step_on : (front : List A) (at after : Cursor) (x : A) (n : ℕ) → reader at ≡ Ok (x, after) → before_rest (front ++ x ∷ []) (many_from reader n after) ≡ before_rest front (many_from reader (suc n) at)
  unfolding many_from
  step_on front at after x n read = regroup front x (many_from reader n after) ∙ ap (λ r. before_rest front (once_more r at (many_from reader n))) (sym read)

  step_end : (front : List A) (at : Cursor) (stop : List ℕ) (n : ℕ) → reader at ≡ Err stop → before_rest front (many_from reader (suc n) at) ≡ Ok (front ++ [], record { rest = at.rest; farthest = stop })
  unfolding many_from
  step_end front at stop n read = ap (λ r. before_rest front (once_more r at (many_from reader n))) read

  pub goes_on : (front : List A) (at after : Cursor) (x : A) (total : Read (List A)) → SoFar reader front at total → reader at ≡ Ok (x, after) → length after.rest < length at.rest → SoFar reader (front ++ x ∷ []) after total
  goes_on front at after x total so read less = from_steps so.steps so.enough so.so_far
    where
      from_steps : (n : ℕ) → length at.rest < n → before_rest front (many_from reader n at) ≡ total → SoFar reader (front ++ x ∷ []) after total
      from_steps zero enough so_far = absurd (omega arith)
      from_steps (suc n) enough so_far = record { steps = n; enough = omega arith; so_far = step_on front at after x n read ∙ so_far }

  pub ends_here : (front : List A) (at : Cursor) (stop : List ℕ) (total : Read (List A)) → SoFar reader front at total → reader at ≡ Err stop → total ≡ Ok (front, record { rest = at.rest; farthest = stop })
  ends_here front at stop total so read = from_steps so.steps so.enough so.so_far
    where
      from_steps : (n : ℕ) → length at.rest < n → before_rest front (many_from reader n at) ≡ total → total ≡ Ok (front, record { rest = at.rest; farthest = stop })
      from_steps zero enough so_far = absurd (omega arith)
      from_steps (suc n) enough so_far = sym so_far ∙ (step_end front at stop n read ∙ ap (λ z. Ok (z, record { rest = at.rest; farthest = stop })) (append-nil front))

-- what was read left fewer bytes
pub shrinks : {A : Type 0} (g : Grammar A) → Lawful g → HasByte g → (at after : Cursor) (x : A) → g.read at ≡ Ok (x, after) → length after.rest < length at.rest
shrinks {A} g law some_byte at after x read = from_answer (subst (λ r. Answers g at r) read (law.answers at))
  where
    from_answer : Takes g at x after → length after.rest < length at.rest
    from_answer took =
        let has = some_byte x took.fits in
        let size : length at.rest ≡ length (g.spell x) + length after.rest = ap length took.parts ∙ length-append (g.spell x) after.rest in
        omega arith
