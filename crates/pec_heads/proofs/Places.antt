-- `position` and what stands before the place that it gives.
use Rattle.std.proofs.Common.{◌≡◌, ℕ, ◌+◌, ◌<◌, IfSome, Option, get_or, List, [], ◌∷◌, ◌++◌, Bool, true, false, not, cond, length, Some, None, refl, ap, sym, ◌∙◌, arith}
use Rattle.std.proofs.lemmas.Bool.{and_parts, and_from, le-ltb, lt-ltb, not-true}
use Rattle.std.proofs.lemmas.List.Sums.{position_or_len_is}
use Rattle.std.specs.List.{position_from, position, list_all}
use Rattle.std.proofs.lemmas.Iterator.Adapters.{position_from-zero}
use Rattle.memchr.specs.Find.{IsFirstByte}
use Rattle.pec_heads.specs.Bytes.{NonePass, FirstOf}
use Rattle.pec_heads.proofs.Tools.{some_is}

pub record IsFound (p : ℕ → Bool) (i : ℕ) (xs : List ℕ) (k : ℕ) : Type 0 where
  pub front : List ℕ
  pub first : FirstOf p xs front
  pub place : k ≡ i + length front

onto_found : (p : ℕ → Bool) (i x : ℕ) (xs : List ℕ) (k : ℕ) → p x ≡ false → IsFound p (i + 1) xs k → IsFound p i (x ∷ xs) k
onto_found p i x xs k fails f = record {
  front = x ∷ f.front;
  first = record { byte = f.first.byte; back = f.first.back; parts = ap (λ ys. x ∷ ys) f.first.parts; passes = f.first.passes; before = and_from _ _ (ap not fails) f.first.before };
  place = omega (arith, f.place);
}

found_step : (p : ℕ → Bool) (i x : ℕ) (xs : List ℕ) (k : ℕ) (t : Bool) → p x ≡ t → cond t (Some i) (position_from p (i + 1) xs) ≡ Some k
    → (position_from p (i + 1) xs ≡ Some k → IsFound p (i + 1) xs k) → IsFound p i (x ∷ xs) k
found_step p i x xs k true passes e ih = record {
  front = [];
  first = record { byte = x; back = xs; parts = refl; passes = passes; before = refl };
  place = let e2 : i ≡ k = some_is _ _ e in omega arith;
}
found_step p i x xs k false fails e ih = onto_found p i x xs k fails (ih e)

pub found_from : (p : ℕ → Bool) (i : ℕ) (xs : List ℕ) (k : ℕ) → position_from p i xs ≡ Some k → IsFound p i xs k
found_from p i [] k e = absurd cc
found_from p i (x ∷ xs) k e = found_step p i x xs k (p x) refl e (found_from p (i + 1) xs k)

none_step : (p : ℕ → Bool) (i x : ℕ) (xs : List ℕ) (t : Bool) → p x ≡ t → cond t (Some i) (position_from p (i + 1) xs) ≡ None
    → (position_from p (i + 1) xs ≡ None → NonePass p xs) → NonePass p (x ∷ xs)
none_step p i x xs true passes e ih = absurd cc
none_step p i x xs false fails e ih = and_from _ _ (ap not fails) (ih e)

pub none_from : (p : ℕ → Bool) (i : ℕ) (xs : List ℕ) → position_from p i xs ≡ None → NonePass p xs
none_from p i [] e = refl
none_from p i (x ∷ xs) e = none_step p i x xs (p x) refl e (none_from p (i + 1) xs)

pub again_from : (p : ℕ → Bool) (i : ℕ) (front : List ℕ) (x : ℕ) (back : List ℕ) → NonePass p front → p x ≡ true
    → position_from p i (front ++ x ∷ back) ≡ Some (i + length front)
again_from p i [] x back none passes = rw passes (ap Some (omega arith))
again_from p i (y ∷ front) x back none passes =
    rw (not-true _ (and_parts (not (p y)) (list_all (λ b. not (p b)) front) none).0)
    (again_from p (i + 1) front x back (and_parts (not (p y)) (list_all (λ b. not (p b)) front) none).1 passes ∙ ap Some (omega arith))

pub again_none : (p : ℕ → Bool) (i : ℕ) (xs : List ℕ) → NonePass p xs → position_from p i xs ≡ None
again_none p i [] none = refl
again_none p i (y ∷ xs) none =
    rw (not-true _ (and_parts (not (p y)) (list_all (λ b. not (p b)) xs) none).0) (again_none p (i + 1) xs (and_parts (not (p y)) (list_all (λ b. not (p b)) xs) none).1)

-- the four with `position`

pub first_of : (p : ℕ → Bool) (xs : List ℕ) (k : ℕ) → position p xs ≡ Some k → (front : List ℕ) × (FirstOf p xs front × (k ≡ length front))
first_of p xs k e =
    let f = found_from p 0 xs k (sym (position_from-zero p xs) ∙ e) in (f.front, (f.first, omega (arith, f.place)))

pub none_of : (p : ℕ → Bool) (xs : List ℕ) → position p xs ≡ None → NonePass p xs
none_of p xs e = none_from p 0 xs (sym (position_from-zero p xs) ∙ e)

pub place_again : (p : ℕ → Bool) (xs front : List ℕ) → FirstOf p xs front → position p xs ≡ Some (length front)
place_again p xs front f =
    position_from-zero p xs ∙ ap (position_from p 0) f.parts ∙ again_from p 0 front f.byte f.back f.before f.passes ∙ ap Some (omega arith)

pub no_place : (p : ℕ → Bool) (xs : List ℕ) → NonePass p xs → position p xs ≡ None
no_place p xs none = position_from-zero p xs ∙ again_none p 0 xs none

-- ---- a search by the library

fails : (t : Bool) → (t ≡ true → ⊥) → t ≡ false
fails true n = absurd (n refl)
fails false n = refl

pub by_search : (p : ℕ → Bool) (xs : List ℕ) (r : Option ℕ) → IsFirstByte p xs r → r ≡ position p xs
by_search p xs None h =
    let e = position_or_len_is p xs (length xs) 0 (omega arith) (λ k below. fails (p (get_or xs k 0)) (h k (omega arith) below)) (λ below. absurd (omega (arith, below)))
    in sym (rw (e, le-ltb (length xs) (length xs) (omega arith)) refl)
by_search p xs (Some k) h =
    let e = position_or_len_is p xs k 0 (omega (arith, h.0.high)) (λ j below. fails (p (get_or xs j 0)) (h.0.before j (omega arith) below)) (λ below. h.1)
    in sym (rw (e, lt-ltb k (length xs) h.0.high) refl)

pub below_search : (p : ℕ → Bool) (xs : List ℕ) (r : Option ℕ) → IsFirstByte p xs r → IfSome r (λ at. at < length xs)
below_search p xs None h = tt
below_search p xs (Some k) h = h.0.high
