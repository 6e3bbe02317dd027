-- The least free number: what the search finds is the least one, and there is one among the numbers below 2^64.
use Rattle.std.proofs.Common.{◌≡◌, ℕ, zero, suc, ◌+◌, ◌^◌, ◌<◌, ◌≤◌, Bool, true, false, ltb, cond, List, Option, Some, None, refl, sym, ◌∙◌, ap, arith}
use Rattle.std.proofs.lemmas.Bool.{ltb-true, ltb-false}
use Rattle.std.specs.Option.{option_map}
use Rattle.pec_bodies.proofs.AnswerLemmas.{some_is}
use Rattle.pec_bodies.proofs.LineFacts.{Sizes}
use Rattle.pec_bodies.proofs.TakenLaws.{all_taken, room_for_le}
use Rattle.pec_bodies.specs.Composing.{IsComposed, IsLeastFree, boundary_number, bytes_of, composed_body, composed_number, free_from, boundary_taken, joined_parts}
use Rattle.pec_bodies.specs.Numbers.{room_for}

abbrev IsTaken : List (List ℕ) → ℕ → Type 0
IsTaken parts k = boundary_taken (boundary_number k) parts ≡ true

abbrev IsFree : List (List ℕ) → ℕ → Type 0
IsFree parts k = boundary_taken (boundary_number k) parts ≡ false

-- from a number up to another each one is taken
abbrev AllTaken : List (List ℕ) → ℕ → ℕ → Type 0
AllTaken parts from to = (k : ℕ) → from ≤ k → k < to → IsTaken parts k

all_later : (parts : List (List ℕ)) (from to : ℕ) → IsTaken parts from → AllTaken parts (from + 1) to → AllTaken parts from to
all_later parts from to first later = λ k over below. by_place parts from to k first later over below (ltb from k) refl
  where
    by_place : (parts : List (List ℕ)) (from to k : ℕ) → IsTaken parts from → AllTaken parts (from + 1) to → from ≤ k → k < to → (t : Bool) → ltb from k ≡ t → IsTaken parts k
    by_place parts from to k first later over below true e = let behind : from < k = ltb-true from k e in later k (omega arith) below
    by_place parts from to k first later over below false e =
        let before : k ≤ from = ltb-false from k e
        in let same : k ≡ from = omega arith
        in ap (λ j. boundary_taken (boundary_number j) parts) same ∙ first

-- ---- the search

record Found (more from : ℕ) (parts : List (List ℕ)) (n : ℕ) : Type 0 where
  over : from ≤ n
  below : n < from + more
  free : IsFree parts n
  least : AllTaken parts from n

found : (more from : ℕ) (parts : List (List ℕ)) (n : ℕ) → free_from more from parts ≡ Some n → Found more from parts n
unfolding free_from
found zero from parts n e = absurd cc
found (suc more) from parts n e = found_step more from parts n (boundary_taken (boundary_number from) parts) refl e (found more (from + 1) parts n)
  where
    found_step : (more from : ℕ) (parts : List (List ℕ)) (n : ℕ) (t : Bool) → boundary_taken (boundary_number from) parts ≡ t → cond t (free_from more (from + 1) parts) (Some from) ≡ Some n
        → (free_from more (from + 1) parts ≡ Some n → Found more (from + 1) parts n) → Found (suc more) from parts n
    found_step more from parts n true taken e later =
        let h : Found more (from + 1) parts n = later e
        in let over : from + 1 ≤ n = h.over
        in let below : n < from + 1 + more = h.below
        in record { over = omega arith; below = omega arith; free = h.free; least = all_later parts from n taken h.least }
    found_step more from parts n false free e later =
        let same : from ≡ n = some_is from n e
        in record {
          over = omega arith;
          below = omega arith;
          free = ap (λ k. boundary_taken (boundary_number k) parts) (sym same) ∙ free;
          least = λ k over below. absurd (omega arith);
        }

found_again : (more from : ℕ) (parts : List (List ℕ)) (n : ℕ) → from ≤ n → n < from + more → IsFree parts n → AllTaken parts from n → free_from more from parts ≡ Some n
unfolding free_from
found_again zero from parts n over below free least = absurd (omega arith)
found_again (suc more) from parts n over below free least =
    again_step more from parts n over free least (λ behind. found_again more (from + 1) parts n (omega arith) (omega arith) free (λ k o b. least k (omega arith) b)) (ltb from n) refl
  where
    again_step : (more from : ℕ) (parts : List (List ℕ)) (n : ℕ) → from ≤ n → IsFree parts n → AllTaken parts from n → (from < n → free_from more (from + 1) parts ≡ Some n)
        → (t : Bool) → ltb from n ≡ t → cond (boundary_taken (boundary_number from) parts) (free_from more (from + 1) parts) (Some from) ≡ Some n
    again_step more from parts n over free least later true e =
        let behind : from < n = ltb-true from n e
        in ap (λ t. cond t (free_from more (from + 1) parts) (Some from)) (least from (omega arith) behind) ∙ later behind
    again_step more from parts n over free least later false e =
        let before : n ≤ from = ltb-false from n e
        in let same : from ≡ n = omega arith
        in ap (λ t. cond t (free_from more (from + 1) parts) (Some from)) (ap (λ k. boundary_taken (boundary_number k) parts) same ∙ free) ∙ ap Some same

found_none : (more from : ℕ) (parts : List (List ℕ)) → free_from more from parts ≡ None → AllTaken parts from (from + more)
unfolding free_from
found_none zero from parts e = λ k over below. absurd (omega arith)
found_none (suc more) from parts e = none_step more from parts (boundary_taken (boundary_number from) parts) refl e (found_none more (from + 1) parts)
  where
    none_step : (more from : ℕ) (parts : List (List ℕ)) (t : Bool) → boundary_taken (boundary_number from) parts ≡ t → cond t (free_from more (from + 1) parts) (Some from) ≡ None
        → (free_from more (from + 1) parts ≡ None → AllTaken parts (from + 1) (from + 1 + more)) → AllTaken parts from (from + suc more)
    none_step more from parts true taken e later =
        all_later parts from (from + suc more) taken (λ k over below. later e k over (omega arith))
    none_step more from parts false free e later = absurd cc

-- ---- from 0 on

least_of : (limit : ℕ) (parts : List (List ℕ)) (n : ℕ) → free_from limit 0 parts ≡ Some n → (n < limit) × (IsFree parts n × ((k : ℕ) → k < n → IsTaken parts k))
least_of limit parts n e =
    let h = found limit 0 parts n e
    in let below : n < 0 + limit = h.below
    in (omega arith, (h.free, λ k under. h.least k (omega arith) under))

least_again : (limit : ℕ) (parts : List (List ℕ)) (n : ℕ) → n < limit → IsFree parts n → ((k : ℕ) → k < n → IsTaken parts k) → free_from limit 0 parts ≡ Some n
least_again limit parts n below free least = found_again limit 0 parts n (omega arith) (omega arith) free (λ k over under. least k under)

none_of : (limit : ℕ) (parts : List (List ℕ)) → free_from limit 0 parts ≡ None → (k : ℕ) → k < limit → IsTaken parts k
none_of limit parts e = λ k below. found_none limit 0 parts e k (omega arith) (omega arith)

-- ---- the law

number_says : (parts : List (List ℕ)) (n : ℕ) → composed_number parts ≡ Some n → IsLeastFree parts n
unfolding composed_number
number_says parts n e = let h = least_of (2 ^ 64) parts n e in record { fits = h.0; free = h.1.0; least = h.1.1 }

pub number_again : (parts : List (List ℕ)) (n : ℕ) → IsLeastFree parts n → composed_number parts ≡ Some n
unfolding composed_number
number_again parts n h = least_again (2 ^ 64) parts n h.fits h.free h.least

none_says : (parts : List (List ℕ)) → composed_number parts ≡ None → (k : ℕ) → k < 2 ^ 64 → IsTaken parts k
unfolding composed_number
none_says parts e = none_of (2 ^ 64) parts e

pub number_is : (parts : List (List ℕ)) (n : ℕ) → (composed_number parts ≡ Some n → IsLeastFree parts n) × (IsLeastFree parts n → composed_number parts ≡ Some n)
number_is parts n = (number_says parts n, number_again parts n)

body_again : (parts : List (List ℕ)) (n : ℕ) → composed_number parts ≡ Some n → composed_body parts ≡ Some (joined_parts (boundary_number n) parts)
unfolding composed_body
body_again parts n e = ap (λ o. option_map (λ k. joined_parts (boundary_number k) parts) o) e

pub composed_again : (parts : List (List ℕ)) (n : ℕ) (body : List ℕ) → IsComposed parts n body → (composed_number parts ≡ Some n) × (composed_body parts ≡ Some body)
composed_again parts n body h = let e = number_again parts n h.number in (e, body_again parts n e ∙ ap Some (sym h.body_is))

pub body_is : (parts : List (List ℕ)) (n : ℕ) (body : List ℕ)
    → ((composed_number parts ≡ Some n) × (composed_body parts ≡ Some body) → IsComposed parts n body) × (IsComposed parts n body → (composed_number parts ≡ Some n) × (composed_body parts ≡ Some body))
body_is parts n body = (
  λ h. record { number = number_says parts n h.0; body_is = some_is body (joined_parts (boundary_number n) parts) (sym h.1 ∙ body_again parts n h.0) },
  composed_again parts n body,
)

-- ---- existence

too_many : (limit room bytes : ℕ) → limit ≤ room → room ≤ bytes → bytes < limit → ⊥
too_many limit room bytes a b c = omega arith

at_most : (n room bytes : ℕ) → n ≤ room → room ≤ bytes → n ≤ bytes
at_most n room bytes a b = omega arith

fits_le : (n limit : ℕ) → n < limit → n ≤ limit
fits_le n limit h = omega arith

le_same : (n : ℕ) → n ≤ n
le_same n = omega arith

pub number_there : Sizes → (parts : List (List ℕ)) → bytes_of parts < 2 ^ 64 → (n : ℕ) × ((composed_number parts ≡ Some n) × (n ≤ bytes_of parts))
number_there sizes parts small = by_search sizes parts small (composed_number parts) refl
  where
    by_search : Sizes → (parts : List (List ℕ)) → bytes_of parts < 2 ^ 64 → (o : Option ℕ) → composed_number parts ≡ o → (n : ℕ) × ((composed_number parts ≡ Some n) × (n ≤ bytes_of parts))
    by_search sizes parts small None e =
        absurd (too_many (2 ^ 64) (room_for parts) (bytes_of parts) (all_taken parts (2 ^ 64) (le_same (2 ^ 64)) (none_says parts e)) (room_for_le sizes parts) small)
    by_search sizes parts small (Some n) e =
        let h = number_says parts n e
        in (n, (e, at_most n (room_for parts) (bytes_of parts) (all_taken parts n (fits_le n (2 ^ 64) h.fits) h.least) (room_for_le sizes parts)))
