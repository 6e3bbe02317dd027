-- Boundaries: what a head's first `Content-Type` gives is what `IsBoundary` says, and nothing else is.
use Rattle.std.proofs.Common.{◌≡◌, ℕ, ◌≤◌, List, [], ◌∷◌, Bool, true, false, ◌&&◌, cond, leb, length, Option, Some, None, refl, ap, ◌∙◌}
use Rattle.std.proofs.lemmas.Bool.{and_from, and_parts, le-leb, leb-true}
use Rattle.std.specs.Option.{option_and_then}
use Rattle.std.specs.Prelude.{codes, slice_get}
use Rattle.pec_heads.specs.Heads.{NamedValue, values_of}
use Rattle.pec_bodies.proofs.AnswerLemmas.{some_is}
use Rattle.pec_bodies.proofs.ParameterLaws.{parameter_again, parameter_is}
use Rattle.pec_bodies.specs.Parameters.{HasNoBoundary, IsBoundary, IsParameter, is_multipart}
use Rattle.pec_bodies.specs.ParametersReading.{boundary_in, boundary_of, parameter_of, sized}
use Rattle.pec_bodies.specs.declared.TheConstants.{BOUNDARY_LIMIT}

-- a value that gives a boundary
record GivesBoundary (value boundary : List ℕ) : Type 0 where
  multipart : is_multipart value ≡ true
  parameter : IsParameter (codes "boundary") value boundary
  some : 1 ≤ length boundary
  short : length boundary ≤ BOUNDARY_LIMIT

sized_says : (found boundary : List ℕ) → sized found ≡ Some boundary → (found ≡ boundary) × ((1 ≤ length boundary) × (length boundary ≤ BOUNDARY_LIMIT))
sized_says found boundary e = by_test found boundary (leb 1 (length found) && leb (length found) BOUNDARY_LIMIT) refl e
  where
    by_test : (found boundary : List ℕ) (t : Bool) → (leb 1 (length found) && leb (length found) BOUNDARY_LIMIT) ≡ t → cond t (Some found) None ≡ Some boundary
        → (found ≡ boundary) × ((1 ≤ length boundary) × (length boundary ≤ BOUNDARY_LIMIT))
    by_test found boundary true fits e =
        let p = and_parts (leb 1 (length found)) (leb (length found) BOUNDARY_LIMIT) fits
        in let same : found ≡ boundary = some_is found boundary e
        in (same, rw (← same) (leb-true 1 (length found) p.0, leb-true (length found) BOUNDARY_LIMIT p.1))
    by_test found boundary false fits e = absurd cc

sized_again : (boundary : List ℕ) → 1 ≤ length boundary → length boundary ≤ BOUNDARY_LIMIT → sized boundary ≡ Some boundary
sized_again boundary some short =
    ap (λ t. cond t (Some boundary) None) (and_from (leb 1 (length boundary)) (leb (length boundary) BOUNDARY_LIMIT) (le-leb 1 (length boundary) some) (le-leb (length boundary) BOUNDARY_LIMIT short))

gives : (value boundary : List ℕ) → boundary_in value ≡ Some boundary → GivesBoundary value boundary
gives value boundary e = by_front value boundary (is_multipart value) refl e
  where
    by_found : (value boundary : List ℕ) → is_multipart value ≡ true → (o : Option (List ℕ)) → parameter_of (codes "boundary") value ≡ o
        → option_and_then sized o ≡ Some boundary → GivesBoundary value boundary
    by_found value boundary multipart None f e = absurd cc
    by_found value boundary multipart (Some found) f e =
        let s = sized_says found boundary e
        in record { multipart = multipart; parameter = (parameter_is (codes "boundary") value boundary).0 (f ∙ ap Some s.0); some = s.1.0; short = s.1.1 }

    by_front : (value boundary : List ℕ) (t : Bool) → is_multipart value ≡ t
        → cond t (option_and_then sized (parameter_of (codes "boundary") value)) None ≡ Some boundary → GivesBoundary value boundary
    by_front value boundary true multipart e = by_found value boundary multipart (parameter_of (codes "boundary") value) refl e
    by_front value boundary false multipart e = absurd cc

pub given : (value boundary : List ℕ) → is_multipart value ≡ true → parameter_of (codes "boundary") value ≡ Some boundary
    → 1 ≤ length boundary → length boundary ≤ BOUNDARY_LIMIT → boundary_in value ≡ Some boundary
given value boundary multipart parameter some short =
    ap (λ t. cond t (option_and_then sized (parameter_of (codes "boundary") value)) None) multipart ∙ ap (option_and_then sized) parameter ∙ sized_again boundary some short

pub boundary_says : (head : List NamedValue) (boundary : List ℕ) → boundary_of head ≡ Some boundary → IsBoundary head boundary
unfolding boundary_of
boundary_says head boundary e = by_values head boundary (values_of (codes "Content-Type") head) refl e
  where
    by_values : (head : List NamedValue) (boundary : List ℕ) (values : List (List ℕ)) → values_of (codes "Content-Type") head ≡ values → option_and_then boundary_in (slice_get values 0) ≡ Some boundary
        → IsBoundary head boundary
    by_values head boundary [] v e = absurd cc
    by_values head boundary (value ∷ others) v e =
        let g = gives value boundary e
        in record { value = value; others = others; first = v; multipart = g.multipart; parameter = g.parameter; some = g.some; short = g.short }

pub boundary_again : (head : List NamedValue) (boundary : List ℕ) → IsBoundary head boundary → boundary_of head ≡ Some boundary
unfolding boundary_of
boundary_again head boundary h =
    ap (λ values. option_and_then boundary_in (slice_get values 0)) h.first ∙ given h.value boundary h.multipart (parameter_again (codes "boundary") h.value boundary h.parameter) h.some h.short

pub boundary_is : (head : List NamedValue) (boundary : List ℕ) → (boundary_of head ≡ Some boundary → IsBoundary head boundary) × (IsBoundary head boundary → boundary_of head ≡ Some boundary)
boundary_is head boundary = (boundary_says head boundary, boundary_again head boundary)

none_some : (boundary : List ℕ) (o : Option (List ℕ)) → o ≡ None → o ≡ Some boundary → ⊥
none_some boundary o e h = absurd cc

pub no_boundary_says : (head : List NamedValue) → boundary_of head ≡ None → HasNoBoundary head
no_boundary_says head e = λ boundary h. none_some boundary (boundary_of head) e (boundary_again head boundary h)

pub no_boundary_again : (head : List NamedValue) → HasNoBoundary head → boundary_of head ≡ None
no_boundary_again head h = by_answer head h (boundary_of head) refl
  where
    by_answer : (head : List NamedValue) → HasNoBoundary head → (o : Option (List ℕ)) → boundary_of head ≡ o → boundary_of head ≡ None
    by_answer head h None e = e
    by_answer head h (Some boundary) e = absurd (h boundary (boundary_says head boundary e))

pub no_boundary_is : (head : List NamedValue) → (boundary_of head ≡ None → HasNoBoundary head) × (HasNoBoundary head → boundary_of head ≡ None)
no_boundary_is head = (no_boundary_says head, no_boundary_again head)
