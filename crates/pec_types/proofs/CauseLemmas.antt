-- What goes for all causes goes for each.
use Rattle.std.proofs.Common.{◌≡◌, ℕ, zero, suc, ◌-◌, [], ◌∷◌, Bool, true, List, map, Option, Some, refl, ap, sym, ◌∙◌}
use Rattle.std.specs.Prelude.{slice_get}
use Rattle.std.specs.List.{list_all}
use Rattle.std.specs.Option.{option_map}
use Rattle.std.proofs.lemmas.Bool.{and_parts}
use Rattle.std.proofs.lemmas.Option.{slice_get-map}
use Rattle.pec_types.specs.Words.{all_causes, cause_number}
use Rattle.pec_types.specs.declared.messages.Cause.{Cause}
use Rattle.pec_types.specs.declared.messages.Cause.TheVariants as causes

abbrev place : Cause → ℕ
place cause = cause_number cause - 1

-- each cause stands at its place
pub by_place : (cause : Cause) → slice_get all_causes (place cause) ≡ Some cause
by_place causes.Head = refl
by_place other = refl

same_some : {X : Type 0} (one other : X) → Some one ≡ Some other → one ≡ other
same_some one other e = cc

-- Two functions that come to the same on the list come to the same on each cause.
each_cause : {X : Type 0} (one other : Cause → X) → map one all_causes ≡ map other all_causes → (cause : Cause)
    → one cause ≡ other cause
each_cause {X} one other same cause =
    let there = by_place cause in
    same_some (one cause) (other cause)
    (sym (ap (option_map one) there) ∙ sym (slice_get-map one all_causes (place cause))
    ∙ ap (λ (all : List X). slice_get all (place cause)) same ∙ slice_get-map other all_causes (place cause)
    ∙ ap (option_map other) there)

pub found : (find : Cause → Option Cause) → map find all_causes ≡ map Some all_causes → (cause : Cause) → find cause ≡ Some cause
found find same cause = each_cause find (λ (one : Cause). Some one) same cause

-- where all pass, so does each
passes_at : (test : Cause → Bool) (causes : List Cause) (place : ℕ) (cause : Cause) → list_all test causes ≡ true
    → slice_get causes place ≡ Some cause → test cause ≡ true
passes_at test [] place cause all there = absurd cc
passes_at test (c ∷ cs) zero cause all there = ap test (sym (same_some c cause there)) ∙ (and_parts (test c) (list_all test cs) all).0
passes_at test (c ∷ cs) (suc place) cause all there = passes_at test cs place cause (and_parts (test c) (list_all test cs) all).1 there

pub passes : (test : Cause → Bool) → list_all test all_causes ≡ true → (cause : Cause) → test cause ≡ true
passes test all cause = passes_at test all_causes (place cause) cause all (by_place cause)
