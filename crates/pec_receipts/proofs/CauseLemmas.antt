-- What comes to the same on all causes, by going through them, comes to the same on each.
use Rattle.std.proofs.Common.{◌≡◌, ◌-◌, List, map, Option, Some, slice_get, option_map, refl, ap, sym, ◌∙◌}
use Rattle.std.proofs.lemmas.Option.{same_Some, slice_get-map}
use Rattle.pec_types.specs.Words.{all_causes, cause_number}
use Rattle.pec_types.specs.declared.messages.Cause.{Cause}

-- each cause stands at its place among all
abbrev pub HavePlaces : Type 0
HavePlaces = (cause : Cause) → slice_get all_causes (cause_number cause - 1) ≡ Some cause

pub each_cause : HavePlaces → {X : Type 0} (one other : Cause → X) → map one all_causes ≡ map other all_causes → (cause : Cause)
    → one cause ≡ other cause
each_cause places {X} one other same cause =
    let place = cause_number cause - 1 in
    same_Some (one cause) (other cause)
    (sym (ap (option_map one) (places cause)) ∙ sym (slice_get-map one all_causes place)
    ∙ ap (λ (all : List X). slice_get all place) same ∙ slice_get-map other all_causes place ∙ ap (option_map other) (places cause))
