-- What the screens of providers have, a list for each provider: `lists_of`. This project's profile.
use Rattle.std.specs.Prelude.{List, map}
use Rattle.pec_screen.specs.Perhaps.{all_of}
use Rattle.pec_screen.specs.declared.perhaps.Perhaps.{Perhaps}

-- what each of these judges has, where it is one, and an empty list where it is none
abbrev pub lists_of : {J X : Type 0} → (J → List X) → List (Perhaps J) → List (List X)
lists_of {J} had judges = map (λ (perhaps : Perhaps J). all_of had perhaps.judge) judges
