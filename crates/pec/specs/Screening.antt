-- What the screens find that the program hands in, `handed_in`, and its spares, `handed_in_spare`.
use Rattle.std.specs.Prelude.{List, [], ◌∷◌, codes, replicate}
use Rattle.pec_types.specs.Bytes.{Bytes}
use Rattle.pec_screen.specs.Verdicts.{Patterns}

-- the patterns of a screen of one
abbrev pub of_pattern : Bytes → Patterns
of_pattern pattern = pattern ∷ []

-- the screens of one provider: one, of the pattern that stands for a virus in tries of the program
abbrev pub one_screen : List Patterns
one_screen = of_pattern (codes "PEC-VIRUS-DI-PROVA") ∷ []

-- The screens of each of the first sixteen providers.
abbrev pub handed_in : List (List Patterns)
handed_in = replicate 16 one_screen

-- the pattern of the spares, which stands for another virus
abbrev pub other_pattern : Patterns
other_pattern = of_pattern (codes "PEC-VIRUS-DI-PROVA-2")

-- The spares.
abbrev pub handed_in_spare : List Patterns
handed_in_spare = replicate 4 other_pattern
