-- The functions that the code follows: `rule_in` is the rule of `IsRule`, and `verdict` the answer of `IsVerdict`;
-- `finds` is whether there is one.
use Rattle.std.specs.Prelude.{ℕ, suc, Bool, List, [], ◌∷◌, Option, Some, None, is_some, option_map, position}
use Rattle.pec_types.specs.Bytes.{Bytes}
use Rattle.pec_screen.specs.Occurrence.{occurs}
use Rattle.pec_screen.specs.Verdicts.{Patterns}

-- the rule that a screen of these patterns finds in the message
unfoldable pub rule_in : Patterns → Bytes → Option ℕ
rule_in patterns message = position (λ pattern. occurs pattern message) patterns

-- what a list of boxes says, where the first box found this and the others say that, counted from 0
abbrev pub first_verdict : Option ℕ → Option (ℕ × ℕ) → Option (ℕ × ℕ)
first_verdict (Some rule) others = Some (0, rule)
first_verdict None others = option_map (λ found. (suc found.0, found.1)) others

-- the verdict of boxes with these patterns on the message: the place of a box, and its rule
abbrev pub verdict : List Patterns → Bytes → Option (ℕ × ℕ)
verdict [] message = None
verdict (patterns ∷ boxes) message = first_verdict (rule_in patterns message) (verdict boxes message)

-- whether some box with these patterns finds a rule in the message
unfoldable pub finds : List Patterns → Bytes → Bool
finds boxes message = is_some (verdict boxes message)
