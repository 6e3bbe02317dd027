-- What the screens of providers find in a message, each provider having screens of its own: `finds_in`.
use Rattle.std.specs.Prelude.{ℕ, Bool, false, List, slice_get, Option, None, Some}
use Rattle.pec_types.specs.Bytes.{Bytes}
use Rattle.pec_screen.specs.VerdictReading.{finds}
use Rattle.pec_screen.specs.Verdicts.{Patterns}

-- Whether some screen of a provider, by its number, finds a rule in a message. As long as screens keep what they look for
-- it is the same.
abbrev pub Finds : Type 0
Finds = ℕ → Bytes → Bool

abbrev pub finds_by : Option (List Patterns) → Bytes → Bool
finds_by None message = false
finds_by (Some boxes) message = finds boxes message

-- What screens find whose boxes have these patterns, a list for each provider from 0 on. A provider without a list has no
-- screens.
unfoldable pub finds_in : List (List Patterns) → Finds
finds_in screens provider message = finds_by (slice_get screens provider) message
