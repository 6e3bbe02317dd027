-- What screens find in a message. The headlines are `IsRule`, what one screen finds, and `IsVerdict`, what a list of them
-- finds together; `counted` is how often a screen was asked, after once more.
use Rattle.std.specs.Prelude.{◌≡◌, ℕ, ◌+◌, ◌-◌, ◌^◌, ◌<◌, List, Some, min, slice_get}
use Rattle.pec_types.specs.Bytes.{Bytes}
use Rattle.pec_screen.specs.Occurrence.{Occurs}

-- the patterns of a screen, in their order: pattern number n, from 0, is its rule n
abbrev pub Patterns : Type 0
Patterns = List Bytes

-- no pattern of the screen occurs in the message
abbrev pub FindsNone : Patterns → Bytes → Type 0
FindsNone patterns message = (k : ℕ) (pattern : Bytes) → slice_get patterns k ≡ Some pattern → ¬ Occurs pattern message

-- The rule that a screen finds in a message: the least number of a pattern that occurs there.
pub record IsRule (patterns : Patterns) (message : Bytes) (rule : ℕ) : Type 0 where
  -- the pattern of this number occurs
  pub pattern : Bytes
  pub there : slice_get patterns rule ≡ Some pattern
  pub occurs : Occurs pattern message
  -- none of a lesser number does
  pub least : (k : ℕ) (earlier : Bytes) → k < rule → slice_get patterns k ≡ Some earlier → ¬ Occurs earlier message

-- no screen of the list finds a rule in the message
abbrev pub AllFindNone : List Patterns → Bytes → Type 0
AllFindNone boxes message = (k : ℕ) (patterns : Patterns) → slice_get boxes k ≡ Some patterns → FindsNone patterns message

-- The verdict of a list of screens: the place of the first box that finds a rule, from 0, and the rule that it finds.
pub record IsVerdict (boxes : List Patterns) (message : Bytes) (place rule : ℕ) : Type 0 where
  -- the box at this place finds this rule
  pub patterns : Patterns
  pub there : slice_get boxes place ≡ Some patterns
  pub finds : IsRule patterns message rule
  -- no box before it finds one
  pub first : (k : ℕ) (earlier : Patterns) → k < place → slice_get boxes k ≡ Some earlier → FindsNone earlier message

-- how often a screen was asked, after it is asked once more: the greatest number of 64 bits is the last
abbrev pub counted : ℕ → ℕ
counted seen = min (seen + 1) (2 ^ 64 - 1)
