-- Texts that are cut at each of their separators, as a line is cut at its spaces and a path at its commas: `IsCut`. This
-- project's profile.
use Rattle.std.specs.Prelude.{◌≡◌, ◌≢◌, ℕ, ◌+◌, ◌<◌, Bool, ◌==◌, List, [], length, Option, None, Some}
use Rattle.std.specs.List.{AllByRecursion, join_with_byte, slice_split}
use Rattle.pec_types.specs.Bytes.{Bytes}

-- no byte is this one
abbrev pub Lacks : ℕ → Bytes → Type 0
Lacks separator bytes = AllByRecursion (λ b. b ≢ separator) bytes

-- The text is these parts: one or more of them, with one separator between each two and none in a part.
pub record IsCut (separator : ℕ) (text : Bytes) (parts : List Bytes) : Type 0 where
  pub some : 0 < length parts
  pub joined : text ≡ join_with_byte separator parts
  pub whole : AllByRecursion (Lacks separator) parts

-- the same as a test, for whoever goes through the text
abbrev pub is_at : ℕ → ℕ → Bool
is_at separator b = b == separator

-- ---- what is left of a text behind its first part

-- the parts that are left
abbrev pub parts_behind : ℕ → Option Bytes → List Bytes
parts_behind separator None = []
parts_behind separator (Some rest) = slice_split (is_at separator) rest

-- how many bytes are left, one more for the separator or the end before them
abbrev pub size_left : Option Bytes → ℕ
size_left None = 0
size_left (Some rest) = length rest + 1
