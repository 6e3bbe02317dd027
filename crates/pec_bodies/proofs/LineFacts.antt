-- What the public laws of pec_heads say of lines, as these proofs take it.
use Rattle.std.proofs.Common.{◌≡◌, ℕ, ◌+◌, List, [], ◌∷◌, ◌++◌, length}
use Rattle.std.specs.List.{flat_map}
use Rattle.pec_heads.specs.Lines.{AllHaveNoFeed, HasNoFeed, content_of, ended, last_piece, size, whole_lines}

-- `lines_have_their_size`
pub record Sizes : Type 0 where
  pub several : (lines others : List (List ℕ)) → size (lines ++ others) ≡ size lines + size others
  pub text : (text : List ℕ) → size (whole_lines text) + length (last_piece text) ≡ length text

-- `lines_are_the_text`
pub record Lines : Type 0 where
  pub next_returned : (line more : List ℕ) → HasNoFeed line → whole_lines (line ++ 13 ∷ 10 ∷ more) ≡ (line ++ 13 ∷ []) ∷ whole_lines more
  pub several : (lines : List (List ℕ)) (more : List ℕ) → AllHaveNoFeed lines → whole_lines (flat_map ended lines ++ more) ≡ lines ++ whole_lines more
  pub lines_have_none : (text : List ℕ) → AllHaveNoFeed (whole_lines text)
  pub behind : (text : List ℕ) → text ≡ flat_map ended (whole_lines text) ++ last_piece text
  pub piece : (text : List ℕ) → HasNoFeed (last_piece text)
  pub returned : (line : List ℕ) → content_of (line ++ 13 ∷ []) ≡ line
