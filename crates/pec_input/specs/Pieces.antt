-- Bytes up to their first line feed, which are moved to a line in one piece.
use Rattle.std.specs.Prelude.{ℕ, ◌==◌, Bool, [], ◌∷◌, if◌then◌else◌}
use Rattle.std.specs.List.{list_any}
use Rattle.pec_types.specs.Bytes.{Bytes, line_feed}

abbrev pub is_feed : ℕ → Bool
is_feed b = b == line_feed

-- the bytes up to the first line feed, and this too; all of them where there is none
abbrev pub first_piece : Bytes → Bytes
first_piece [] = []
first_piece (b ∷ bs) = if b == line_feed then b ∷ [] else b ∷ first_piece bs

abbrev pub after_piece : Bytes → Bytes
after_piece [] = []
after_piece (b ∷ bs) = if b == line_feed then bs else after_piece bs

abbrev pub has_feed : Bytes → Bool
has_feed bytes = list_any is_feed bytes
