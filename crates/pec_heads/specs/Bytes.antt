-- Blanks at the ends of bytes, and the words on bytes that the other definitions share. The headline is `IsTrimmed`, at
-- the end.
use Rattle.std.specs.Prelude.{◌≡◌, ℕ, ◌-◌, ◌==◌, take, drop, [], ◌∷◌, ◌++◌, Bool, not, true, false, ◌||◌, if◌then◌else◌}
use Rattle.std.specs.List.{list_all}
use Rattle.pec_types.specs.Bytes.{Bytes, tab, space}

-- space and tab (RFC 5322, section 2.2.2: WSP)
abbrev pub is_blank : ℕ → Bool
is_blank b = b == space || b == tab

-- blanks alone, or nothing
abbrev pub AreBlanks : Bytes → Type 0
AreBlanks bytes = list_all is_blank bytes ≡ true

-- the first byte is a blank
abbrev pub begins_blank : Bytes → Bool
begins_blank [] = false
begins_blank (b ∷ bs) = is_blank b

-- no byte passes the test
abbrev pub NonePass : (ℕ → Bool) → Bytes → Type 0
NonePass p bytes = list_all (λ b. not (p b)) bytes ≡ true

-- the bytes from a place up to another, as far as there are any
unfoldable pub part_of : ℕ → ℕ → Bytes → Bytes
part_of from to bytes = take (to - from) (drop from bytes)

-- front is what stands before the first byte that passes the test
pub record FirstOf (p : ℕ → Bool) (bytes front : Bytes) : Type 0 where
  pub byte : ℕ
  pub back : Bytes
  pub parts : bytes ≡ front ++ byte ∷ back
  pub passes : p byte ≡ true
  pub before : NonePass p front

-- the bytes from the first on that is no blank
abbrev pub skip_blanks : Bytes → Bytes
skip_blanks [] = []
skip_blanks (b ∷ bs) = if is_blank b then skip_blanks bs else b ∷ bs

-- b before bytes whose last blanks were cut off; b goes with them where it is a blank and nothing follows
abbrev pub before_cut : ℕ → Bytes → Bytes
before_cut b [] = if is_blank b then [] else b ∷ []
before_cut b (c ∷ bs) = b ∷ c ∷ bs

-- the bytes up to the last that is no blank
abbrev pub cut_blanks : Bytes → Bytes
cut_blanks [] = []
cut_blanks (b ∷ bs) = before_cut b (cut_blanks bs)

-- The bytes with the blanks at both ends cut off. `IsTrimmed` is what that means.
unfoldable pub trimmed : Bytes → Bytes
trimmed bytes = cut_blanks (skip_blanks bytes)

-- the last byte is a blank
abbrev pub ends_blank : Bytes → Bool
ends_blank [] = false
ends_blank (b ∷ []) = is_blank b
ends_blank (b ∷ c ∷ bs) = ends_blank (c ∷ bs)

-- blanks, the value, blanks, and no blank at either end of the value
pub record IsTrimmed (bytes value : Bytes) : Type 0 where
  pub left : Bytes
  pub right : Bytes
  pub parts : bytes ≡ left ++ value ++ right
  pub left_blank : AreBlanks left
  pub right_blank : AreBlanks right
  pub begins : begins_blank value ≡ false
  pub ends : ends_blank value ≡ false
