-- Where the head of a request ends, by its lines: `IsHead`, and `IsWholeCut` for all that came. A line is its content and an
-- LF; it is empty where the content is nothing, or a CR alone (RFC 9112, section 2.2). That `cut_of` finds this and nothing
-- else is a law of the crate.
use Rattle.std.specs.Prelude.{◌≡◌, ℕ, ◌<◌, ◌≤◌, ◌⊎◌, List, [], ◌∷◌, ◌++◌, length}
use Rattle.std.specs.List.{AllByRecursion}
use Rattle.pec_types.specs.Bytes.{Bytes, carriage_return, line_feed}
use Rattle.pec_words.specs.Cuts.{Lacks}
use Rattle.pec_http_head.specs.Cuts.{WholeCut, Ends, TooLarge, Short}
use Rattle.pec_http_head.specs.declared.stands.TheConstants.{HEAD_BYTES, HEAD_LINES}

-- the content of an empty line
abbrev pub IsEmpty : Bytes → Type 0
IsEmpty content = (content ≡ []) ⊎ (content ≡ carriage_return ∷ [])

-- the content of a line that isn't empty
pub record IsFilled (content : Bytes) : Type 0 where
  pub feedless : Lacks line_feed content
  pub filled : IsEmpty content → ⊥

-- lines of these contents, one behind the other
abbrev pub lines_of : List Bytes → Bytes
lines_of [] = []
lines_of (content ∷ contents) = content ++ line_feed ∷ lines_of contents

-- The text is a head: empty lines, which are passed over; a first line that isn't empty; so many others behind it; and an
-- empty line, which ends it.
pub record IsHead (text : Bytes) (count : ℕ) : Type 0 where
  pub front : List Bytes
  pub first : Bytes
  pub others : List Bytes
  pub last : Bytes
  pub front_empty : AllByRecursion IsEmpty front
  pub first_filled : IsFilled first
  pub others_filled : AllByRecursion IsFilled others
  pub last_empty : IsEmpty last
  pub count_is : count ≡ length others
  pub text_is : text ≡ lines_of front ++ (lines_of (first ∷ others) ++ lines_of (last ∷ []))

-- The first so many bytes are a head, with so many lines behind its first, and a head has room for so many bytes.
pub record BeginsWith (text : Bytes) (bytes count : ℕ) : Type 0 where
  pub head : Bytes
  pub rest : Bytes
  pub parts : text ≡ head ++ rest
  pub size : bytes ≡ length head
  pub is : IsHead head count
  pub fits : bytes ≤ HEAD_BYTES

-- no front of the text is a head
abbrev pub BeginsWithNone : Bytes → Type 0
BeginsWithNone text = (bytes count : ℕ) → BeginsWith text bytes count → ⊥

-- All that came says this of the head. It ends at a place, and has at most 64 lines behind its first; or it is too large,
-- since as many bytes came as it may have and it doesn't end in them, or since it has more lines; or it ends in none of
-- them, and more may come.
abbrev pub IsWholeCut : Bytes → WholeCut → Type 0
IsWholeCut text (Ends at) = (count : ℕ) × BeginsWith text at count × (count ≤ HEAD_LINES)
IsWholeCut text TooLarge =
    (BeginsWithNone text × (HEAD_BYTES ≤ length text))
    ⊎ ((bytes : ℕ) × (count : ℕ) × BeginsWith text bytes count × (HEAD_LINES < count))
IsWholeCut text Short = BeginsWithNone text × (length text < HEAD_BYTES)
