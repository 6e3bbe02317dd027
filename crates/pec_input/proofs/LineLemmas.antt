-- The lines of a text: what ends a line, and what a line says.
use Rattle.std.proofs.Common.{◌≡◌, ◌≢◌, ℕ, ◌+◌, ◌-◌, ◌<◌, ◌≤◌, ◌⊎◌, Bool, true, false, cond, eqb, List, [], ◌∷◌, ◌++◌, length, refl, sym, ◌∙◌, ap, inl, inr, arith, append_assoc, append-nil, eqb-true, length-take}
use Rattle.std.specs.List.{onto_first, concat}
use Rattle.pec_types.specs.Bytes.{Bytes, carriage_return, line_feed}
use Rattle.pec_input.specs.Finding.{IsEnded}
use Rattle.pec_input.specs.Lines.{raw_lines, HasNoEnd, ends_with, without_last, without_return, content_of}

not_end : (b : ℕ) (x : Bool) (A : List Bytes) (B : List Bytes) → b ≢ line_feed → eqb b line_feed ≡ x → cond x A B ≡ B
not_end b true A B other is = absurd (other (eqb-true b line_feed is))
not_end b false A B other is = refl

pub raw_ended : (said rest : Bytes) → HasNoEnd said
    → raw_lines (said ++ line_feed ∷ rest) ≡ (said ++ line_feed ∷ []) ∷ raw_lines rest
raw_ended [] rest none = refl
raw_ended (b ∷ bs) rest none =
    not_end b (eqb b line_feed) ((b ∷ []) ∷ raw_lines (bs ++ line_feed ∷ rest))
    (onto_first b (raw_lines (bs ++ line_feed ∷ rest))) none.0 refl
    ∙ ap (λ lines. onto_first b lines) (raw_ended bs rest none.1)

pub raw_last : (b : ℕ) (bs : Bytes) → HasNoEnd (b ∷ bs) → raw_lines (b ∷ bs) ≡ (b ∷ bs) ∷ []
raw_last b [] none = not_end b (eqb b line_feed) ((b ∷ []) ∷ []) ((b ∷ []) ∷ []) none.0 refl
raw_last b (c ∷ cs) none =
    not_end b (eqb b line_feed) ((b ∷ []) ∷ raw_lines (c ∷ cs)) (onto_first b (raw_lines (c ∷ cs))) none.0 refl
    ∙ ap (λ lines. onto_first b lines) (raw_last c cs none.1)

-- the first line is at least so long
pub record IsFirstOf (size : ℕ) (lines : List Bytes) : Type 0 where
  pub first : Bytes
  pub more : List Bytes
  pub are : lines ≡ first ∷ more
  pub long : size ≤ length first

onto_some : (b : ℕ) (lines : List Bytes) → IsFirstOf 1 (onto_first b lines)
onto_some b [] = record { first = b ∷ []; more = []; are = refl; long = omega arith }
onto_some b (first ∷ more) = record { first = b ∷ first; more = more; are = refl; long = omega arith }

raw_front : (b : ℕ) (bs rest : Bytes) → HasNoEnd (b ∷ bs) → IsFirstOf (length (b ∷ bs)) (raw_lines ((b ∷ bs) ++ rest))
raw_front b [] rest none =
    let is = onto_some b (raw_lines rest) in
    record {
      first = is.first;
      more = is.more;
      are = not_end b (eqb b line_feed) ((b ∷ []) ∷ raw_lines rest) (onto_first b (raw_lines rest)) none.0 refl ∙ is.are;
      long = omega (arith, is.long);
    }
raw_front b (c ∷ cs) rest none =
    let is = raw_front c cs rest none.1 in
    record {
      first = b ∷ is.first;
      more = is.more;
      are =
          not_end b (eqb b line_feed) ((b ∷ []) ∷ raw_lines ((c ∷ cs) ++ rest))
          (onto_first b (raw_lines ((c ∷ cs) ++ rest))) none.0 refl ∙ ap (λ lines. onto_first b lines) is.are;
      long = omega (arith, is.long);
    }

-- a line that was taken off a text
pub line_there : (line rest : Bytes) → 0 < length line → IsEnded line ⊎ (HasNoEnd line × (rest ≡ []))
    → raw_lines (line ++ rest) ≡ line ∷ raw_lines rest
line_there [] rest some is = let h : ⊥ = omega arith in absurd h
line_there (b ∷ bs) rest some (inl is) =
    ap (λ l. raw_lines (l ++ rest)) is.parts
    ∙ (ap raw_lines (append_assoc is.said (line_feed ∷ []) rest)
    ∙ (raw_ended is.said rest is.none ∙ ap (λ l. l ∷ raw_lines rest) (sym is.parts)))
line_there (b ∷ bs) rest some (inr is) =
    ap (λ r. raw_lines ((b ∷ bs) ++ r)) is.1
    ∙ (ap raw_lines (append-nil (b ∷ bs)) ∙ (raw_last b bs is.0 ∙ ap (λ r. (b ∷ bs) ∷ raw_lines r) (sym is.1)))

pub long_there : (line rest : Bytes) → 0 < length line → HasNoEnd line
    → IsFirstOf (length line) (raw_lines (line ++ rest))
long_there [] rest some none = let h : ⊥ = omega arith in absurd h
long_there (b ∷ bs) rest some none = raw_front b bs rest none

-- the end of a line takes two bytes at most
abbrev pub HasSize : Bytes → Bytes → ℕ → Type 0
HasSize said line most = (length said ≤ length line) × (length line ≤ length said + most)

return_size : (bytes : Bytes) (x : Bool) → HasSize (cond x (without_last bytes) bytes) bytes 1
return_size bytes true =
    (omega (arith, length-take (length bytes - 1) bytes), omega (arith, length-take (length bytes - 1) bytes))
return_size bytes false = (omega arith, omega arith)

content_size : (line : Bytes) (x : Bool) → HasSize (cond x (without_return (without_last line)) line) line 2
content_size line true =
    let last = length-take (length line - 1) line in
    let size = return_size (without_last line) (ends_with carriage_return (without_last line)) in
    (omega (arith, last, size.0), omega (arith, last, size.1))
content_size line false = (omega arith, omega arith)

pub said_size : (line : Bytes) → HasSize (content_of line) line 2
unfolding content_of
said_size line = content_size line (ends_with line_feed line)

-- the lines are the text
concat_onto : (b : ℕ) (lines : List Bytes) → concat (onto_first b lines) ≡ b ∷ concat lines
concat_onto b [] = refl
concat_onto b (first ∷ more) = refl

whole_by : (b : ℕ) (bs : Bytes) (x : Bool) → concat (raw_lines bs) ≡ bs
    → concat (cond x ((b ∷ []) ∷ raw_lines bs) (onto_first b (raw_lines bs))) ≡ b ∷ bs
whole_by b bs true is = ap (λ x. b ∷ x) is
whole_by b bs false is = concat_onto b (raw_lines bs) ∙ ap (λ x. b ∷ x) is

pub raw_whole : (text : Bytes) → concat (raw_lines text) ≡ text
raw_whole [] = refl
raw_whole (b ∷ bs) = whole_by b bs (eqb b line_feed) (raw_whole bs)
