-- What was taken off an input is its next line, or a front of it.
use Rattle.std.proofs.Common.{◌≡◌, ℕ, ◌+◌, ◌<◌, ◌⊎◌, Bool, true, false, cond, eqb, ltb, List, [], ◌∷◌, ◌++◌, length, Option, Some, None, option_map, IfSome, refl, sym, ◌∙◌, ap, subst, inl, inr, arith, eqb-true, ltb-true, ltb-false}
use Rattle.pec_types.specs.Bytes.{Bytes}
use Rattle.pec_outside.specs.Flow.{behind}
use Rattle.pec_input.specs.Finding.{IsAtEnd, IsEnded, IsFound, IsLine, IsLong, found_in, lines_left}
use Rattle.pec_input.specs.Lines.{HasNoEnd, content_of, raw_lines}
use Rattle.pec_input.specs.declared.buffers.Found.{Found}
use Rattle.pec_input.specs.declared.buffers.Found.TheVariants.{End, Line, Long}
use Rattle.pec_input.proofs.LineLemmas.{line_there, long_there, said_size}
use Rattle.pec_input.proofs.PieceLemmas.{some_ended}

-- bytes that have an end, their own or that of the input
abbrev pub HasEnd : Bytes → Option Bytes → Type 0
HasEnd line after = IsEnded line ⊎ (HasNoEnd line × IsAtEnd after)

lines_taken : (line : Bytes) (before after : Option Bytes) → before ≡ behind line after → IsLine line after
    → lines_left before ≡ option_map (λ rest. line ∷ raw_lines rest) after
lines_taken line before None read is = ap lines_left read
lines_taken line before (Some rest) read is =
    ap lines_left read ∙ ap (λ (lines : List Bytes). Some lines) (line_there line rest is.0 is.1)

long_first : (most : ℕ) (line : Bytes) (found : Option (List Bytes)) (after : Option Bytes)
    → found ≡ option_map (λ rest. line ∷ raw_lines rest) after
    → most < length (content_of line) → IfSome found (λ lines. IsLong most lines)
long_first most line found None taken long = subst (λ o. IfSome o (λ lines. IsLong most lines)) (sym taken) tt
long_first most line found (Some rest) taken long =
    subst (λ o. IfSome o (λ lines. IsLong most lines)) (sym taken)
    (record { first = line; more = raw_lines rest; are = refl; long = long })

end_found : (most : ℕ) (before after : Option Bytes) → before ≡ behind [] after → HasEnd [] after
    → IsFound most End [] before after
end_found most before after read (inl is) = let some = some_ended [] is in let h : ⊥ = omega arith in absurd h
end_found most before None read (inr is) = (refl, subst IsAtEnd (sym read) tt, is.1)
end_found most before (Some rest) read (inr is) = (refl, subst IsAtEnd (sym read) is.1, is.1)

line_found : (most : ℕ) (line : Bytes) (before after : Option Bytes) (x : Bool)
    → ltb most (length (content_of line)) ≡ x → before ≡ behind line after
    → IsLine line after → IsFound most (cond x Long Line) line before after
line_found most line before after true long read is =
    long_first most line (lines_left before) after (lines_taken line before after read is)
    (ltb-true most (length (content_of line)) long)
line_found most line before after false short read is =
    (ltb-false most (length (content_of line)) short, is, lines_taken line before after read is)

found_by : (most : ℕ) (line : Bytes) (before after : Option Bytes) (x : Bool) → eqb (length line) 0 ≡ x
    → before ≡ behind line after → HasEnd line after
    → IsFound most (cond x End (cond (ltb most (length (content_of line))) Long Line)) line before after
found_by most [] before after true none read is = end_found most before after read is
found_by most [] before after false some read is = absurd cc
found_by most (b ∷ bs) before after true none read is =
    let size = eqb-true (length (b ∷ bs)) 0 none in let h : ⊥ = omega arith in absurd h
found_by most (b ∷ bs) before after false some read is =
    line_found most (b ∷ bs) before after (ltb most (length (content_of (b ∷ bs)))) refl read (omega arith, is)

-- at the end of an input nothing is left of what was read
pub nothing_left : (bytes : Bytes) (left : Option Bytes) → bytes ≡ [] → IsAtEnd left → IsAtEnd (behind bytes left)
nothing_left bytes None none is = tt
nothing_left bytes (Some rest) none is = ap (λ front. front ++ rest) none ∙ is

whole_is : (most : ℕ) (line : Bytes) (before after : Option Bytes) → before ≡ behind line after → HasEnd line after
    → IsFound most (found_in most line) line before after
unfolding found_in
whole_is most line before after read is = found_by most line before after (eqb (length line) 0) refl read is

-- bytes up to an end
pub whole_found : (most : ℕ) (found : Found) (said line : Bytes) (before after : Option Bytes)
    → found ≡ found_in most said → said ≡ line
    → before ≡ behind line after → HasEnd line after → IsFound most found line before after
whole_found most found said line before after told same read is =
    subst (λ what. IsFound most what line before after) (sym (told ∙ ap (found_in most) same))
    (whole_is most line before after read is)

-- bytes with no end yet, and more of them than a line and its end may have
pub long_found : (most : ℕ) (line : Bytes) (before after : Option Bytes) → before ≡ behind line after → HasNoEnd line
    → most + 2 < length line
    → IfSome (lines_left before) (λ lines. IsLong most lines)
long_found most line before None read none long =
    subst (λ o. IfSome (lines_left o) (λ lines. IsLong most lines)) (sym read) tt
long_found most line before (Some rest) read none long =
    let is = long_there line rest (omega arith) none in
    let size = said_size is.first in
    subst (λ o. IfSome (lines_left o) (λ lines. IsLong most lines)) (sym read)
    (record { first = is.first; more = is.more; are = is.are; long = omega (arith, is.long, size.1) })
