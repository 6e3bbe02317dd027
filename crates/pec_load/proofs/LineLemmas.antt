-- What a plain line says is the line without its end.
use Rattle.std.proofs.Common.{◌≡◌, ◌≢◌, ℕ, zero, suc, ◌-◌, ◌<◌, false, cond, eqb, [], ◌∷◌, ◌++◌, length, get_or, refl, ◌∙◌, ap, arith, eq-eqb}
use Rattle.std.proofs.lemmas.Bool.{ne_eqb}
use Rattle.std.proofs.lemmas.List.{get_or_at, length-append, take_at}
use Rattle.pec_types.specs.Bytes.{Bytes, carriage_return, line_feed}
use Rattle.pec_words.specs.Cuts.{Lacks}
use Rattle.pec_input.specs.Lines.{content_of, ends_with, without_last, without_return}

-- the last byte of a text with one behind it
last_of : (b c : ℕ) (xs : Bytes) → ends_with b (xs ++ c ∷ []) ≡ eqb c b
last_of b c [] = refl
last_of b c (x ∷ xs) =
    ap (λ v. eqb v b) (get_or_at (x ∷ xs) c [] 0 (length (xs ++ c ∷ [])) (omega (arith, length-append xs (c ∷ []))))

lacks_at : (b : ℕ) (xs : Bytes) → Lacks b xs → (k : ℕ) → k < length xs → get_or xs k 0 ≢ b
lacks_at b [] h k within = absurd (omega arith)
lacks_at b (x ∷ xs) h zero within = h.0
lacks_at b (x ∷ xs) h (suc k) within = lacks_at b xs h.1 k (omega arith)

no_last : (b : ℕ) (xs : Bytes) → Lacks b xs → ends_with b xs ≡ false
no_last b [] h = refl
no_last b (x ∷ xs) h = ne_eqb (get_or (x ∷ xs) (length xs) 0) b (lacks_at b (x ∷ xs) h (length xs) (omega arith))

unended : (said : Bytes) → without_last (said ++ line_feed ∷ []) ≡ said
unended said = take_at said (line_feed ∷ []) (length (said ++ line_feed ∷ []) - 1) (omega (arith, length-append said (line_feed ∷ [])))

unreturned : (said : Bytes) → Lacks carriage_return said → without_return said ≡ said
unreturned said h = ap (λ x. cond x (without_last said) said) (no_last carriage_return said h)

-- a line feed, and no carriage return before it
pub content_is : (said : Bytes) → Lacks carriage_return said → content_of (said ++ line_feed ∷ []) ≡ said
unfolding content_of
content_is said h =
    ap (λ x. cond x (without_return (without_last (said ++ line_feed ∷ []))) (said ++ line_feed ∷ []))
    (last_of line_feed line_feed said ∙ eq-eqb line_feed line_feed refl)
    ∙ (ap without_return (unended said) ∙ unreturned said h)
