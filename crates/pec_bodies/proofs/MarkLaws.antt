-- Delimiters and closing delimiters: what the test of a line says.
use Rattle.std.proofs.Common.{◌≡◌, ◌≢◌, ℕ, List, ◌∷◌, ◌++◌, Bool, true, false, cond, length, take, drop, Option, Some, None, refl, ap, sym, ◌∙◌}
use Rattle.std.proofs.Math.Seq.{take-append_seam, drop-append_seam}
use Rattle.std.proofs.lemmas.List.{take-append-drop}
use Rattle.std.proofs.lemmas.Slice.Eq.{bytes_eq-Decides}
use Rattle.std.specs.List.{list_all}
use Rattle.std.specs.Prelude.{codes}
use Rattle.std.specs.Str.{bytes_eq}
use Rattle.pec_types.specs.Bytes.{after_front}
use Rattle.pec_heads.specs.Bytes.{is_blank, AreBlanks}
use Rattle.pec_bodies.proofs.AnswerLemmas.{some_is}
use Rattle.pec_bodies.specs.Marks.{IsClosing, IsDelimiter, behind_dashed, closing_mark, dashed, mark_at, mark_behind, mark_of}
use Rattle.pec_types.specs.Options.{◌>>=◌}
use Rattle.pec_bodies.specs.declared.marks.Mark.TheVariants.{Delimiter, Closing, Text}

front_step : (front text rest : List ℕ) (t : Bool) → bytes_eq (take (length front) text) front ≡ t → cond t (Some (drop (length front) text)) None ≡ Some rest → text ≡ front ++ rest
front_step front text rest true e h =
    let p : take (length front) text ≡ front = (bytes_eq-Decides (take (length front) text) front).0 e
    in let d : drop (length front) text ≡ rest = some_is _ _ h
    in sym (take-append-drop (length front) text) ∙ ap (λ xs. xs ++ drop (length front) text) p ∙ ap (λ xs. front ++ xs) d
front_step front text rest false e h = absurd cc

front_says : (front text rest : List ℕ) → after_front front text ≡ Some rest → text ≡ front ++ rest
unfolding after_front
front_says front text rest h = front_step front text rest (bytes_eq (take (length front) text) front) refl h

pub front_again : (front rest : List ℕ) → after_front front (front ++ rest) ≡ Some rest
unfolding after_front
front_again front rest = rw ((bytes_eq-Decides (take (length front) (front ++ rest)) front).1 (take-append_seam front rest)) (ap Some (drop-append_seam front rest))

dashed_step : (boundary line rest : List ℕ) (o : Option (List ℕ)) → after_front (codes "--") line ≡ o → (o >>= after_front boundary) ≡ Some rest → line ≡ dashed boundary ++ rest
dashed_step boundary line rest None e h = absurd cc
dashed_step boundary line rest (Some behind) e h = front_says (codes "--") line behind e ∙ ap (λ xs. 45 ∷ 45 ∷ xs) (front_says boundary behind rest h)

pub dashed_says : (boundary line rest : List ℕ) → behind_dashed boundary line ≡ Some rest → line ≡ dashed boundary ++ rest
unfolding behind_dashed
dashed_says boundary line rest h = dashed_step boundary line rest (after_front (codes "--") line) refl h

dashed_again : (boundary rest : List ℕ) → behind_dashed boundary (dashed boundary ++ rest) ≡ Some rest
unfolding behind_dashed
dashed_again boundary rest = ap (λ o. o >>= after_front boundary) (front_again (codes "--") (boundary ++ rest)) ∙ front_again boundary rest

-- ---- what is behind the boundary

no_delimiter : (o : Option (List ℕ)) → closing_mark o ≢ Delimiter
no_delimiter None e = absurd cc
no_delimiter (Some rest) e = last_step (list_all is_blank rest) e
  where
    last_step : (t : Bool) → cond t Closing Text ≡ Delimiter → ⊥
    last_step true e = absurd cc
    last_step false e = absurd cc

blanks_behind : (rest : List ℕ) (t : Bool) → list_all is_blank rest ≡ t → cond t Delimiter (closing_mark (after_front (codes "--") rest)) ≡ Delimiter → AreBlanks rest
blanks_behind rest true e h = e
blanks_behind rest false e h = absurd (no_delimiter (after_front (codes "--") rest) h)

delimiter_behind : (rest : List ℕ) → mark_behind rest ≡ Delimiter → AreBlanks rest
unfolding mark_behind
delimiter_behind rest h = blanks_behind rest (list_all is_blank rest) refl h

blanks_after : (last : List ℕ) (t : Bool) → list_all is_blank last ≡ t → cond t Closing Text ≡ Closing → AreBlanks last
blanks_after last true e h = e
blanks_after last false e h = absurd cc

closes_with : (rest : List ℕ) (o : Option (List ℕ)) → after_front (codes "--") rest ≡ o → closing_mark o ≡ Closing → (blanks : List ℕ) × ((rest ≡ 45 ∷ 45 ∷ blanks) × AreBlanks blanks)
closes_with rest None e h = absurd cc
closes_with rest (Some last) e h = (last, (front_says (codes "--") rest last e, blanks_after last (list_all is_blank last) refl h))

closing_step : (rest : List ℕ) (t : Bool) → cond t Delimiter (closing_mark (after_front (codes "--") rest)) ≡ Closing → (blanks : List ℕ) × ((rest ≡ 45 ∷ 45 ∷ blanks) × AreBlanks blanks)
closing_step rest true h = absurd cc
closing_step rest false h = closes_with rest (after_front (codes "--") rest) refl h

closing_behind : (rest : List ℕ) → mark_behind rest ≡ Closing → (blanks : List ℕ) × ((rest ≡ 45 ∷ 45 ∷ blanks) × AreBlanks blanks)
unfolding mark_behind
closing_behind rest h = closing_step rest (list_all is_blank rest) h

-- ---- lines

delimiter_is : (boundary line : List ℕ) (o : Option (List ℕ)) → behind_dashed boundary line ≡ o → mark_at o ≡ Delimiter → IsDelimiter boundary line
delimiter_is boundary line None e h = absurd cc
delimiter_is boundary line (Some rest) e h = record { blanks = rest; parts = dashed_says boundary line rest e; are_blanks = delimiter_behind rest h }

closing_is : (boundary line : List ℕ) (o : Option (List ℕ)) → behind_dashed boundary line ≡ o → mark_at o ≡ Closing → IsClosing boundary line
closing_is boundary line None e h = absurd cc
closing_is boundary line (Some rest) e h =
    let c = closing_behind rest h
    in record { blanks = c.0; parts = dashed_says boundary line rest e ∙ ap (λ xs. dashed boundary ++ xs) c.1.0; are_blanks = c.1.1 }

pub delimiter_says : (boundary line : List ℕ) → mark_of boundary line ≡ Delimiter → IsDelimiter boundary line
unfolding mark_of
delimiter_says boundary line h = delimiter_is boundary line (behind_dashed boundary line) refl h

pub closing_says : (boundary line : List ℕ) → mark_of boundary line ≡ Closing → IsClosing boundary line
unfolding mark_of
closing_says boundary line h = closing_is boundary line (behind_dashed boundary line) refl h

pub delimiter_again : (boundary line : List ℕ) → IsDelimiter boundary line → mark_of boundary line ≡ Delimiter
unfolding mark_of mark_behind
delimiter_again boundary line h =
    ap (λ xs. mark_at (behind_dashed boundary xs)) h.parts ∙ ap mark_at (dashed_again boundary h.blanks) ∙ rw h.are_blanks refl

pub closing_again : (boundary line : List ℕ) → IsClosing boundary line → mark_of boundary line ≡ Closing
unfolding mark_of mark_behind
closing_again boundary line h =
    ap (λ xs. mark_at (behind_dashed boundary xs)) h.parts
    ∙ ap mark_at (dashed_again boundary (45 ∷ 45 ∷ h.blanks))
    ∙ ap closing_mark (front_again (codes "--") h.blanks)
    ∙ rw h.are_blanks refl

-- a line that doesn't begin with two dashes and the boundary is neither
text_at : (boundary line : List ℕ) (o : Option (List ℕ)) → behind_dashed boundary line ≡ o → ((rest : List ℕ) → line ≢ dashed boundary ++ rest) → mark_at o ≡ Text
text_at boundary line None e n = refl
text_at boundary line (Some rest) e n = absurd (n rest (dashed_says boundary line rest e))

pub text_again : (boundary line : List ℕ) → ((rest : List ℕ) → line ≢ dashed boundary ++ rest) → mark_of boundary line ≡ Text
unfolding mark_of
text_again boundary line n = text_at boundary line (behind_dashed boundary line) refl n
