-- Bytes that stand for themselves, at the front of a text.
use Rattle.std.proofs.Common.{◌≡◌, ℕ, suc, ◌+◌, Bool, true, false, cond, List, [], ◌∷◌, ◌++◌, take, drop, Ok, Err, refl, ap, subst, ◌∙◌, arith, append_assoc}
use Rattle.std.specs.List.{flat_map, prefix_len, AllByRecursion}
use Rattle.std.proofs.lemmas.List.{append-nil}
use Rattle.pec_types.specs.Text.{is_unprintable, AllPrintable}
use Rattle.pec_grammar.specs.Grammar.{Cursor, Read, byte_at, many_at}
use Rattle.pec_grammar.proofs.Repeats.{SoFar, starts, goes_on, ends_here}
use Rattle.pec_cert.specs.Markup.{escape}
use Rattle.pec_cert.specs.LinesReading.{is_plain, char_at}
use Rattle.pec_cert.proofs.Texts.{plain_is, plain_spelled, printable_all}

abbrev pub run : List ℕ → List ℕ
run text = take (prefix_len is_plain text) text

abbrev pub behind_run : List ℕ → List ℕ
behind_run text = drop (prefix_len is_plain text) text

-- how many of them there are, by whether the first is one
abbrev counted : List ℕ → Bool → ℕ
counted text p = cond p (1 + prefix_len is_plain text) 0

one_more : (n : ℕ) → 1 + n ≡ suc n
one_more n = omega arith

-- Each is read as itself, so the reader has them all.

plain_read : (c : ℕ) (rest farthest : List ℕ) → is_plain c ≡ true → char_at (record { rest = c ∷ rest; farthest = farthest }) ≡ Ok (c, record { rest = rest; farthest = farthest })
unfolding char_at byte_at
plain_read c rest farthest is = rw is refl

read_step : (c : ℕ) (text farthest front : List ℕ) (total : Read (List ℕ)) (p : Bool) → is_plain c ≡ p
    → SoFar char_at front (record { rest = c ∷ text; farthest = farthest }) total
    → (SoFar char_at (front ++ c ∷ []) (record { rest = text; farthest = farthest }) total → SoFar char_at ((front ++ c ∷ []) ++ run text) (record { rest = behind_run text; farthest = farthest }) total)
    → SoFar char_at (front ++ take (counted text p) (c ∷ text)) (record { rest = drop (counted text p) (c ∷ text); farthest = farthest }) total
read_step c text farthest front total true is so further = rw (one_more (prefix_len is_plain text))
    (subst (λ z. SoFar char_at z (record { rest = behind_run text; farthest = farthest }) total) (append_assoc front (c ∷ []) (run text))
    (further (goes_on char_at front (record { rest = c ∷ text; farthest = farthest }) (record { rest = text; farthest = farthest }) c total so (plain_read c text farthest is) (omega arith))))
read_step c text farthest front total false is so further = rw (append-nil front) so

run_read : (text farthest front : List ℕ) (total : Read (List ℕ)) → SoFar char_at front (record { rest = text; farthest = farthest }) total
    → SoFar char_at (front ++ run text) (record { rest = behind_run text; farthest = farthest }) total
run_read [] farthest front total so = rw (append-nil front) so
run_read (c ∷ text) farthest front total so = read_step c text farthest front total (is_plain c) refl so (run_read text farthest (front ++ c ∷ []) total)

pub run_ends : (at : Cursor) (stop : List ℕ) → char_at (record { rest = behind_run at.rest; farthest = at.farthest }) ≡ Err stop
    → many_at char_at at ≡ Ok (run at.rest, record { rest = behind_run at.rest; farthest = stop })
run_ends at stop read = ends_here char_at (run at.rest) (record { rest = behind_run at.rest; farthest = at.farthest }) stop (many_at char_at at)
    (run_read at.rest at.farthest [] (many_at char_at at) (starts char_at at)) read

-- They are printable.

printable_step : (c : ℕ) (text : List ℕ) (p : Bool) → is_plain c ≡ p → AllByRecursion (λ c. is_unprintable c ≡ false) (run text)
    → AllByRecursion (λ c. is_unprintable c ≡ false) (take (counted text p) (c ∷ text))
printable_step c text true is all = rw (one_more (prefix_len is_plain text)) ((plain_is c is).printable, all)
printable_step c text false is all = tt

all_of_run : (text : List ℕ) → AllByRecursion (λ c. is_unprintable c ≡ false) (run text)
all_of_run [] = tt
all_of_run (c ∷ text) = printable_step c text (is_plain c) refl (all_of_run text)

pub run_printable : (text : List ℕ) → AllPrintable (run text)
run_printable text = printable_all (run text) (all_of_run text)

-- They are spelled as themselves.

spelled_step : (c : ℕ) (text : List ℕ) (p : Bool) → is_plain c ≡ p → run text ++ flat_map escape (behind_run text) ≡ flat_map escape text
    → take (counted text p) (c ∷ text) ++ flat_map escape (drop (counted text p) (c ∷ text)) ≡ flat_map escape (c ∷ text)
spelled_step c text true is further = rw (one_more (prefix_len is_plain text)) (ap (λ z. c ∷ z) further ∙ ap (λ z. z ++ flat_map escape text) (plain_spelled c is))
spelled_step c text false is further = refl

pub run_spelled : (text : List ℕ) → run text ++ flat_map escape (behind_run text) ≡ flat_map escape text
run_spelled [] = refl
run_spelled (c ∷ text) = spelled_step c text (is_plain c) refl (run_spelled text)
