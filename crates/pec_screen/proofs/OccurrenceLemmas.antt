-- A pattern occurs where its test says so, and where a search for it finds a place.
use Rattle.std.proofs.Common.{◌≡◌, ℕ, ◌+◌, [], ◌∷◌, ◌++◌, Option, Some, None, Bool, true, false, length, take, drop, refl, sym, ap, ◌∙◌, arith, ⊎_elim}
use Rattle.std.specs.Option.{is_some}
use Rattle.std.proofs.Math.Seq.{take-append_seam, drop-append_seam}
use Rattle.std.proofs.lemmas.Bool.{or_left, or_right, or_cases}
use Rattle.std.proofs.lemmas.List.{length-append, take-append-drop}
use Rattle.std.proofs.lemmas.Slice.Eq.{bytes_eq-Decides}
use Rattle.memchr.specs.Find.{FindsNeedle, OccursAt}
use Rattle.memchr.proofs.lemmas.MatchLemmas.{OccursAt-split, OccursAt-from_part}
use Rattle.pec_types.specs.Bytes.{Bytes}
use Rattle.pec_screen.specs.Occurrence.{Occurs, begins, occurs}

-- a text begins with a pattern where the pattern stands at its front

at_front : (pattern text : Bytes) → begins pattern text ≡ true → Occurs pattern text
at_front pattern text e = record {
  before = [];
  behind = drop (length pattern) text;
  whole = sym (take-append-drop (length pattern) text) ∙ ap (λ front. front ++ drop (length pattern) text) ((bytes_eq-Decides (take (length pattern) text) pattern).0 e);
}

begins_so : (pattern behind text : Bytes) → text ≡ pattern ++ behind → begins pattern text ≡ true
begins_so pattern behind text e =
    (bytes_eq-Decides (take (length pattern) text) pattern).1 (ap (take (length pattern)) e ∙ take-append_seam pattern behind)

-- one byte more before it

one_more : (pattern : Bytes) (b : ℕ) (bytes : Bytes) → Occurs pattern bytes → Occurs pattern (b ∷ bytes)
one_more pattern b bytes o = record { before = b ∷ o.before; behind = o.behind; whole = ap (λ rest. b ∷ rest) o.whole }

pub occurs_is : (pattern message : Bytes) → occurs pattern message ≡ true → Occurs pattern message
occurs_is pattern [] e = at_front pattern [] e
occurs_is pattern (b ∷ bytes) e = ⊎_elim
    (λ front. at_front pattern (b ∷ bytes) front)
    (λ later. one_more pattern b bytes (occurs_is pattern bytes later))
    (or_cases (begins pattern (b ∷ bytes)) (occurs pattern bytes) e)

occurs_at_front : (pattern behind message : Bytes) → message ≡ pattern ++ behind → occurs pattern message ≡ true
occurs_at_front pattern behind [] e = begins_so pattern behind [] e
occurs_at_front pattern behind (b ∷ bytes) e = or_left _ _ (begins_so pattern behind (b ∷ bytes) e)

occurs_behind : (pattern before behind message : Bytes) → message ≡ before ++ (pattern ++ behind) → occurs pattern message ≡ true
occurs_behind pattern [] behind message e = occurs_at_front pattern behind message e
occurs_behind pattern (x ∷ before) behind [] e = absurd cc
occurs_behind pattern (x ∷ before) behind (b ∷ bytes) e =
    or_right (begins pattern (b ∷ bytes)) _ (occurs_behind pattern before behind bytes (ap (drop 1) e))

pub is_occurs : (pattern message : Bytes) → Occurs pattern message → occurs pattern message ≡ true
is_occurs pattern message o = occurs_behind pattern o.before o.behind message o.whole

-- a place of the search

of_place : (pattern message : Bytes) (at : ℕ) → OccursAt message pattern at → Occurs pattern message
of_place pattern message at o = record {
  before = take at message;
  behind = drop (at + length pattern) message;
  whole = sym (take-append-drop at message) ∙ ap (λ rest. take at message ++ rest) (OccursAt-split message pattern at o);
}

-- what no search finds doesn't occur

no_place : (pattern message : Bytes) → FindsNeedle message pattern 0 None → Occurs pattern message → ⊥
no_place pattern message none o =
    let long : length message ≡ length o.before + (length pattern + length o.behind) =
    ap length o.whole ∙ length-append o.before (pattern ++ o.behind) ∙ ap (λ n. length o.before + n) (length-append pattern o.behind) in
    let stands : take (length pattern) (drop (length o.before) message) ≡ pattern =
    ap (λ text. take (length pattern) (drop (length o.before) text)) o.whole
    ∙ ap (take (length pattern)) (drop-append_seam o.before (pattern ++ o.behind)) ∙ take-append_seam pattern o.behind in
    none (length o.before) (omega arith) (omega (arith, long))
    (OccursAt-from_part message pattern (length o.before) (omega (arith, long)) stands)

none_tests : (pattern message : Bytes) (b : Bool) → occurs pattern message ≡ b → FindsNeedle message pattern 0 None → false ≡ b
none_tests pattern message false e none = refl
none_tests pattern message true e none = absurd (no_place pattern message none (occurs_is pattern message e))

-- whether a search finds a place tells whether the pattern occurs
pub found_tells : (pattern message : Bytes) (found : Option ℕ) → FindsNeedle message pattern 0 found → is_some found ≡ occurs pattern message
found_tells pattern message None none = none_tests pattern message (occurs pattern message) refl none
found_tells pattern message (Some at) first = sym (is_occurs pattern message (of_place pattern message at first.1))
