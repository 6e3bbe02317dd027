-- The rule that a screen finds is the least number of a pattern that occurs.
use Rattle.std.proofs.Common.{◌≡◌, ℕ, ◌<◌, ◌≤◌, List, [], Option, Some, None, Bool, true, false, length, get_or, slice_get, position, refl, sym, ap, ◌∙◌, arith}
use Rattle.std.specs.List.{position_or_len}
use Rattle.std.proofs.lemmas.Bool.{false≢true}
use Rattle.std.proofs.lemmas.Grind.{common_steps}
use Rattle.std.proofs.lemmas.List.Quantifiers.{position-Some}
use Rattle.std.proofs.lemmas.List.Sums.{position_or_len_is, fails_before_first}
use Rattle.std.proofs.lemmas.Option.{get_or_from_slice_get, slice_get-get_or, slice_get_within}
use Rattle.pec_types.specs.Bytes.{Bytes}
use Rattle.pec_screen.specs.Occurrence.{Occurs, occurs}
use Rattle.pec_screen.specs.VerdictReading.{rule_in}
use Rattle.pec_screen.specs.Verdicts.{FindsNone, IsRule, Patterns}
use Rattle.pec_screen.proofs.OccurrenceLemmas.{occurs_is, is_occurs}

-- a pattern whose test fails doesn't occur

fails : (pattern message : Bytes) → occurs pattern message ≡ false → Occurs pattern message → ⊥
fails pattern message e o = false≢true (sym e ∙ is_occurs pattern message o)

test_fails : (pattern message : Bytes) (b : Bool) → occurs pattern message ≡ b → (Occurs pattern message → ⊥) → b ≡ false
test_fails pattern message false e not = refl
test_fails pattern message true e not = absurd (not (occurs_is pattern message e))

-- a place at which no pattern passes, as an element

fails_there : (patterns : Patterns) (message : Bytes) (k : ℕ) (pattern : Bytes) → occurs (get_or patterns k []) message ≡ false
    → slice_get patterns k ≡ Some pattern → Occurs pattern message → ⊥
fails_there patterns message k pattern e there =
    fails pattern message (ap (λ p. occurs p message) (sym (get_or_from_slice_get patterns k pattern [] there)) ∙ e)

pub rule_is : (patterns : Patterns) (message : Bytes) (rule : ℕ) → rule_in patterns message ≡ Some rule → IsRule patterns message rule
unfolding rule_in
rule_is patterns message rule e =
    let found = position-Some (λ pattern. occurs pattern message) patterns rule [] e in
    record {
      pattern = get_or patterns rule [];
      there = slice_get-get_or patterns rule [] found.0;
      occurs = occurs_is (get_or patterns rule []) message found.1;
      least = λ k earlier lt there. fails_there patterns message k earlier (found.2 k lt) there;
    }

first_position : {X : Type 0} (p : X → Bool) (xs : List X) (i : ℕ) (d : X) → i < length xs → p (get_or xs i d) ≡ true
    → ((k : ℕ) → k < i → p (get_or xs k d) ≡ false) → position p xs ≡ Some i
first_position p xs i d within passes before =
    let at : position_or_len p xs ≡ i = position_or_len_is p xs i d (omega (arith, within)) before (λ lt. passes) in
    grind (arith, common_steps)

pub is_rule : (patterns : Patterns) (message : Bytes) (rule : ℕ) → IsRule patterns message rule → rule_in patterns message ≡ Some rule
unfolding rule_in
is_rule patterns message rule is =
    let within = slice_get_within patterns rule is.pattern is.there in
    first_position (λ pattern. occurs pattern message) patterns rule [] within
    (ap (λ p. occurs p message) (get_or_from_slice_get patterns rule is.pattern [] is.there) ∙ is_occurs is.pattern message is.occurs)
    (λ k lt. test_fails (get_or patterns k []) message (occurs (get_or patterns k []) message) refl
    (is.least k (get_or patterns k []) lt (slice_get-get_or patterns k [] (omega (arith, lt, within)))))

no_position : {X : Type 0} (p : X → Bool) (xs : List X) → position p xs ≡ None → length xs ≤ position_or_len p xs
no_position p xs e = grind (arith, common_steps)

pub none_is : (patterns : Patterns) (message : Bytes) → rule_in patterns message ≡ None → FindsNone patterns message
unfolding rule_in
none_is patterns message e k pattern there =
    let past = no_position (λ pattern. occurs pattern message) patterns e in
    let within = slice_get_within patterns k pattern there in
    fails_there patterns message k pattern (fails_before_first (λ pattern. occurs pattern message) patterns k [] (omega (arith, past, within))) there

none_of : (patterns : Patterns) (message : Bytes) (found : Option ℕ) → rule_in patterns message ≡ found → FindsNone patterns message → found ≡ None
none_of patterns message None e none = refl
none_of patterns message (Some rule) e none =
    let is = rule_is patterns message rule e in
    absurd (none rule is.pattern is.there is.occurs)

pub is_none : (patterns : Patterns) (message : Bytes) → FindsNone patterns message → rule_in patterns message ≡ None
is_none patterns message none = none_of patterns message (rule_in patterns message) refl none
