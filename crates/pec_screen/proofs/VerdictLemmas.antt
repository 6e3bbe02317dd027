-- The verdict of boxes, from what each of them finds.
use Rattle.std.proofs.Common.{◌≡◌, ℕ, zero, suc, ◌<◌, List, [], ◌∷◌, ◌++◌, Option, Some, None, IfSome, option_map, length, map, get_or, take, drop, slice_get, refl, sym, ap, subst, ◌∙◌, arith}
use Rattle.std.proofs.lemmas.List.{append-nil, drop_all, map-id, take_all}
use Rattle.std.proofs.lemmas.Option.{get_or_from_slice_get, none-some, same_Some, slice_get-get_or, slice_get_within}
use Rattle.pec_types.specs.Bytes.{Bytes}
use Rattle.pec_screen.specs.VerdictReading.{first_verdict, rule_in, verdict}
use Rattle.pec_screen.specs.Verdicts.{AllFindNone, FindsNone, IsVerdict, Patterns}
use Rattle.pec_screen.proofs.RuleLemmas.{rule_is, is_rule, none_is, is_none}

-- of two lists that agree at each place, what is made of their elements is the same
maps_agree : {X Z : Type 0} (f g : X → Z) (xs ys : List X) → length xs ≡ length ys
    → ((k : ℕ) (d : X) → k < length ys → f (get_or xs k d) ≡ g (get_or ys k d)) → map f xs ≡ map g ys
maps_agree f g [] [] same each = refl
maps_agree f g [] (y ∷ ys) same each = absurd (omega (arith, same))
maps_agree f g (x ∷ xs) [] same each = absurd (omega (arith, same))
maps_agree f g (x ∷ xs) (y ∷ ys) same each =
    rw (each 0 x (omega arith), maps_agree f g xs ys (omega (arith, same)) (λ k d lt. each (suc k) d (omega (arith, lt)))) refl

-- what is made of what is made of each
pub map_twice : {X Y Z : Type 0} (f : Y → Z) (g : X → Y) (xs : List X) → map f (map g xs) ≡ map (λ x. f (g x)) xs
map_twice f g [] = refl
map_twice f g (x ∷ xs) = ap (λ rest. f (g x) ∷ rest) (map_twice f g xs)

-- the first box that finds a rule gives the verdict
first_gives : {X : Type 0} (patterns : X → Patterns) (message : Bytes) (boxes : List X) (place rule : ℕ) → place < length boxes
    → ((d : X) → rule_in (patterns (get_or boxes place d)) message ≡ Some rule)
    → ((k : ℕ) (d : X) → k < place → rule_in (patterns (get_or boxes k d)) message ≡ None)
    → verdict (map patterns boxes) message ≡ Some (place, rule)
first_gives patterns message [] place rule within finds before = absurd (omega (arith, within))
first_gives patterns message (box ∷ boxes) zero rule within finds before = rw (finds box) refl
first_gives patterns message (box ∷ boxes) (suc place) rule within finds before =
    let later = first_gives patterns message boxes place rule (omega (arith, within)) (λ d. finds d) (λ k d lt. before (suc k) d (omega (arith, lt))) in
    rw (before 0 box (omega arith), later) refl

-- where no box finds one, there is none
none_gives : {X : Type 0} (patterns : X → Patterns) (message : Bytes) (boxes : List X)
    → ((k : ℕ) (d : X) → k < length boxes → rule_in (patterns (get_or boxes k d)) message ≡ None)
    → verdict (map patterns boxes) message ≡ None
none_gives patterns message [] before = refl
none_gives patterns message (box ∷ boxes) before =
    rw (before 0 box (omega arith), none_gives patterns message boxes (λ k d lt. before (suc k) d (omega (arith, lt)))) refl

-- what was found of boxes that were lent, as their verdict
pub verdict_of_found : {X : Type 0} (boxes lent : List X) (patterns : X → Patterns) (message : Bytes) (found : Option (ℕ × ℕ)) → lent ≡ boxes
    → IfSome found (λ at. (at.0 < length lent)
    × ((d : X) → rule_in (patterns (get_or lent at.0 d)) message ≡ Some at.1)
    × ((k : ℕ) (d : X) → k < at.0 → rule_in (patterns (get_or lent k d)) message ≡ None))
    → (found ≡ None → (k : ℕ) (d : X) → k < length lent → rule_in (patterns (get_or lent k d)) message ≡ None)
    → found ≡ verdict (map patterns boxes) message
verdict_of_found boxes lent patterns message None same some none =
    sym (none_gives patterns message lent (none refl)) ∙ ap (λ all. verdict (map patterns all) message) same
verdict_of_found boxes lent patterns message (Some at) same some none =
    sym (first_gives patterns message lent at.0 at.1 some.0 some.1 some.2) ∙ ap (λ all. verdict (map patterns all) message) same

-- what holds of each box that was lent and came back, as said of the whole list
pub all_of_each : {X Z : Type 0} (boxes lent back : List X) (n : ℕ) (f g : X → Z) → lent ≡ boxes → n ≡ length boxes → length back ≡ length lent
    → ((k : ℕ) (d : X) → k < length lent → f (get_or back k d) ≡ g (get_or lent k d))
    → map f (take n (back ++ drop (length back) boxes)) ≡ map g boxes
all_of_each boxes lent back n f g same whole long each =
    let size : length boxes ≡ length back = sym (long ∙ ap length same) in
    ap (map f) (ap (take n) (ap (λ rest. back ++ rest) (drop_all (length back) boxes (omega (arith, size))) ∙ append-nil back)
    ∙ take_all n back (omega (arith, whole, size)))
    ∙ maps_agree f g back lent long each ∙ ap (map g) same

-- the verdict as a relation, and back

abbrev Verdict : List Patterns → Bytes → Option (ℕ × ℕ) → Type 0
Verdict boxes message None = AllFindNone boxes message
Verdict boxes message (Some at) = IsVerdict boxes message at.0 at.1

at_first : (patterns : Patterns) (boxes : List Patterns) (message : Bytes) (rule : ℕ) → rule_in patterns message ≡ Some rule
    → IsVerdict (patterns ∷ boxes) message 0 rule
at_first patterns boxes message rule e = record {
  patterns = patterns;
  there = refl;
  finds = rule_is patterns message rule e;
  first = λ k earlier lt. absurd (omega (arith, lt));
}

none_before : (patterns : Patterns) (boxes : List Patterns) (message : Bytes) (place : ℕ) → FindsNone patterns message
    → ((k : ℕ) (earlier : Patterns) → k < place → slice_get boxes k ≡ Some earlier → FindsNone earlier message)
    → (k : ℕ) (earlier : Patterns) → k < suc place → slice_get (patterns ∷ boxes) k ≡ Some earlier → FindsNone earlier message
none_before patterns boxes message place none before zero earlier lt there =
    subst (λ p. FindsNone p message) (same_Some _ _ there) none
none_before patterns boxes message place none before (suc k) earlier lt there = before k earlier (omega (arith, lt)) there

all_later : (patterns : Patterns) (boxes : List Patterns) (message : Bytes) → FindsNone patterns message → AllFindNone boxes message
    → AllFindNone (patterns ∷ boxes) message
all_later patterns boxes message none all zero earlier there = subst (λ p. FindsNone p message) (same_Some _ _ there) none
all_later patterns boxes message none all (suc k) earlier there = all k earlier there

one_later : (patterns : Patterns) (boxes : List Patterns) (message : Bytes) (found : Option (ℕ × ℕ)) → FindsNone patterns message
    → Verdict boxes message found → Verdict (patterns ∷ boxes) message (option_map (λ at. (suc at.0, at.1)) found)
one_later patterns boxes message None none v = all_later patterns boxes message none v
one_later patterns boxes message (Some at) none v = record {
  patterns = v.patterns;
  there = v.there;
  finds = v.finds;
  first = λ k earlier lt. none_before patterns boxes message at.0 none v.first k earlier (omega (arith, lt));
}

by_first : (patterns : Patterns) (boxes : List Patterns) (message : Bytes) (rule : Option ℕ) (found : Option (ℕ × ℕ))
    → rule_in patterns message ≡ rule → Verdict boxes message found → Verdict (patterns ∷ boxes) message (first_verdict rule found)
by_first patterns boxes message (Some rule) found e v = at_first patterns boxes message rule e
by_first patterns boxes message None found e v = one_later patterns boxes message found (none_is patterns message e) v

verdict_holds : (boxes : List Patterns) (message : Bytes) → Verdict boxes message (verdict boxes message)
verdict_holds [] message = λ k earlier there. absurd (none-some _ there)
verdict_holds (patterns ∷ boxes) message =
    by_first patterns boxes message (rule_in patterns message) (verdict boxes message) refl (verdict_holds boxes message)

pub verdict_is : (boxes : List Patterns) (message : Bytes) (place rule : ℕ) → verdict boxes message ≡ Some (place, rule)
    → IsVerdict boxes message place rule
verdict_is boxes message place rule e = subst (Verdict boxes message) e (verdict_holds boxes message)

pub no_verdict_is : (boxes : List Patterns) (message : Bytes) → verdict boxes message ≡ None → AllFindNone boxes message
no_verdict_is boxes message e = subst (Verdict boxes message) e (verdict_holds boxes message)

pub is_verdict : (boxes : List Patterns) (message : Bytes) (place rule : ℕ) → IsVerdict boxes message place rule
    → verdict boxes message ≡ Some (place, rule)
is_verdict boxes message place rule is =
    let within = slice_get_within boxes place is.patterns is.there in
    ap (λ all. verdict all message) (sym (map-id boxes))
    ∙ first_gives (λ p. p) message boxes place rule within
    (λ d. ap (λ p. rule_in p message) (get_or_from_slice_get boxes place is.patterns d is.there) ∙ is_rule is.patterns message rule is.finds)
    (λ k d lt. is_none (get_or boxes k d) message (is.first k (get_or boxes k d) lt (slice_get-get_or boxes k d (omega (arith, lt, within)))))

pub is_no_verdict : (boxes : List Patterns) (message : Bytes) → AllFindNone boxes message → verdict boxes message ≡ None
is_no_verdict boxes message none =
    ap (λ all. verdict all message) (sym (map-id boxes))
    ∙ none_gives (λ p. p) message boxes (λ k d lt. is_none (get_or boxes k d) message (none k (get_or boxes k d) (slice_get-get_or boxes k d lt)))
