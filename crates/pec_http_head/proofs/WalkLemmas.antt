-- Which of the four patterns a router's walk over their rows finds.
use Rattle.std.proofs.Common.{◌≡◌, ◌≢◌, ℕ, suc, ◌+◌, ◌-◌, ◌<◌, ◌==◌, ◌||◌, ◌&&◌, nat_eq, List, [], ◌∷◌, ◌++◌, length, codes, subst, nat_lt, ltb, Option, Some, None, Bool, true, false, cond, refl, ap, ◌∙◌, arith}
use Rattle.std.proofs.lemmas.Bool.{and_parts, eqb-true}
use Rattle.std.proofs.lemmas.Bool.Decides.{nat_tests}
use Rattle.std.proofs.lemmas.List.{length-append}
use Rattle.std.proofs.Math.Seq.{drop-append_seam, drop-length}
use Rattle.std.specs.List.{ends_with, list_all}
use Rattle.std.specs.Str.{bytes_eq}
use Rattle.matchit.specs.Level.{IsText}
use Rattle.matchit.specs.Rows.{Rows, catch_all_token, param_token, prepend}
use Rattle.matchit.specs.Seek.{after_param, cuts, first, has_slash, longest_suffix, param_step, seek, segment, step}
use Rattle.matchit.proofs.SeekLemmas.{first-prefix, or_else-none, param_step-empty, prepend-nil, seek-drop, seek-empty, seek-lit, step-hit, step-miss}
use Rattle.pec_types.specs.Bytes.{Bytes, after_front}
use Rattle.pec_types.specs.Options.{◌>>=◌}

-- what stands behind the account of each pattern
abbrev pub tails : Rows
tails = (codes "book", 0) ∷ (codes "items/" ++ (param_token ∷ []), 1) ∷ (codes "items", 2) ∷ (codes "submit", 3) ∷ []

-- the same behind the slash in front
abbrev pub rests : Rows
rests = prepend (47 ∷ []) tails

abbrev pub place_key : Bytes → Option ℕ
place_key place = cond (length place == 0 || has_slash place) None (Some 1)

-- the row that a text has which stands behind an account
unfoldable pub key_in : Bytes → Option ℕ
key_in rest = cond (bytes_eq rest (codes "submit")) (Some 3) (cond (bytes_eq rest (codes "book")) (Some 0) (cond (bytes_eq rest (codes "items")) (Some 2) (after_front (codes "items/") rest >>= place_key)))

-- one row of bytes is found by these bytes alone
one_row : (word : List ℕ) (key : ℕ) → IsText word → (path : List ℕ) → first (prepend word (([], key) ∷ [])) path ≡ cond (bytes_eq path word) (Some key) None
unfolding seek
one_row [] key t [] = refl
one_row [] key t (b ∷ path) = rw (seek-empty 0 path, param_step-empty (b ∷ path), seek-empty ((param_step {K = ℕ} [] (b ∷ path)).0 - 1) path) refl
one_row (x ∷ word) key t [] = refl
one_row (x ∷ word) key t (b ∷ path) = seek-lit x word (([], key) ∷ []) b path t.0 ∙ by (x == b) refl (one_row word key t.1 path)
  where
    by : (v : Bool) → (x == b) ≡ v → first (prepend word (([], key) ∷ [])) path ≡ cond (bytes_eq path word) (Some key) None
        → seek 0 (step b (prepend (x ∷ word) (([], key) ∷ []))) path ≡ cond (bytes_eq (b ∷ path) (x ∷ word)) (Some key) None
    by true e ih =
        let same : nat_eq b x ≡ true = grind (arith, nat_tests) in
        rw (e, same) ih
    by false e ih =
        let other : nat_eq b x ≡ false = grind (arith, nat_tests) in
        rw (e, other) (seek-empty 0 path)

-- a row that ends in a parameter, and one that ends there
abbrev either : Rows
either = (47 ∷ param_token ∷ [], 1) ∷ ([], 2) ∷ []

-- a parameter takes a part of the path that isn't empty
param_first : (r : Rows) (b : ℕ) (path : List ℕ) → b < 256 → first (prepend (param_token ∷ []) r) (b ∷ path) ≡ after_param r (b ∷ path)
unfolding seek
param_first r b path h =
    let other : param_token ≢ b = λ e. omega arith in
    let none : param_token ≢ catch_all_token = λ e. omega arith in
    rw (
      step-miss b param_token [] r other,
      step-hit param_token [] r,
      prepend-nil r,
      step-miss catch_all_token param_token [] r none,
      seek-empty 0 path,
    ) (or_else-none _)

-- behind the slash of a place: one byte or more, and no slash
last_param : (path : List ℕ) → IsText path → first (prepend (param_token ∷ []) (([], 1) ∷ [])) path ≡ place_key path
unfolding seek param_step
last_param [] t = refl
last_param (b ∷ path) t = param_first (([], 1) ∷ []) b path t.0 ∙ by (has_slash (b ∷ path)) refl
  where
    by : (v : Bool) → has_slash (b ∷ path) ≡ v → after_param (([], 1) ∷ []) (b ∷ path) ≡ place_key (b ∷ path)
    by true e =
        let some : (suc (length path) == 0) ≡ false = grind (arith, nat_tests) in
        rw (e, some) (seek-empty 0 path)
    by false e =
        let size : suc (length path) - 1 ≡ length path = omega arith in
        let some : (suc (length path) == 0) ≡ false = grind (arith, nat_tests) in
        rw (e, size, some) (seek-drop (length path) (([], 1) ∷ []) path ∙ ap (λ left. seek 0 (([], 1) ∷ []) left) (drop-length path))

-- what may stand behind `items`
behind_items : (path : List ℕ) → IsText path → first either path ≡ cond (bytes_eq path []) (Some 2) (after_front (47 ∷ []) path >>= place_key)
unfolding seek after_front
behind_items [] t = refl
behind_items (b ∷ path) t = rw (param_step-empty (b ∷ path), seek-empty ((param_step {K = ℕ} [] (b ∷ path)).0 - 1) path) (or_else-none _ ∙ by (47 == b) refl)
  where
    by : (v : Bool) → (47 == b) ≡ v → seek 0 (step b either) path ≡ (after_front (47 ∷ []) (b ∷ path) >>= place_key)
    by true e =
        let same : nat_eq b 47 ≡ true = grind (arith, nat_tests) in
        rw (e, same) (last_param path t.1)
    by false e =
        let other : nat_eq b 47 ≡ false = grind (arith, nat_tests) in
        rw (e, other) (seek-empty 0 path)

-- the same with bytes in front
behind_word : (word path : List ℕ) → IsText word → IsText path → first (prepend word either) path ≡ cond (bytes_eq path word) (Some 2) (after_front (word ++ 47 ∷ []) path >>= place_key)
unfolding seek after_front
behind_word [] path w t = behind_items path t
behind_word (x ∷ word) [] w t = refl
behind_word (x ∷ word) (b ∷ path) w t = seek-lit x word either b path w.0 ∙ by (x == b) refl (behind_word word path w.1 t.1)
  where
    by : (v : Bool) → (x == b) ≡ v → first (prepend word either) path ≡ cond (bytes_eq path word) (Some 2) (after_front (word ++ 47 ∷ []) path >>= place_key)
        → seek 0 (step b (prepend (x ∷ word) either)) path ≡ cond (bytes_eq (b ∷ path) (x ∷ word)) (Some 2) (after_front ((x ∷ word) ++ 47 ∷ []) (b ∷ path) >>= place_key)
    by true e ih =
        let same : nat_eq b x ≡ true = grind (arith, nat_tests) in
        rw (e, same) ih
    by false e ih =
        let other : nat_eq b x ≡ false = grind (arith, nat_tests) in
        rw (e, other) (seek-empty 0 path)

pub is_text : (word : List ℕ) → list_all (λ b. nat_lt b 256) word ≡ true → IsText word
is_text [] h = record {}
is_text (b ∷ word) h =
    let both : (nat_lt b 256 ≡ true) × (list_all (λ c. nat_lt c 256) word ≡ true) = and_parts _ _ h in
    let below : nat_lt b 256 ≡ true = both.0 in
    (grind (arith, nat_tests), is_text word both.1)

pub tail_found : (rest : Bytes) → IsText rest → first tails rest ≡ key_in rest
unfolding seek key_in after_front
tail_found [] t = refl
tail_found (b ∷ path) t = rw (param_step-empty (b ∷ path), seek-empty ((param_step {K = ℕ} [] (b ∷ path)).0 - 1) path) (or_else-none _ ∙ by (98 == b) (105 == b) (115 == b) refl refl refl)
  where
    Found : ℕ → Type 0
    Found c = seek 0 (step c tails) path ≡ key_in (c ∷ path)

    by : (u v w : Bool) → (98 == b) ≡ u → (105 == b) ≡ v → (115 == b) ≡ w → Found b
    by true v w e f g = subst Found (eqb-true 98 b e) (one_row (codes "ook") 0 (is_text (codes "ook") refl) path)
    by false true w e f g = subst Found (eqb-true 105 b f) (behind_word (codes "tems") path (is_text (codes "tems") refl) t.1)
    by false false true e f g = subst Found (eqb-true 115 b g) (one_row (codes "ubmit") 3 (is_text (codes "ubmit") refl) path)
    by false false false e f g =
        let no_book : nat_eq b 98 ≡ false = grind (arith, nat_tests) in
        let no_item : nat_eq b 105 ≡ false = grind (arith, nat_tests) in
        let no_submission : nat_eq b 115 ≡ false = grind (arith, nat_tests) in
        rw (e, f, g, no_book, no_item, no_submission) (seek-empty 0 path)

ends_on : (b c : ℕ) (path : List ℕ) → ends_with nat_eq (b ∷ c ∷ path) (47 ∷ []) ≡ ends_with nat_eq (c ∷ path) (47 ∷ [])
ends_on b c path =
    let two : suc (suc (length path)) - 1 ≡ suc (length path) = omega arith in
    let one : suc (length path) - 1 ≡ length path = omega arith in
    rw (two, one) refl

pub free : (b : ℕ) (path : List ℕ) → has_slash (b ∷ path) ≡ false → ((b == 47) ≡ false) × (has_slash path ≡ false)
free b path h = by (b == 47) refl h
  where
    by : (v : Bool) → (b == 47) ≡ v → cond v true (has_slash path) ≡ false → ((b == 47) ≡ false) × (has_slash path ≡ false)
    by true e g = absurd cc
    by false e g = (e, g)

-- a text without a slash is one segment, which doesn't end in one
pub no_slash : (path : List ℕ) → has_slash path ≡ false → (segment path ≡ path) × (ends_with nat_eq path (47 ∷ []) ≡ false)
no_slash [] h = (refl, refl)
no_slash (b ∷ []) h =
    let here = (free b [] h).0 in
    let other : nat_eq 47 b ≡ false = grind (arith, nat_tests) in
    (rw here refl, rw other refl)
no_slash (b ∷ c ∷ path) h =
    let parts = free b (c ∷ path) h in
    let rest = no_slash (c ∷ path) parts.1 in
    (rw parts.0 (ap (λ left. b ∷ left) rest.0), ends_on b c path ∙ rest.1)

-- a segment and its slash
pub with_slash : (front rest : List ℕ) → has_slash front ≡ false → (segment (front ++ 47 ∷ rest) ≡ front ++ 47 ∷ []) × (has_slash (front ++ 47 ∷ rest) ≡ true)
with_slash [] rest h = (refl, refl)
with_slash (b ∷ front) rest h =
    let parts = free b front h in
    let rest_is = with_slash front rest parts.1 in
    rw parts.0 (ap (λ left. b ∷ left) rest_is.0, rest_is.1)

ends_so : (front : List ℕ) → ends_with nat_eq (front ++ 47 ∷ []) (47 ∷ []) ≡ true
ends_so front =
    let size : length (front ++ 47 ∷ []) - 1 ≡ length front = omega (arith, length-append front (47 ∷ [])) in
    rw (size, drop-append_seam front (47 ∷ [])) refl

-- the suffix that all four patterns have
suffix : (path : List ℕ) (v : Bool) → cuts path (47 ∷ []) ≡ v → longest_suffix path rests ≡ cond v (47 ∷ []) []
suffix path true h = rw h refl
suffix path false h = rw h refl

-- what a parameter takes in front of that suffix
param_parts : (path : List ℕ) (v : Bool) → cuts (segment path) (47 ∷ []) ≡ v → param_step rests path ≡ cond v (length (segment path) - 1, rests) (cond (has_slash path) (0, []) (length path, rests))
unfolding param_step
param_parts path true h = rw (suffix (segment path) true h) refl
param_parts path false h = rw (suffix (segment path) false h) refl

and_false : (v : Bool) → (v && false) ≡ false
and_false true = refl
and_false false = refl

pub no_segment : (path : List ℕ) → IsText path → has_slash path ≡ false → first (prepend (param_token ∷ []) rests) path ≡ None
unfolding seek
no_segment [] t h = refl
no_segment (b ∷ path) t h =
    let whole = no_slash (b ∷ path) h in
    let uncut : cuts (segment (b ∷ path)) (47 ∷ []) ≡ false = rw (whole.0, whole.1) (and_false (ltb 1 (suc (length path)))) in
    let size : suc (length path) - 1 ≡ length path = omega arith in
    param_first rests b path t.0 ∙ rw (param_parts (b ∷ path) false uncut, h, size) (seek-drop (length path) rests path ∙ ap (λ left. seek 0 rests left) (drop-length path))

pub segment_found : (front rest : List ℕ) → IsText (front ++ 47 ∷ rest) → has_slash front ≡ false
    → first (prepend (param_token ∷ []) rests) (front ++ 47 ∷ rest) ≡ cond (length front == 0) None (first tails rest)
segment_found [] rest t h = param_first rests 47 rest t.0 ∙ rw (param_parts (47 ∷ rest) false refl) (seek-empty 0 rest)
segment_found (b ∷ front) rest t h =
    let whole = with_slash (b ∷ front) rest h in
    let more : length (b ∷ (front ++ 47 ∷ [])) ≡ suc (length front + 1) = ap suc (length-append front (47 ∷ [])) in
    let size : length (b ∷ (front ++ 47 ∷ [])) - 1 - 1 ≡ length front = omega (arith, more) in
    let some : (suc (length front) == 0) ≡ false = grind (arith, nat_tests) in
    let longer : ltb 1 (length (b ∷ (front ++ 47 ∷ []))) ≡ true = grind (arith, nat_tests) in
    let cut : cuts (segment (b ∷ (front ++ 47 ∷ rest))) (47 ∷ []) ≡ true = rw (whole.0, longer, ends_so (b ∷ front)) refl in
    param_first rests b (front ++ 47 ∷ rest) t.0 ∙ rw (param_parts (b ∷ (front ++ 47 ∷ rest)) true cut, whole.0, size, some)
    (seek-drop (length front) rests (front ++ 47 ∷ rest) ∙ ap (λ left. seek 0 rests left) (drop-append_seam front (47 ∷ rest)) ∙ first-prefix (47 ∷ []) tails (47 ∷ rest) (is_text (47 ∷ []) refl))
