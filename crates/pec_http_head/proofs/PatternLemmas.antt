-- What a target's route is, by the pattern that the router finds for it.
use Rattle.std.proofs.Common.{◌≡◌, ◌⊎◌, inl, inr, ℕ, zero, suc, ◌+◌, ◌==◌, ◌||◌, not, nat_eq, nat_lt, [], ◌∷◌, ◌++◌, length, drop, take, codes, subst, Option, Some, None, option_map, Bool, true, false, cond, refl, sym, ap, ◌∙◌, arith}
use Rattle.std.proofs.lemmas.Bool.{and_parts, eqb-true}
use Rattle.std.proofs.lemmas.Bool.Decides.{nat_tests}
use Rattle.std.proofs.lemmas.List.{length-append, take-append-drop}
use Rattle.std.proofs.Math.Seq.{drop-append-add, take-append_seam}
use Rattle.std.specs.Char.{is_ascii_digit}
use Rattle.std.specs.Cmp.Lexicographic.{bytes_decides}
use Rattle.std.specs.List.{list_all, position_or_len, starts_with}
use Rattle.std.specs.Str.{bytes_eq}
use Rattle.matchit.specs.Level.{IsText}
use Rattle.matchit.specs.Rows.{param_token, prepend}
use Rattle.matchit.specs.Router.{RouteOf, map_key, rename}
use Rattle.matchit.specs.Seek.{first, has_slash}
use Rattle.matchit.proofs.RenameLemmas.{first-rename}
use Rattle.matchit.proofs.SeekLemmas.{first-prefix}
use Rattle.pec_types.specs.AddressReading.{address_of}
use Rattle.pec_types.specs.Bytes.{Bytes, after_front}
use Rattle.pec_types.specs.Options.{◌>>=◌}
use Rattle.pec_words.specs.Numbers.{below, digits_number, has_zero_in_front, is_digits, number_below}
use Rattle.pec_http_head.specs.declared.patterns.Asked.{Asked}
use Rattle.pec_http_head.specs.declared.patterns.Asked.TheVariants.{Submit, Book, Items, Item}
use Rattle.pec_http_head.specs.declared.routes.Call.TheVariants as calls
use Rattle.pec_http_head.specs.Patterns.{IsSpelled, behind_account, call_as, entry_of, row_of, rows, tokens}
use Rattle.pec_http_head.specs.Routes.{account_in, call_in, is_slash, place_in, route_of, segment_at}
use Rattle.pec_http_head.proofs.WalkLemmas.{free, is_text, key_in, no_segment, place_key, rests, segment_found, tail_found, tails}

-- ---- numbers

pub no_digits : (text : Bytes) → is_digits text ≡ false → place_in text ≡ None
unfolding place_in number_below digits_number
no_digits text h = rw h (by (has_zero_in_front text))
  where
    by : (v : Bool) → cond v None (None >>= below 1000000000) ≡ None
    by true = refl
    by false = refl

digits_free : (text : Bytes) → list_all is_ascii_digit text ≡ true → has_slash text ≡ false
digits_free [] h = refl
digits_free (b ∷ text) h =
    let both : (is_ascii_digit b ≡ true) × (list_all is_ascii_digit text ≡ true) = and_parts _ _ h in
    let digit : is_ascii_digit b ≡ true = both.0 in
    let other : (b == 47) ≡ false = grind (arith, nat_tests) in
    rw other (digits_free text both.1)

digits_found : (place : Bytes) → is_digits place ≡ true → place_key place ≡ Some 1
digits_found place h =
    let both : (not (length place == 0) ≡ true) × (list_all is_ascii_digit place ≡ true) = and_parts _ _ h in
    let some : (length place == 0) ≡ false = not_true (length place == 0) both.0 in
    rw (some, digits_free place both.1) refl
  where
    not_true : (v : Bool) → not v ≡ true → v ≡ false
    not_true true e = cc
    not_true false e = refl

pub not_both : (key : ℕ) (found : Option ℕ) → found ≡ Some key → found ≡ None → ⊥
not_both key None e f = absurd cc
not_both key (Some one) e f = absurd cc

no_place : (place : Bytes) → place_key place ≡ None → place_in place ≡ None
no_place place h = by (is_digits place) refl
  where
    by : (v : Bool) → is_digits place ≡ v → place_in place ≡ None
    by false e = no_digits place e
    by true e = absurd (not_both 1 (place_key place) (digits_found place e) h)

-- ---- calls

no_call : (rest : Bytes) → key_in rest ≡ None → call_in rest ≡ None
unfolding key_in call_in
no_call rest h = by (bytes_eq rest (codes "submit")) (bytes_eq rest (codes "book")) (bytes_eq rest (codes "items")) (after_front (codes "items/") rest) h
  where
    by : (u v w : Bool) (found : Option Bytes) → cond u (Some 3) (cond v (Some 0) (cond w (Some 2) (found >>= place_key))) ≡ None
        → cond u (Some calls.Submit) (cond v (Some calls.Book) (cond w (Some calls.Items) (found >>= λ digits. option_map calls.Item (place_in digits)))) ≡ None
    by true v w found e = absurd cc
    by false true w found e = absurd cc
    by false false true found e = absurd cc
    by false false false None e = refl
    by false false false (Some place) e = rw (no_place place e) refl

abbrev at_key : ℕ → RouteOf Asked
at_key zero = entry_of Book
at_key (suc zero) = entry_of Item
at_key (suc (suc zero)) = entry_of Items
at_key (suc (suc (suc n))) = entry_of Submit

rows_named : rows ≡ rename at_key (prepend (codes "/mail/") (prepend (param_token ∷ []) rests))
unfolding rows row_of entry_of tokens
rows_named = refl

pub calls_as : (asked : Asked) (place : Bytes) → call_in (behind_account asked place) ≡ call_as asked place
unfolding call_in behind_account call_as after_front
calls_as Submit place = refl
calls_as Book place = refl
calls_as Items place = refl
calls_as Item place = refl

account_of_none : account_in [] ≡ None
unfolding account_in address_of
account_of_none = refl

-- ---- cuts

prefix_of : (front rest : Bytes) → has_slash front ≡ false → position_or_len is_slash (front ++ 47 ∷ rest) ≡ length front
prefix_of [] rest h = refl
prefix_of (b ∷ front) rest h =
    let parts = free b front h in
    rw parts.0 (omega (arith, prefix_of front rest parts.1))

prefix_whole : (path : Bytes) → has_slash path ≡ false → position_or_len is_slash path ≡ length path
prefix_whole [] h = refl
prefix_whole (b ∷ path) h =
    let parts = free b path h in
    rw parts.0 (omega (arith, prefix_whole path parts.1))

cut_there : (front rest : Bytes) → has_slash front ≡ false → segment_at (front ++ 47 ∷ rest) ≡ Some (front, rest)
unfolding segment_at
cut_there front rest h =
    let size : length (front ++ 47 ∷ rest) ≡ length front + suc (length rest) = length-append front (47 ∷ rest) in
    let within : nat_lt (length front) (length (front ++ 47 ∷ rest)) ≡ true = grind (arith, nat_tests) in
    rw (prefix_of front rest h, within, take-append_seam front (47 ∷ rest), drop-append-add front (47 ∷ rest) 1) refl

no_cut : (path : Bytes) → has_slash path ≡ false → segment_at path ≡ None
unfolding segment_at
no_cut path h =
    let within : nat_lt (length path) (length path) ≡ false = grind (arith, nat_tests) in
    rw (prefix_whole path h, within) refl

pub record Parted (path : Bytes) : Type 0 where
  pub front : Bytes
  pub rest : Bytes
  pub is : path ≡ front ++ 47 ∷ rest
  pub free : has_slash front ≡ false

pub parted : (path : Bytes) → (has_slash path ≡ false) ⊎ Parted path
parted [] = inl refl
parted (b ∷ path) = by (b == 47) refl (parted path)
  where
    by : (v : Bool) → (b == 47) ≡ v → (has_slash path ≡ false) ⊎ Parted path → (has_slash (b ∷ path) ≡ false) ⊎ Parted (b ∷ path)
    by true e later = inr (record { front = []; rest = path; is = ap (λ c. c ∷ path) (eqb-true b 47 e); free = refl })
    by false e (inl none) = inl (rw e none)
    by false e (inr later) = inr (record { front = b ∷ later.front; rest = later.rest; is = ap (λ left. b ∷ left) later.is; free = rw e later.free })

text_behind : (front rest : Bytes) → IsText (front ++ rest) → IsText rest
text_behind [] rest t = t
text_behind (b ∷ front) rest t = text_behind front rest t.1

-- ---- routes

pub route_cut : (front rest : Bytes) → has_slash front ≡ false
    → route_of (codes "/mail/" ++ (front ++ 47 ∷ rest)) ≡ (call_in rest >>= λ call. (account_in front >>= λ address. Some (record { address = address; call = call })))
unfolding route_of after_front
route_cut front rest h = rw (cut_there front rest h) refl

pub spelled_route : (target : Bytes) (asked : Asked) (account place : Bytes) → IsSpelled target asked account place
    → route_of target ≡ (call_as asked place >>= λ call. (account_in account >>= λ address. Some (record { address = address; call = call })))
spelled_route target asked account place is =
    ap route_of is.spelled ∙ route_cut account (behind_account asked place) is.segment ∙ rw (calls_as asked place) refl

pub no_route : (path : Bytes) → has_slash path ≡ false → route_of (codes "/mail/" ++ path) ≡ None
unfolding route_of after_front
no_route path h = rw (no_cut path h) refl

-- what the walk finds for a target
pub record Found (target : Bytes) (entry : RouteOf Asked) : Type 0 where
  pub asked : Asked
  pub account : Bytes
  pub place : Bytes
  pub is : entry ≡ entry_of asked
  pub spelled : IsSpelled target asked account place

abbrev pub Outcome : Bytes → Option (RouteOf Asked) → Type 0
Outcome target None = route_of target ≡ None
Outcome target (Some entry) = Found target entry

abbrev none_after : {A B : Type 0} → A → Option B
none_after one = None

none_behind : {A B : Type 0} (found : Option A) → (found >>= none_after {A = A} {B = B}) ≡ None
none_behind None = refl
none_behind (Some one) = refl

pub front_is : (word text rest : Bytes) → after_front word text ≡ Some rest → text ≡ word ++ rest
unfolding after_front
front_is word text rest h = by (bytes_eq (take (length word) text) word) refl h
  where
    by : (v : Bool) → bytes_eq (take (length word) text) word ≡ v → cond v (Some (drop (length word) text)) None ≡ Some rest → text ≡ word ++ rest
    by true e g =
        let same : drop (length word) text ≡ rest = cc in
        let front : take (length word) text ≡ word = (bytes_decides (take (length word) text) word).0 e in
        sym (take-append-drop (length word) text) ∙ (ap (λ left. left ++ drop (length word) text) front ∙ ap (λ right. word ++ right) same)
    by false e g = absurd cc

no_front : (word text : Bytes) → starts_with nat_eq text word ≡ false → after_front word text ≡ None
unfolding after_front
no_front word text h = by (bytes_eq (take (length word) text) word) refl
  where
    by : (v : Bool) → bytes_eq (take (length word) text) word ≡ v → cond v (Some (drop (length word) text)) None ≡ None
    by true e =
        let same : word ≡ take (length word) text = sym ((bytes_decides (take (length word) text) word).0 e) in
        let starts : starts_with nat_eq text word ≡ true = (bytes_decides word (take (length word) text)).1 same in
        absurd cc
    by false e = refl

abbrev pub Spelling : Bytes → ℕ → Type 0
Spelling rest key = (asked : Asked) × (place : Bytes) × (at_key key ≡ entry_of asked) × (rest ≡ behind_account asked place)

key_spelled : (rest : Bytes) (key : ℕ) → key_in rest ≡ Some key → Spelling rest key
unfolding key_in behind_account
key_spelled rest key h = by (bytes_eq rest (codes "submit")) (bytes_eq rest (codes "book")) (bytes_eq rest (codes "items")) (after_front (codes "items/") rest) refl refl refl refl h
  where
    by : (u v w : Bool) (found : Option Bytes) → bytes_eq rest (codes "submit") ≡ u → bytes_eq rest (codes "book") ≡ v → bytes_eq rest (codes "items") ≡ w → after_front (codes "items/") rest ≡ found
        → cond u (Some 3) (cond v (Some 0) (cond w (Some 2) (found >>= place_key))) ≡ Some key → Spelling rest key
    by true v w found a b c d e =
        let same : 3 ≡ key = cc in
        (Submit, [], ap at_key (sym same), (bytes_decides rest (codes "submit")).0 a)
    by false true w found a b c d e =
        let same : 0 ≡ key = cc in
        (Book, [], ap at_key (sym same), (bytes_decides rest (codes "book")).0 b)
    by false false true found a b c d e =
        let same : 2 ≡ key = cc in
        (Items, [], ap at_key (sym same), (bytes_decides rest (codes "items")).0 c)
    by false false false None a b c d e = absurd cc
    by false false false (Some place) a b c d e = for_place (length place == 0 || has_slash place) e
      where
        for_place : (t : Bool) → cond t None (Some 1) ≡ Some key → Spelling rest key
        for_place true g = absurd cc
        for_place false g =
            let same : 1 ≡ key = cc in
            (Item, place, ap at_key (sym same), front_is (codes "items/") rest place d)

outcome_behind : (front rest : Bytes) → IsText rest → has_slash front ≡ false → Outcome (codes "/mail/" ++ (front ++ 47 ∷ rest)) (map_key at_key (cond (length front == 0) None (first tails rest)))
outcome_behind [] rest t h = route_cut [] rest refl ∙ rw account_of_none (none_behind (call_in rest))
outcome_behind (b ∷ front) rest t h =
    let some : (suc (length front) == 0) ≡ false = grind (arith, nat_tests) in
    rw (some, tail_found rest t) (by (key_in rest) refl)
  where
    by : (found : Option ℕ) → key_in rest ≡ found → Outcome (codes "/mail/" ++ (b ∷ front ++ 47 ∷ rest)) (map_key at_key found)
    by None e = route_cut (b ∷ front) rest h ∙ rw (no_call rest e) refl
    by (Some key) e =
        let spelling = key_spelled rest key e in
        record {
          asked = spelling.0;
          account = b ∷ front;
          place = spelling.1;
          is = spelling.2;
          spelled = record { spelled = ap (λ right. codes "/mail/" ++ (b ∷ front ++ 47 ∷ right)) spelling.3; segment = h };
        }

outcome_mail : (behind : Bytes) → IsText behind → Outcome (codes "/mail/" ++ behind) (map_key at_key (first (prepend (param_token ∷ []) rests) behind))
outcome_mail behind t = by (parted behind)
  where
    by : (has_slash behind ≡ false) ⊎ Parted behind → Outcome (codes "/mail/" ++ behind) (map_key at_key (first (prepend (param_token ∷ []) rests) behind))
    by (inl none) = rw (no_segment behind t none) (no_route behind none)
    by (inr cut) =
        let text : IsText (cut.front ++ 47 ∷ cut.rest) = subst IsText cut.is t in
        subst (λ b. Outcome (codes "/mail/" ++ b) (map_key at_key (first (prepend (param_token ∷ []) rests) b))) (sym cut.is)
        (rw (segment_found cut.front cut.rest text cut.free) (outcome_behind cut.front cut.rest (text_behind cut.front (47 ∷ cut.rest) text).1 cut.free))

pub no_mail : (text : Bytes) → after_front (codes "/mail/") text ≡ None → route_of text ≡ None
unfolding route_of
no_mail text g = rw g refl

pub outcome : (target : Bytes) → IsText target → Outcome target (first rows target)
outcome target t =
    let found = ap (λ all. first all target) rows_named ∙ first-rename at_key (prepend (codes "/mail/") (prepend (param_token ∷ []) rests)) target
    ∙ ap (map_key at_key) (first-prefix (codes "/mail/") (prepend (param_token ∷ []) rests) target (is_text (codes "/mail/") refl)) in
    subst (Outcome target) (sym found) (by (starts_with nat_eq target (codes "/mail/")) refl)
  where
    by : (v : Bool) → starts_with nat_eq target (codes "/mail/") ≡ v → Outcome target (map_key at_key (cond v (first (prepend (param_token ∷ []) rests) (drop 6 target)) None))
    by true e =
        let split : target ≡ codes "/mail/" ++ drop 6 target = sym (take-append-drop 6 target) ∙ ap (λ left. left ++ drop 6 target) (sym ((bytes_decides (codes "/mail/") (take 6 target)).0 e)) in
        let text : IsText (drop 6 target) = text_behind (codes "/mail/") (drop 6 target) (subst IsText split t) in
        subst (λ whole. Outcome whole (map_key at_key (first (prepend (param_token ∷ []) rests) (drop 6 target)))) (sym split) (outcome_mail (drop 6 target) text)
    by false e = no_mail target (no_front (codes "/mail/") target e)

-- no route, where the walk finds nothing
pub nothing_found : (target : Bytes) (found : Option (RouteOf Asked)) → Outcome target found → found ≡ None → route_of target ≡ None
nothing_found target None is e = is
nothing_found target (Some entry) is e = absurd cc

-- a pattern that spells the target, where it finds one
pub something_found : (target : Bytes) (entry : RouteOf Asked) (found : Option (RouteOf Asked)) → Outcome target found → found ≡ Some entry → Found target entry
something_found target entry None is e = absurd cc
something_found target entry (Some other) is e =
    let same : other ≡ entry = cc in
    subst (Found target) same is
