-- What the parameters of a pattern took from a target that it spells.
use Rattle.std.proofs.Common.{◌≡◌, ℕ, suc, ◌+◌, ◌-◌, ◌≤◌, List, [], ◌∷◌, ◌++◌, append_assoc, length, drop, codes, subst, leb, ltb, Option, Some, None, MatchOption, unwrap_or, true, false, refl, sym, ap, ◌∙◌, arith}
use Rattle.std.proofs.lemmas.Bool.Decides.{nat_tests}
use Rattle.std.proofs.lemmas.List.{length-append}
use Rattle.std.proofs.lemmas.Str.{IsUtf8-from_ascii}
use Rattle.std.proofs.lemmas.Str.Ascii.{IsAscii-cons, IsAscii-nil}
use Rattle.std.proofs.Math.Seq.{drop-append_seam, take-append_seam, take-length}
use Rattle.std.specs.Str.{IsAscii, IsUtf8}
use Rattle.matchit.specs.Level.{IsText}
use Rattle.matchit.specs.Params.{AllText, named, part_of, walk, wild_from, wild_stop}
use Rattle.matchit.specs.Router.{RouteOf}
use Rattle.matchit.specs.Rows.{RowsOf, param_token}
use Rattle.matchit.specs.Seek.{first, has_slash, segment}
use Rattle.pec_types.specs.Bytes.{Bytes}
use Rattle.pec_http_head.specs.declared.patterns.Asked.{Asked}
use Rattle.pec_http_head.specs.declared.patterns.Asked.TheVariants.{Submit, Book, Items, Item}
use Rattle.pec_http_head.specs.Patterns.{IsSpelled, behind_account, entry_of, rows, tokens}
use Rattle.pec_http_head.proofs.AsciiLemmas.{AreLow, ascii_of, text_of}
use Rattle.pec_http_head.proofs.PatternLemmas.{outcome, something_found}
use Rattle.pec_http_head.proofs.WalkLemmas.{is_text, with_slash}

-- over bytes a walk goes one place on for each
on_bytes : (word rest : List ℕ) (size token at : ℕ) → IsText word → at + length word ≤ size → wild_from (word ++ rest) size token at ≡ wild_from rest size (token + length word) (at + length word)
on_bytes [] rest size token at t h =
    let same_token : token + 0 ≡ token = omega arith in
    let same_place : at + 0 ≡ at = omega arith in
    rw (same_token, same_place) refl
on_bytes (b ∷ word) rest size token at t h =
    let byte : ltb b param_token ≡ true = grind (arith, nat_tests, t.0) in
    let within : ltb at size ≡ true = grind (arith, nat_tests, h) in
    let next_token : token + suc (length word) ≡ (token + 1) + length word = omega arith in
    let next_place : at + suc (length word) ≡ (at + 1) + length word = omega arith in
    rw (byte, within, next_token, next_place) (on_bytes word rest size (token + 1) (at + 1) t.1 (omega (arith, h)))

-- what stands between two places
middle : (front part rest : Bytes) → part_of (front ++ (part ++ rest)) (length front) (length front + length part) ≡ part
middle front part rest =
    let whole : length (front ++ (part ++ rest)) ≡ length front + length (part ++ rest) = length-append front (part ++ rest) in
    let behind : length (part ++ rest) ≡ length part + length rest = length-append part rest in
    let rises : leb (length front) (length front + length part) ≡ true = grind (arith, nat_tests) in
    let within : leb (length front + length part) (length (front ++ (part ++ rest))) ≡ true = grind (arith, nat_tests) in
    let size : (length front + length part) - length front ≡ length part = omega arith in
    rw (rises, within, size, drop-append_seam front (part ++ rest), take-append_seam part rest) refl

last : (front part : Bytes) → part_of (front ++ part) (length front) (length (front ++ part)) ≡ part
last front part =
    let whole : length (front ++ part) ≡ length front + length part = length-append front part in
    let rises : leb (length front) (length (front ++ part)) ≡ true = grind (arith, nat_tests) in
    let within : leb (length (front ++ part)) (length (front ++ part)) ≡ true = grind (arith, nat_tests) in
    let size : length (front ++ part) - length front ≡ length part = omega (arith, whole) in
    rw (rises, within, size, drop-append_seam front part) (take-length part)

-- ---- the four patterns

-- where the account begins
account_from : (asked : Asked) (size : ℕ) → 6 ≤ size → wild_from (entry_of asked).pattern size 0 0 ≡ (6, 6)
unfolding entry_of tokens
account_from Submit size h = on_bytes (codes "/mail/") (param_token ∷ 47 ∷ codes "submit") size 0 0 (is_text (codes "/mail/") refl) h
account_from Book size h = on_bytes (codes "/mail/") (param_token ∷ 47 ∷ codes "book") size 0 0 (is_text (codes "/mail/") refl) h
account_from Items size h = on_bytes (codes "/mail/") (param_token ∷ 47 ∷ codes "items") size 0 0 (is_text (codes "/mail/") refl) h
account_from Item size h = on_bytes (codes "/mail/") (param_token ∷ 47 ∷ codes "items/" ++ (param_token ∷ [])) size 0 0 (is_text (codes "/mail/") refl) h

-- and where it ends
segment_size : (account rest : Bytes) → has_slash account ≡ false → 6 + length (segment (account ++ 47 ∷ rest)) - 1 ≡ 6 + length account
segment_size account rest h =
    let size : length (account ++ 47 ∷ []) ≡ length account + 1 = length-append account (47 ∷ []) in
    rw (with_slash account rest h).0 (omega (arith, size))

account_stop : (asked : Asked) (account rest : Bytes) → has_slash account ≡ false
    → wild_stop (entry_of asked).pattern 6 (codes "/mail/" ++ (account ++ 47 ∷ rest)) 6 ≡ 6 + length account
unfolding entry_of tokens
account_stop Submit account rest h = segment_size account rest h
account_stop Book account rest h = segment_size account rest h
account_stop Items account rest h = segment_size account rest h
account_stop Item account rest h = segment_size account rest h

one_part : (pattern text path : List ℕ) (stop : ℕ) → wild_from pattern (length path) 0 0 ≡ (6, 6) → wild_stop pattern 6 path 6 ≡ stop
    → walk pattern text path ((7, 14) ∷ []) 0 0 ≡ (part_of text 7 14, part_of path 6 stop) ∷ []
one_part pattern text path stop begins ends = rw (begins, ends) refl

two_parts : (pattern text path : List ℕ) (stop later end : ℕ) → wild_from pattern (length path) 0 0 ≡ (6, 6) → wild_stop pattern 6 path 6 ≡ stop
    → wild_from (drop 7 pattern) (length path) 7 stop ≡ (14, later) → wild_stop pattern 14 path later ≡ end
    → walk pattern text path ((7, 14) ∷ (23, 28) ∷ []) 0 0 ≡ (part_of text 7 14, part_of path 6 stop) ∷ (part_of text 23 28, part_of path later end) ∷ []
two_parts pattern text path stop later end begins ends again over = rw (begins, ends, again, over) refl

abbrev pub Parts : Type 0
Parts = List (List ℕ × List ℕ)

-- the parts of a target that a pattern spells
abbrev pub parts : Asked → Bytes → Parts
parts asked target = walk (entry_of asked).pattern (entry_of asked).text target (entry_of asked).names 0 0

abbrev pub parts_as : Asked → Bytes → Bytes → Parts
parts_as Item account place = (codes "address", account) ∷ (codes "place", place) ∷ []
parts_as asked account place = (codes "address", account) ∷ []

module _ (asked : Asked) (account rest path : Bytes) (is : path ≡ codes "/mail/" ++ (account ++ 47 ∷ rest)) (free : has_slash account ≡ false) where
  begins : wild_from (entry_of asked).pattern (length path) 0 0 ≡ (6, 6)
  begins = account_from asked (length path) (omega (arith, ap length is))

  ends : wild_stop (entry_of asked).pattern 6 path 6 ≡ 6 + length account
  ends = ap (λ p. wild_stop (entry_of asked).pattern 6 p 6) is ∙ account_stop asked account rest free

  account_part : part_of path 6 (6 + length account) ≡ account
  account_part = ap (λ p. part_of p 6 (6 + length account)) is ∙ middle (codes "/mail/") account (47 ∷ rest)

  one_is : walk (entry_of asked).pattern (entry_of asked).text path ((7, 14) ∷ []) 0 0 ≡ (part_of (entry_of asked).text 7 14, account) ∷ []
  one_is = one_part (entry_of asked).pattern (entry_of asked).text path (6 + length account) begins ends ∙ ap (λ part. (part_of (entry_of asked).text 7 14, part) ∷ []) account_part

-- the place behind `items/`
module _ (account place path : Bytes) (is : path ≡ codes "/mail/" ++ (account ++ 47 ∷ (codes "items/" ++ place))) where
  front : Bytes
  front = codes "/mail/" ++ (account ++ 47 ∷ codes "items/")

  joined : path ≡ front ++ place
  unfolding front
  joined = is ∙ ap (λ right. codes "/mail/" ++ right) (sym (append_assoc account (47 ∷ codes "items/") place))

  size : length front ≡ 6 + length account + 7
  unfolding front
  size = omega (arith, length-append account (47 ∷ codes "items/"))

  long : 6 + length account + 7 ≤ length path
  long = omega (arith, ap length joined, length-append front place, size)

  place_from : wild_from (drop 7 (entry_of Item).pattern) (length path) 7 (6 + length account) ≡ (14, 6 + length account + 7)
  unfolding entry_of tokens
  place_from = on_bytes (47 ∷ codes "items/") (param_token ∷ []) (length path) 7 (6 + length account) (is_text (47 ∷ codes "items/") refl) long

  place_stop : wild_stop (entry_of Item).pattern 14 path (6 + length account + 7) ≡ length path
  unfolding entry_of tokens
  place_stop = refl

  place_part : part_of path (6 + length account + 7) (length path) ≡ place
  place_part = ap (λ p. part_of p (6 + length account + 7) (length p)) joined ∙ (ap (λ n. part_of (front ++ place) n (length (front ++ place))) (sym size) ∙ last front place)

parts_are : (asked : Asked) (account place : Bytes) → has_slash account ≡ false → parts asked (codes "/mail/" ++ (account ++ 47 ∷ behind_account asked place)) ≡ parts_as asked account place
unfolding entry_of behind_account
parts_are Submit account place h = one_is Submit account (codes "submit") _ refl h
parts_are Book account place h = one_is Book account (codes "book") _ refl h
parts_are Items account place h = one_is Items account (codes "items") _ refl h
parts_are Item account place h =
    let path : Bytes = codes "/mail/" ++ (account ++ 47 ∷ (codes "items/" ++ place)) in
    two_parts (entry_of Item).pattern (entry_of Item).text path (6 + length account) (6 + length account + 7) (length path)
    (begins Item account (codes "items/" ++ place) path refl h) (ends Item account (codes "items/" ++ place) path refl h)
    (place_from account place path refl) (place_stop account place path refl)
    ∙ (ap (λ part. (codes "address", part) ∷ (codes "place", part_of path (6 + length account + 7) (length path)) ∷ []) (account_part Item account (codes "items/" ++ place) path refl h)
    ∙ ap (λ part. (codes "address", account) ∷ (codes "place", part) ∷ []) (place_part account place path refl))

-- ---- what a router's match says of them

ascii_front : (front rest : Bytes) → IsAscii (front ++ rest) → IsAscii front
ascii_front [] rest h = IsAscii-nil
ascii_front (b ∷ front) rest h = IsAscii-cons b front (h 0) (ascii_front front rest (λ i. h (suc i)))

ascii_behind : (front rest : Bytes) → IsAscii (front ++ rest) → IsAscii rest
ascii_behind [] rest h = h
ascii_behind (b ∷ front) rest h = ascii_behind front rest (λ i. h (suc i))

literal : (word : Bytes) → AreLow word → IsUtf8 word
literal word low = IsUtf8-from_ascii word (ascii_of word low)

texts : (asked : Asked) (account place : Bytes) → IsAscii account → IsAscii (behind_account asked place) → AllText (parts_as asked account place)
unfolding behind_account
texts Submit account place a b = (literal (codes "address") refl, IsUtf8-from_ascii account a, record {})
texts Book account place a b = (literal (codes "address") refl, IsUtf8-from_ascii account a, record {})
texts Items account place a b = (literal (codes "address") refl, IsUtf8-from_ascii account a, record {})
texts Item account place a b = (literal (codes "address") refl, IsUtf8-from_ascii account a, (literal (codes "place") refl, IsUtf8-from_ascii place (ascii_behind (codes "items/") place b), record {}))

pub place_named : Asked → Bytes → Option Bytes
place_named Item place = Some place
place_named asked place = None

pub record Told (asked : Asked) (account place : Bytes) (found : Parts) : Type 0 where
  pub all_text : AllText found
  pub address : named (codes "address") found ≡ Some account
  pub number : named (codes "place") found ≡ place_named asked place

told_as : (asked : Asked) (account place : Bytes) → AllText (parts_as asked account place) → Told asked account place (parts_as asked account place)
unfolding place_named
told_as Submit account place t = record { all_text = t; address = refl; number = refl }
told_as Book account place t = record { all_text = t; address = refl; number = refl }
told_as Items account place t = record { all_text = t; address = refl; number = refl }
told_as Item account place t = record { all_text = t; address = refl; number = refl }

pub parts_told : (target : Bytes) (asked : Asked) (account place : Bytes) → IsAscii target → IsSpelled target asked account place → Told asked account place (parts asked target)
parts_told target asked account place ascii is =
    let whole : IsAscii (codes "/mail/" ++ (account ++ 47 ∷ behind_account asked place)) = subst IsAscii is.spelled ascii in
    let behind = ascii_behind (codes "/mail/") (account ++ 47 ∷ behind_account asked place) whole in
    let last_part : IsAscii (behind_account asked place) = λ i. ascii_behind account (47 ∷ behind_account asked place) behind (suc i) in
    let found : parts asked target ≡ parts_as asked account place = ap (parts asked) is.spelled ∙ parts_are asked account place is.segment in
    subst (Told asked account place) (sym found) (told_as asked account place (texts asked account place (ascii_front account (47 ∷ behind_account asked place) behind) last_part))

-- what a match of the router with the four patterns says of a target
pub record Matched (target : Bytes) (asked : Asked) (found : Parts) : Type 0 where
  pub account : Bytes
  pub place : Bytes
  pub spelled : IsSpelled target asked account place
  pub told : Told asked account place found

own_value : (asked : Asked) → (entry_of asked).value ≡ asked
unfolding entry_of
own_value Submit = refl
own_value Book = refl
own_value Items = refl
own_value Item = refl

pub matched : (target path taken : Bytes) (router : RowsOf (RouteOf Asked)) (entry : RouteOf Asked) → router ≡ rows → IsAscii target → path ≡ target → taken ≡ path → first router path ≡ Some entry
    → Matched target entry.value (walk entry.pattern entry.text taken entry.names 0 0)
matched target path taken router entry holds ascii same over is =
    let at : first rows target ≡ Some entry = ap (λ all. first all target) (sym holds) ∙ (ap (first router) (sym same) ∙ is) in
    let found = something_found target entry (first rows target) (outcome target (text_of target ascii)) at in
    let told : Told found.asked found.account found.place (parts found.asked target) = parts_told target found.asked found.account found.place ascii found.spelled in
    let value : entry.value ≡ found.asked = ap (λ one. one.value) found.is ∙ own_value found.asked in
    subst (λ asked. Matched target asked (walk entry.pattern entry.text taken entry.names 0 0)) (sym value)
    (subst (λ one. Matched target found.asked (walk one.pattern one.text taken one.names 0 0)) (sym found.is)
    (subst (λ bytes. Matched target found.asked (walk (entry_of found.asked).pattern (entry_of found.asked).text bytes (entry_of found.asked).names 0 0)) (sym (over ∙ same))
    (record { account = found.account; place = found.place; spelled = found.spelled; told = told })))

pub not_absent : (found : Option Bytes) (part : Bytes) → found ≡ None → found ≡ Some part → ⊥
not_absent None part e f = absurd cc
not_absent (Some other) part e f = absurd cc

same_behind : {V : Type 0} (bytes : V → Bytes) (asked : Asked) (place : Bytes) (number : Option Bytes) (got : Option V) (none : V) → number ≡ place_named asked place
    → MatchOption got (number ≡ None) (λ part. number ≡ Some (bytes part)) → behind_account asked (bytes (unwrap_or got none)) ≡ behind_account asked place
unfolding behind_account place_named
same_behind bytes Submit place number got none is told = refl
same_behind bytes Book place number got none is told = refl
same_behind bytes Items place number got none is told = refl
same_behind bytes Item place number None none is told = absurd (not_absent number place told is)
same_behind bytes Item place number (Some part) none is told =
    let both : Some (bytes part) ≡ Some place = sym told ∙ is in
    let same : bytes part ≡ place = cc in
    ap (λ left. codes "items/" ++ left) same

pub spelled_so : {V : Type 0} (bytes : V → Bytes) (target : Bytes) (asked : Asked) (found : Parts) (is : Matched target asked found) (account place : Bytes) (got : Option V) (none : V)
    → named (codes "address") found ≡ Some account → MatchOption got (named (codes "place") found ≡ None) (λ part. named (codes "place") found ≡ Some (bytes part))
    → place ≡ bytes (unwrap_or got none) → IsSpelled target asked account place
spelled_so bytes target asked found is account place got none at told given =
    let both : Some is.account ≡ Some account = sym is.told.address ∙ at in
    let same : is.account ≡ account = cc in
    let behind : behind_account asked is.place ≡ behind_account asked place = sym (ap (behind_account asked) given ∙ same_behind bytes asked is.place (named (codes "place") found) got none is.told.number told) in
    record {
      spelled = is.spelled.spelled ∙ (ap (λ front. codes "/mail/" ++ (front ++ 47 ∷ behind_account asked is.place)) same ∙ ap (λ rest. codes "/mail/" ++ (account ++ 47 ∷ rest)) behind);
      segment = subst (λ front. has_slash front ≡ false) same is.spelled.segment;
    }
