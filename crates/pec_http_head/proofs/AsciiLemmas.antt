-- A target that has a route is ASCII.
use Rattle.std.proofs.Common.{◌≡◌, ◌⊎◌, inl, inr, ℕ, zero, suc, ◌<◌, ◌==◌, ◌||◌, ◌&&◌, not, nat_lt, [], ◌∷◌, ◌++◌, take, codes, subst, Option, Some, None, option_map, Result, Ok, Err, Bool, true, false, cond, refl, sym, ◌∙◌, arith}
use Rattle.std.proofs.lemmas.Bool.{and_from, and_parts}
use Rattle.std.proofs.lemmas.Bool.Decides.{nat_tests}
use Rattle.std.proofs.lemmas.List.Folds.{list_all-append}
use Rattle.std.proofs.lemmas.Str.Ascii.{IsAscii-cons, IsAscii-nil}
use Rattle.std.specs.Char.{is_ascii_alphanumeric, is_ascii_digit}
use Rattle.std.specs.Cmp.Lexicographic.{bytes_decides}
use Rattle.std.specs.List.{list_all, list_any, slice_index}
use Rattle.std.specs.Result.{result_ok}
use Rattle.std.specs.Str.{IsAscii, IsNotAscii, bytes_eq}
use Rattle.matchit.specs.Level.{IsText}
use Rattle.matchit.specs.Seek.{has_slash}
use Rattle.pec_types.specs.Address.{Avoids, IsAddress, IsAddressFault, IsReadAs, is_atom_byte}
use Rattle.pec_types.specs.AddressReading.{address_of}
use Rattle.pec_types.specs.Answers.{TellsExactly}
use Rattle.pec_types.specs.Bytes.{Bytes, after_front, at_sign}
use Rattle.pec_types.specs.Options.{◌>>=◌}
use Rattle.pec_words.specs.Numbers.{is_digits}
use Rattle.pec_http_head.specs.declared.routes.Call.{Call}
use Rattle.pec_http_head.specs.declared.routes.Call.TheVariants as calls
use Rattle.pec_http_head.specs.declared.routes.Route.{Route}
use Rattle.pec_http_head.specs.Routes.{account_in, call_in, is_sign, place_in, route_of, signs_read}
use Rattle.pec_http_head.proofs.PatternLemmas.{Parted, front_is, no_digits, no_mail, no_route, not_both, parted, route_cut}

-- what laws of addresses say
abbrev pub AddressesTold : Type 0
AddressesTold = (text : Bytes) → TellsExactly (IsReadAs text) (IsAddressFault text) (address_of text)

abbrev pub OwnBytes : Type 0
OwnBytes = (test : ℕ → Bool) → Avoids test → (bytes : Bytes) → IsAddress bytes → list_all (λ byte. not (test byte)) bytes ≡ true

abbrev pub high : ℕ → Bool
high b = nat_lt 127 b

abbrev pub AreLow : Bytes → Type 0
AreLow bytes = list_all (λ b. not (high b)) bytes ≡ true

low : (b : ℕ) → not (high b) ≡ true → b < 128
low b e = grind (arith, nat_tests)

pub ascii_of : (bytes : Bytes) → AreLow bytes → IsAscii bytes
ascii_of [] h = IsAscii-nil
ascii_of (b ∷ bytes) h =
    let both : (not (high b) ≡ true) × AreLow bytes = and_parts _ _ h in
    IsAscii-cons b bytes (low b both.0) (ascii_of bytes both.1)

pub text_of : (bytes : Bytes) → IsAscii bytes → IsText bytes
text_of [] h = record {}
text_of (b ∷ bytes) h =
    let here : b < 128 = h 0 in
    (omega arith, text_of bytes (λ i. h (suc i)))

together : (front rest : Bytes) → AreLow front → AreLow rest → AreLow (front ++ rest)
together front rest f r = list_all-append (λ b. not (high b)) front rest ∙ and_from _ _ f r

-- ---- addresses

letter : (b : ℕ) → is_ascii_alphanumeric b ≡ true → high b ≡ false
letter b e = grind (arith, nat_tests)

marked : (b : ℕ) (marks : Bytes) → AreLow marks → list_any (λ mark. mark == b) marks ≡ true → high b ≡ false
marked b [] lows any = absurd cc
marked b (m ∷ marks) lows any =
    let both : (not (high m) ≡ true) × AreLow marks = and_parts _ _ lows in
    by both.0 (m == b) refl (marked b marks both.1) any
  where
    by : not (high m) ≡ true → (t : Bool) → (m == b) ≡ t → (list_any (λ mark. mark == b) marks ≡ true → high b ≡ false) → (t || list_any (λ mark. mark == b) marks) ≡ true → high b ≡ false
    by l true e later is = grind (arith, nat_tests)
    by l false e later is = later is

atom : (b : ℕ) → is_atom_byte b ≡ true → high b ≡ false
unfolding is_atom_byte
atom b is = by (is_ascii_alphanumeric b) refl is
  where
    by : (t : Bool) → is_ascii_alphanumeric b ≡ t → (t || list_any (λ mark. mark == b) (codes "!#$%&'*+-/=?^_`{|}~")) ≡ true → high b ≡ false
    by true e any = letter b e
    by false e any = marked b (codes "!#$%&'*+-/=?^_`{|}~") refl any

avoided : Avoids high
avoided = record { atom = atom; alphanumeric = letter; hyphen = refl; dot = refl; at = refl }

-- a segment is ASCII where what is read of it is
signs_low : (passed : ℕ) (text : Bytes) → AreLow (signs_read passed text) → AreLow (take passed text) → AreLow text
signs_low zero [] h g = refl
signs_low zero (b ∷ text) h g = by (is_sign (b ∷ text)) refl h (signs_low 2 text) (signs_low 0 text)
  where
    by : (v : Bool) → is_sign (b ∷ text) ≡ v → (not (high (cond v at_sign b)) && list_all (λ c. not (high c)) (signs_read (cond v 2 0) text)) ≡ true
        → (AreLow (signs_read 2 text) → AreLow (take 2 text) → AreLow text) → (AreLow (signs_read 0 text) → AreLow [] → AreLow text) → AreLow (b ∷ text)
    by true e read sign plain =
        let spelled : b ∷ take 2 text ≡ 37 ∷ 52 ∷ 48 ∷ [] = (bytes_decides (b ∷ take 2 text) (codes "%40")).0 e in
        let first : b ≡ 37 = cc in
        let others : take 2 text ≡ 52 ∷ 48 ∷ [] = cc in
        let here : not (high b) ≡ true = rw first refl in
        let both : (true ≡ true) × AreLow (signs_read 2 text) = and_parts _ _ read in
        and_from _ _ here (sign both.1 (subst AreLow (sym others) refl))
    by false e read sign plain =
        let both : (not (high b) ≡ true) × AreLow (signs_read 0 text) = and_parts _ _ read in
        and_from _ _ both.0 (plain both.1 refl)
signs_low (suc passed) [] h g = refl
signs_low (suc passed) (b ∷ text) h g =
    let both : (not (high b) ≡ true) × AreLow (take passed text) = and_parts _ _ g in
    and_from _ _ both.0 (signs_low passed text h both.1)

account_low : AddressesTold → OwnBytes → (segment address : Bytes) → account_in segment ≡ Some address → AreLow segment
unfolding account_in
account_low told own segment address h = signs_low 0 segment (by (address_of (signs_read 0 segment)) refl h) refl
  where
    by : (read : Result Bytes _) → address_of (signs_read 0 segment) ≡ read → result_ok read ≡ Some address → AreLow (signs_read 0 segment)
    by (Err fault) e g = absurd cc
    by (Ok found) e g = own high avoided (signs_read 0 segment) (((told (signs_read 0 segment)).value found).0 e).0

-- ---- calls

digits_low : (text : Bytes) → list_all is_ascii_digit text ≡ true → AreLow text
digits_low [] h = refl
digits_low (b ∷ text) h =
    let both : (is_ascii_digit b ≡ true) × (list_all is_ascii_digit text ≡ true) = and_parts _ _ h in
    let digit : is_ascii_digit b ≡ true = both.0 in
    let here : not (high b) ≡ true = grind (arith, nat_tests) in
    and_from _ _ here (digits_low text both.1)

place_low : (text : Bytes) (place : ℕ) → place_in text ≡ Some place → AreLow text
place_low text place h = by (is_digits text) refl
  where
    by : (v : Bool) → is_digits text ≡ v → AreLow text
    by true e = digits_low text (and_parts _ _ e).1
    by false e = absurd (not_both place (place_in text) h (no_digits text e))

call_low : (rest : Bytes) (call : Call) → call_in rest ≡ Some call → AreLow rest
unfolding call_in
call_low rest call h = by (bytes_eq rest (codes "submit")) (bytes_eq rest (codes "book")) (bytes_eq rest (codes "items")) (after_front (codes "items/") rest) refl refl refl refl h
  where
    numbered : (digits : Bytes) (place : Option ℕ) → place_in digits ≡ place → option_map calls.Item place ≡ Some call → AreLow digits
    numbered digits None e g = absurd cc
    numbered digits (Some place) e g = place_low digits place e

    by : (u v w : Bool) (found : Option Bytes) → bytes_eq rest (codes "submit") ≡ u → bytes_eq rest (codes "book") ≡ v → bytes_eq rest (codes "items") ≡ w → after_front (codes "items/") rest ≡ found
        → cond u (Some calls.Submit) (cond v (Some calls.Book) (cond w (Some calls.Items) (found >>= λ digits. option_map calls.Item (place_in digits)))) ≡ Some call → AreLow rest
    by true v w found a b c d e = subst AreLow (sym ((bytes_decides rest (codes "submit")).0 a)) refl
    by false true w found a b c d e = subst AreLow (sym ((bytes_decides rest (codes "book")).0 b)) refl
    by false false true found a b c d e = subst AreLow (sym ((bytes_decides rest (codes "items")).0 c)) refl
    by false false false None a b c d e = absurd cc
    by false false false (Some digits) a b c d e = subst AreLow (sym (front_is (codes "items/") rest digits d)) (together (codes "items/") digits refl (numbered digits (place_in digits) refl e))

-- ---- targets

route_low : AddressesTold → OwnBytes → (target : Bytes) (route : Route) → route_of target ≡ Some route → AreLow target
unfolding route_of
route_low told own target route h = by (after_front (codes "/mail/") target) refl h
  where
    of_parts : {path : Bytes} (cut : Parted path) (call : Option Call) (address : Option Bytes) → call_in cut.rest ≡ call → account_in cut.front ≡ address
        → (call >>= λ asked. (address >>= λ found. Some (record { address = found; call = asked }))) ≡ Some route → AreLow (cut.front ++ 47 ∷ cut.rest)
    of_parts cut None address c a e = absurd cc
    of_parts cut (Some asked) None c a e = absurd cc
    of_parts cut (Some asked) (Some address) c a e = together cut.front (47 ∷ cut.rest) (account_low told own cut.front address a) (call_low cut.rest asked c)

    behind_low : (behind : Bytes) → route_of (codes "/mail/" ++ behind) ≡ Some route → (has_slash behind ≡ false) ⊎ Parted behind → AreLow behind
    behind_low behind e (inl none) =
        let without = no_route behind none in
        absurd cc
    behind_low behind e (inr cut) =
        let whole : route_of (codes "/mail/" ++ (cut.front ++ 47 ∷ cut.rest)) ≡ Some route = subst (λ b. route_of (codes "/mail/" ++ b) ≡ Some route) cut.is e in
        subst AreLow (sym cut.is) (of_parts cut (call_in cut.rest) (account_in cut.front) refl refl (sym (route_cut cut.front cut.rest cut.free) ∙ whole))

    by : (found : Option Bytes) → after_front (codes "/mail/") target ≡ found → route_of target ≡ Some route → AreLow target
    by None e g =
        let without : route_of target ≡ None = no_mail target e in
        absurd cc
    by (Some behind) e g =
        let split : target ≡ codes "/mail/" ++ behind = front_is (codes "/mail/") target behind e in
        subst AreLow (sym split) (together (codes "/mail/") behind refl (behind_low behind (subst (λ t. route_of t ≡ Some route) split g) (parted behind)))

pub foreign : AddressesTold → OwnBytes → (target : Bytes) → IsNotAscii target → route_of target ≡ None
foreign told own target is = by (route_of target) refl
  where
    by : (found : Option Route) → route_of target ≡ found → found ≡ None
    by None e = refl
    by (Some route) e =
        let below : slice_index target is.0 < 128 = ascii_of target (route_low told own target route e) is.0 in
        absurd (omega (arith, is.1))
