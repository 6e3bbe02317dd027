-- The seals of providers by HMAC are lawful: what `HmacSealer` shows for the law of sealers. It stands in specs, since the
-- impl cites it.
use Rattle.std.proofs.Common.{◌≡◌, ◌≢◌, ℕ, not, List, [], ◌∷◌, ◌++◌, zero, suc, length, slice_index, refl, ap, subst, sym, ◌∙◌, arith, Some}
use Rattle.std.specs.List.{All, AllPairs, slice_get, slice_index_or, position, position_or_len}
use Rattle.std.specs.Int.{w32, to_be_bytes}
use Rattle.std.specs.Str.{bytes_eq}
use Rattle.std.proofs.lemmas.Bool.{false_from_ne_true, lt-ltb}
use Rattle.std.proofs.lemmas.List.Quantifiers.{position-Some}
use Rattle.std.proofs.lemmas.List.Sums.{prefix_len_is}
use Rattle.std.proofs.lemmas.Option.{get_or_from_slice_get, slice_get_within, slice_get-get_or}
use Rattle.std.proofs.lemmas.Slice.Eq.{bytes_eq-Decides}
use Rattle.sha2.specs.Sha256.{sha256, digest_bytes}
use Rattle.sha2.proofs.Facts256.{length-sha256}
use Rattle.base64.specs.GeneralPurpose.{IsBytes}
use Rattle.pec_types.specs.Text.{AllPrintable}
use Rattle.pec_seal.specs.Seals.{AreLawful, IsTag}
use Rattle.pec_seal.specs.Hmac.{hmac, hmac_seals}

-- ---- a digest is 32 bytes

IsBytes-append : (a b : List ℕ) → IsBytes a → IsBytes b → IsBytes (a ++ b)
IsBytes-append [] b left right i = right i
IsBytes-append (x ∷ a) b left right zero = left 0
IsBytes-append (x ∷ a) b left right (suc i) = IsBytes-append a b (λ k. left (suc k)) right i

IsBytes-word : (n : ℕ) → IsBytes (to_be_bytes w32 n)
IsBytes-word n zero = omega arith
IsBytes-word n (suc zero) = omega arith
IsBytes-word n (suc (suc zero)) = omega arith
IsBytes-word n (suc (suc (suc zero))) = omega arith
IsBytes-word n (suc (suc (suc (suc i)))) = omega arith

IsBytes-digest_bytes : (hash : List ℕ) (n : ℕ) → IsBytes (digest_bytes hash n)
unfolding digest_bytes
IsBytes-digest_bytes hash zero = λ i. omega arith
IsBytes-digest_bytes hash (suc n) = IsBytes-append _ _ (IsBytes-digest_bytes hash n) (IsBytes-word (slice_index hash n))

IsTag-hmac : (key bytes : List ℕ) → IsTag (hmac key bytes)
unfolding hmac sha256
IsTag-hmac key bytes = record { size = length-sha256 _; bytes = IsBytes-digest_bytes _ 8 }

-- ---- names and numbers

named : (names : List (List ℕ)) (name : List ℕ) (provider : ℕ)
    → position (λ other. bytes_eq other name) names ≡ Some provider → slice_get names provider ≡ Some name
named names name provider found =
    let at = position-Some (λ other. bytes_eq other name) names provider [] found in
    slice_get-get_or names provider [] at.0 ∙ ap Some ((bytes_eq-Decides _ name).0 at.1)

numbered : (names : List (List ℕ)) (name : List ℕ) (provider : ℕ) → AllPairs ◌≢◌ names
    → slice_get names provider ≡ Some name → position (λ other. bytes_eq other name) names ≡ Some provider
numbered names name provider different found =
    let within = slice_get_within names provider name found in
    let here : slice_index_or names provider [] ≡ name = get_or_from_slice_get names provider name [] found in
    let first : position_or_len (λ other. bytes_eq other name) names ≡ provider =
    prefix_len_is (λ other. not (bytes_eq other name)) names provider [] (omega arith)
    (λ k before. ap not (false_from_ne_true _ (λ e.
    different k provider [] before within ((bytes_eq-Decides _ name).0 e ∙ sym here))))
    (λ _. ap not ((bytes_eq-Decides _ name).1 here)) in
    rw (first, lt-ltb provider (length names) within) refl

pub hmac_lawful : (names keys : List (List ℕ)) → AllPairs ◌≢◌ names → All AllPrintable names
    → AreLawful (hmac_seals names keys)
hmac_lawful names keys different printable = record {
  each_others = λ provider name. (named names name provider, numbered names name provider different);
  printable = λ provider name found.
      let here = printable provider [] (slice_get_within names provider name found) in
      subst AllPrintable (get_or_from_slice_get names provider name [] found) here;
  tags = λ provider bytes. IsTag-hmac (slice_index_or keys provider []) bytes;
}
