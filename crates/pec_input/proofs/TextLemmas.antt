-- Bytes that may be no text.
use Rattle.std.proofs.Common.{◌≡◌, ℕ, Bool, true, false, cond, List, Some, None, refl, ap}
use Rattle.std.proofs.lemmas.Str.{IsUtf8-from_is_utf8, is_utf8-from_IsUtf8}
use Rattle.std.specs.Str.{IsUtf8, is_utf8}

pub text_there : (bytes text : List ℕ) → text ≡ bytes → IsUtf8 bytes
    → Some text ≡ cond (is_utf8 bytes) (Some bytes) None
text_there bytes text same utf8 = rw (is_utf8-from_IsUtf8 bytes utf8) (ap (λ x. Some x) same)

pub no_text : (bytes : List ℕ) → (IsUtf8 bytes → ⊥) → None ≡ cond (is_utf8 bytes) (Some bytes) None
no_text bytes other = by_test (is_utf8 bytes) refl
  where
    by_test : (x : Bool) → is_utf8 bytes ≡ x → None ≡ cond x (Some bytes) None
    by_test true is = absurd (other (IsUtf8-from_is_utf8 bytes is))
    by_test false is = refl
