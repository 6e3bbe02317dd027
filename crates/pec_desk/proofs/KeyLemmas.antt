-- Keys are the same where their bytes are.
use Rattle.std.proofs.Common.{◌≡◌, ◌↔◌, ℕ, Bool, true, false, IsTrue, List, length, refl, ap, sym}
use Rattle.std.specs.Str.{bytes_eq}
use Rattle.std.proofs.lemmas.Slice.Eq.{bytes_eq-Decides}

is_false : (b : Bool) → (b ≡ true → ⊥) → b ≡ false
is_false true never = absurd (never refl)
is_false false never = refl

is_true_as : (a b : Bool) → (a ≡ true → b ≡ true) → (b ≡ true → a ≡ true) → a ≡ b
is_true_as true b there back = sym (there refl)
is_true_as false b there back = sym (is_false b (λ e. absurd (false_true (back e))))
  where
    false_true : false ≡ true → ⊥
    false_true e = cc

pub other_length : (given own : List ℕ) → (length given ≡ length own → ⊥) → false ≡ bytes_eq given own
other_length given own differ =
    sym (is_false (bytes_eq given own) (λ e. differ (ap length ((bytes_eq-Decides given own).0 e))))

pub same_as : (given own : List ℕ) (same : Bool) → (IsTrue same ↔ (given ≡ own)) → same ≡ bytes_eq given own
same_as given own same told =
    is_true_as same (bytes_eq given own) (λ e. (bytes_eq-Decides given own).1 (told.0 e))
    (λ e. told.1 ((bytes_eq-Decides given own).0 e))
