-- Numbers are read exactly.
use Rattle.std.proofs.Common.{◌≡◌, ℕ, zero, suc, ◌+◌, ◌*◌, ◌/◌, ◌%◌, ◌^◌, ◌<◌, ◌≤◌, Bool, true, false, ltb, List, [], ◌∷◌, ◌++◌, Ok, Err, IsTrue, refl, sym, ap, subst, ◌∙◌, arith, ltb-true, lt-ltb, ◌&&◌}
use Rattle.std.proofs.Math.Nat.{pow-suc, div-one, div-eq_of_lt-le, div-mul-le_self, lt-div-mul-add, div-lt_iff_lt-mul, mul-le-mul_right, one-le-pow, mod-lt}
use Rattle.std.proofs.lemmas.Nat.{mod-mul-add, le-div}
use Rattle.std.proofs.lemmas.Bool.{and_from}
use Rattle.std.specs.Int.{byte_at as byte_of, bytes_high_first}
use Rattle.pec_grammar.specs.Grammar.{Cursor, Read, Grammar, ◌>>=◌, byte_at, byte, seen_at}
use Rattle.pec_grammar.specs.Dependent.{linked_at, linked}
use Rattle.pec_grammar.specs.Numbers.{can_follow, digit_at, number_at, number}
use Rattle.pec_grammar.proofs.Parts.{Lawful, byte_lawful}
use Rattle.pec_grammar.proofs.Sequences.{Views, seen_lawful, same_lawful}
use Rattle.pec_grammar.proofs.DependentLaws.{linked_lawful}

-- the numbers below the bound whose bytes above the low ones make `high`
pub record IsPart (count bound high n : ℕ) : Type 0 where
  pub below : n < bound
  pub least : high * 256 ^ count ≤ n
  pub most : n < (high + 1) * 256 ^ count

abbrev part : ℕ → ℕ → ℕ → Grammar ℕ
part count bound high = record { Fits = IsPart count bound high; spell = bytes_high_first count; read = number_at bound count high }

no_bytes : (high n : ℕ) → high * 256 ^ 0 ≤ n → n < (high + 1) * 256 ^ 0 → n ≡ high
no_bytes high n least most = omega arith

empty_lawful : (bound high : ℕ) → high < bound → Lawful (part 0 bound high)
unfolding number_at
empty_lawful bound high lt =
    let own : IsPart 0 bound high high = record { below = lt; least = omega arith; most = omega arith } in
    record {
      one = λ x y a b x_fits y_fits same. (no_bytes high x x_fits.least x_fits.most ∙ sym (no_bytes high y y_fits.least y_fits.most), same);
      some = (high, own);
      answers = λ at. record { fits = own; parts = refl; keeps = λ s le. refl };
    }

byte_is : (k n : ℕ) → byte_of k n ≡ n / 256 ^ k % 256
byte_is zero n = ap (λ m. m % 256) (sym (div-one n))
byte_is (suc k) n = refl

unit_some : (k : ℕ) → 0 < 256 ^ k
unit_some k = one-le-pow k 256 (omega arith)

-- what a byte's test says
record Follows (bound left high b : ℕ) : Type 0 where
  pub small : b < 256
  pub below : (high * 256 + b) * 256 ^ left < bound

followed_by : (bound left high b : ℕ) → IsTrue (can_follow bound left high b) → Follows bound left high b
followed_by bound left high b passes = by_test (ltb b 256) refl passes
  where
    by_test : (x : Bool) → ltb b 256 ≡ x → IsTrue (x && ltb ((high * 256 + b) * 256 ^ left) bound) → Follows bound left high b
    by_test true small below = record { small = ltb-true b 256 small; below = ltb-true ((high * 256 + b) * 256 ^ left) bound below }
    by_test false small below = absurd (let h : ⊥ = cc in h)

may_follow : (bound left high b : ℕ) → b < 256 → (high * 256 + b) * 256 ^ left < bound → IsTrue (can_follow bound left high b)
may_follow bound left high b small below = and_from (ltb b 256) (ltb ((high * 256 + b) * 256 ^ left) bound) (lt-ltb b 256 small) (lt-ltb ((high * 256 + b) * 256 ^ left) bound below)

-- one byte, and the numbers that it begins
module _ (k bound high : ℕ) where
  longer : (b n : ℕ) → b < 256 → IsPart k bound (high * 256 + b) n → IsPart (suc k) bound high n
  longer b n small is =
      let room : (b + 1) * 256 ^ k ≤ 256 * 256 ^ k = mul-le-mul_right (256 ^ k) (omega arith) in
      record {
        below = is.below;
        least = rw (pow-suc 256 k) (omega (arith, is.least));
        most = rw (pow-suc 256 k) (omega (arith, is.most, room));
      }

  first_byte : (b n : ℕ) → b < 256 → IsPart k bound (high * 256 + b) n → byte_of k n ≡ b
  first_byte b n small is =
      byte_is k n ∙ (ap (λ q. q % 256) (div-eq_of_lt-le {k = high * 256 + b} (256 ^ k) is.least is.most) ∙ mod-mul-add high 256 b small)

  -- the upper bytes of a number, the last of them behind `high`
  upper : (n : ℕ) → IsPart (suc k) bound high n → n / 256 ^ k ≡ high * 256 + byte_of k n
  upper n is =
      let q = n / 256 ^ k in
      let wider : 256 ^ suc k ≡ 256 ^ k * 256 = pow-suc 256 k in
      let low = subst (λ u. high * u ≤ n) wider is.least in
      let top = subst (λ u. n < (high + 1) * u) wider is.most in
      let least : high * 256 * 256 ^ k ≤ n = omega (arith, low) in
      let most : n < (high * 256 + 256) * 256 ^ k = omega (arith, top) in
      let under : q < high * 256 + 256 = (div-lt_iff_lt-mul {k = 256 ^ k} (unit_some k)).1 most in
      let over : high * 256 ≤ q = le-div (high * 256) n (256 ^ k) (unit_some k) least in
      let same : byte_of k n ≡ q % 256 = byte_is k n in
      grind (arith, same, under, over)

  shorter : (n : ℕ) → IsPart (suc k) bound high n → IsPart k bound (high * 256 + byte_of k n) n
  shorter n is =
      let e = upper n is in
      record {
        below = is.below;
        least = subst (λ q. q * 256 ^ k ≤ n) e (div-mul-le_self n (256 ^ k));
        most = subst (λ q. n < (q + 1) * 256 ^ k) e (let h = lt-div-mul-add {a = n} {b = 256 ^ k} (unit_some k) in omega (arith, h));
      }

  begins : (n : ℕ) → IsPart (suc k) bound high n → IsTrue (can_follow bound k high (byte_of k n))
  begins n is =
      let s = shorter n is in
      may_follow bound k high (byte_of k n) (subst (λ b. b < 256) (sym (byte_is k n)) (mod-lt (n / 256 ^ k) (omega arith))) (omega (arith, s.least, s.below))

  first_views : Views (linked (byte (can_follow bound k high)) (λ b. part k bound (high * 256 + b))) (part (suc k) bound high) (λ p. p.1) (λ n. (byte_of k n, n))
  first_views = record {
    there = λ p fits. longer p.0 p.1 (followed_by bound k high p.0 fits.0).small fits.1;
    spelled = λ p fits. ap (λ b. b ∷ bytes_high_first k p.1) (first_byte p.0 p.1 (followed_by bound k high p.0 fits.0).small fits.1);
    again = λ n fits. (begins n fits, shorter n fits);
    respelled = λ n fits. refl;
    undone = λ n fits. refl;
  }

  number_step : (at : Cursor) (r : Read ℕ) → (seen_at (λ b. high * 256 + b) (λ _. r) at >>= λ h. number_at bound k h.0 h.1)
      ≡ seen_at (λ p. p.1) (linked_at (λ _. r) (λ b. number_at bound k (high * 256 + b))) at
  number_step at (Ok taken) = rest_step (number_at bound k (high * 256 + taken.0) taken.1)
    where
      rest_step : (r : Read ℕ) → r ≡ seen_at (λ p. p.1) (linked_at (λ _. Ok taken) (λ _ _. r)) at
      rest_step (Ok b) = refl
      rest_step (Err stop) = refl
  number_step at (Err stop) = refl

part_lawful : (k bound high : ℕ) → high * 256 ^ k < bound → Lawful (part k bound high)
unfolding number_at digit_at
part_lawful zero bound high some = empty_lawful bound high (omega (arith, some))
part_lawful (suc k) bound high some =
    let wider : high * (256 ^ k * 256) < bound = subst (λ u. high * u < bound) (pow-suc 256 k) some in
    let first : (high * 256 + 0) * 256 ^ k < bound = omega (arith, wider) in
    seen_lawful (linked (byte (can_follow bound k high)) (λ b. part k bound (high * 256 + b))) (part (suc k) bound high) (λ p. p.1) (λ n. (byte_of k n, n))
    (first_views k bound high)
    (λ at. number_step k bound high at (byte_at (can_follow bound k high) at))
    (linked_lawful (byte (can_follow bound k high)) (λ b. part k bound (high * 256 + b))
    (byte_lawful (can_follow bound k high) 0 (may_follow bound k high 0 (omega arith) first))
    (λ b passes. part_lawful k bound (high * 256 + b) (followed_by bound k high b passes).below))

pub number_lawful : (count bound : ℕ) → 0 < bound → bound ≤ 256 ^ count → Lawful (number count bound)
number_lawful count bound some fits =
    same_lawful (part count bound 0) (number count bound)
    (λ n is. is.below)
    (λ n below. record { below = below; least = omega arith; most = omega (arith, below, fits) })
    (λ n is. refl)
    (λ at. refl)
    (part_lawful count bound 0 (omega (arith, some)))
