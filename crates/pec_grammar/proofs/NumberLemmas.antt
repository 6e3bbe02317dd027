-- The loop over a number's bytes, a turn at a time, and its arithmetic.
use Rattle.std.proofs.Common.{◌≡◌, ℕ, zero, suc, ◌+◌, ◌-◌, ◌*◌, ◌^◌, ◌<◌, ◌≤◌, min, Bool, true, false, cond, ltb, Option, Some, None, Ok, Err, refl, sym, ap, subst, ◌∙◌, arith, ltb-true, ltb-false, lt-ltb, le-ltb, ◌&&◌}
use Rattle.std.proofs.Math.Nat.{pow-le-pow_right, one-le-pow, mul-le-mul_left}
use Rattle.pec_grammar.specs.Grammar.{Cursor, Read, ◌>>=◌}
use Rattle.pec_grammar.specs.Numbers.{can_follow, digit_at, number_at}

next_is : (bound left high : ℕ) (at : Cursor) → 0 < left → number_at bound left high at ≡ (digit_at bound (left - 1) high at >>= λ h. number_at bound (left - 1) h.0 h.1)
unfolding number_at
next_is bound zero high at lt = absurd (omega arith)
next_is bound (suc left) high at lt = let e : suc left - 1 ≡ left = omega arith in rw e refl

pub number_goes_on : (bound left high h : ℕ) (at after : Cursor) (total : Read ℕ) → 0 < left → digit_at bound (left - 1) high at ≡ Ok (h, after)
    → total ≡ number_at bound left high at → total ≡ number_at bound (left - 1) h after
number_goes_on bound left high h at after total lt read so_far =
    so_far ∙ (next_is bound left high at lt ∙ ap (λ r. r >>= λ x. number_at bound (left - 1) x.0 x.1) read)

pub number_stops : (bound left high : ℕ) (at : Cursor) (stop : _) (total : Read ℕ) → 0 < left → digit_at bound (left - 1) high at ≡ Err stop
    → total ≡ number_at bound left high at → total ≡ Err stop
number_stops bound left high at stop total lt read so_far =
    so_far ∙ (next_is bound left high at lt ∙ ap (λ r. r >>= λ x. number_at bound (left - 1) x.0 x.1) read)

pub number_ends : (bound left high : ℕ) (at : Cursor) (total : Read ℕ) → left ≤ 0 → total ≡ number_at bound left high at → total ≡ Ok (high, at)
unfolding number_at
number_ends bound zero high at total le so_far = so_far
number_ends bound (suc left) high at total le so_far = absurd (omega arith)

pub unit_fits : (left : ℕ) → left < 8 → 256 ^ left < 2 ^ 64
unit_fits left lt =
    let le : 256 ^ left ≤ 256 ^ 7 = pow-le-pow_right {n = 256} (omega arith) {i = left} {j = 7} (omega arith) in
    omega (arith, le)

-- a product that stays below the bound was not cut off anywhere
pub further_is : (bound left high b scaled sum unit product : ℕ) → b < 256 → bound < 2 ^ 64 → scaled ≡ min (high * 256) (2 ^ 64 - 1) → sum ≡ min (scaled + b) (2 ^ 64 - 1)
    → unit ≡ 256 ^ left → product ≡ min (sum * unit) (2 ^ 64 - 1) → product < bound
    → (Some sum ≡ cond (can_follow bound left high b) (Some (high * 256 + b)) None) × (sum < bound)
further_is bound left high b scaled sum unit product small fits scaled_is sum_is unit_is product_is below =
    let some : 1 ≤ unit = subst (λ u. 1 ≤ u) (sym unit_is) (one-le-pow left 256 (omega arith)) in
    let more : sum * 1 ≤ sum * unit = mul-le-mul_left sum some in
    let value : sum ≡ high * 256 + b = omega (arith, scaled_is, sum_is, product_is, below, fits, more) in
    let under : sum * unit < bound = omega (arith, product_is, below, fits) in
    let goes : (high * 256 + b) * 256 ^ left < bound = subst (λ u. (high * 256 + b) * u < bound) unit_is (subst (λ n. n * unit < bound) value under) in
    (rw (lt-ltb b 256 small, lt-ltb ((high * 256 + b) * 256 ^ left) bound goes) (ap (λ n. Some n) value), omega (arith, more, under))
