-- Lemmas on the moments that a clock in memory has to come.
use Rattle.std.proofs.Common.{◌≡◌, ℕ, zero, suc, ◌+◌, ◌-◌, ◌<◌, min, List, [], ◌∷◌, length, drop, sym, ap, ◌∙◌, arith}
use Rattle.std.specs.Prelude.{slice_index_or}
use Rattle.pec_outside.specs.Clocks.{ClockState, IsNext, moments_behind}
use Rattle.pec_outside.specs.Memory.{CallState}

-- the moment at a place is the next of those from there on
pub next_at : (moments : List ℕ) (at moment : ℕ) → at < length moments → moment ≡ slice_index_or moments at moment
    → IsNext moment (drop at moments)
next_at [] at moment within is = absurd (omega (arith, within))
next_at (first ∷ more) zero moment within is = is
next_at (first ∷ more) (suc at) moment within is = next_at more at moment (omega (arith, within)) is

-- what comes behind the moment at a place
pub behind_place : (moments : List ℕ) (at : ℕ) → at < length moments
    → moments_behind (drop at moments) ≡ drop (min (at + 1) (length moments - 1)) moments
behind_place [] at within = absurd (omega (arith, within))
behind_place (last ∷ []) zero within =
    let none : zero ≡ min (zero + 1) (length (last ∷ []) - 1) = omega arith in
    ap (λ n. drop n (last ∷ [])) none
behind_place (last ∷ []) (suc at) within = absurd (omega (arith, within))
behind_place (first ∷ second ∷ more) zero within =
    let one : 1 ≡ min (zero + 1) (length (first ∷ second ∷ more) - 1) = omega arith in
    ap (λ n. drop n (first ∷ second ∷ more)) one
behind_place (first ∷ second ∷ more) (suc at) within =
    let place : suc (min (at + 1) (length (second ∷ more) - 1)) ≡ min (suc at + 1) (length (first ∷ second ∷ more) - 1) = omega arith in
    behind_place (second ∷ more) at (omega (arith, within)) ∙ ap (λ n. drop n (first ∷ second ∷ more)) place

abbrev pub clock : List ℕ → CallState → ClockState
clock coming calls = record { coming = coming; calls = calls }

-- the clock behind the moment at a place
pub clock_behind : (moments : List ℕ) (at place : ℕ) (calls calls_then : CallState) (was : ClockState) → clock (drop at moments) calls ≡ was
    → at < length moments → place ≡ min (at + 1) (length moments - 1) → (answered : CallState → CallState) → calls_then ≡ answered calls
    → clock (drop place moments) calls_then ≡ clock (moments_behind was.coming) (answered was.calls)
clock_behind moments at place calls calls_then was is within place_is answered made =
    ap (λ n. clock (drop n moments) calls_then) place_is
    ∙ ap (λ coming. clock coming calls_then) (sym (behind_place moments at within))
    ∙ ap (λ c. clock (moments_behind (drop at moments)) c) made
    ∙ ap (λ (s : ClockState). clock (moments_behind s.coming) (answered s.calls)) is
