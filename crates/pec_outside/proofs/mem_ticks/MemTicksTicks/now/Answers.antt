use Rattle.std.proofs.Common.{◌≡◌, ℕ, ◌+◌, ◌-◌, ◌<◌, min, List, length, drop, subst, sym, ap, ◌∙◌, arith}
use Rattle.pec_outside.specs.Clocks.{ClockState, IsNext, moments_behind}
use Rattle.pec_outside.specs.Memory.{answered}
use Rattle.pec_outside.proofs.ClockLemmas.{behind_place, clock_behind, next_at}
use Rattle.pec_outside.proofs.mem_ticks.MemTicksTicks.now.Goals as goal

pub returns-clause-given : goal.returns-clause-given
returns-clause-given c =
    let items = c.self.inside.moments.items in
    let at = c.self.inside.at in
    let within : at < length items = omega (arith, c.self.invariant, c.self.inside.moments.ok.0) in
    let place : c.min-self-inside.result ≡ min (at + 1) (length items - 1) = omega (arith, c.min-self-inside.ensures, c.len.ensures, c.self.inside.moments.ok.0) in
    let coming : drop at items ≡ c.args.self.now.coming = ap (λ (s : ClockState). s.coming) c.self.view_is in
    let P : List ℕ → Type 0 = λ all. IsNext c.index.result.now all in (
      subst P coming (next_at items at c.index.result.now within c.index.ensures),
      ap (λ n. drop n items) place ∙ sym (behind_place items at within) ∙ ap moments_behind coming,
    )

pub returns-clause-after : goal.returns-clause-after
returns-clause-after c =
    let items = c.self.inside.moments.items in
    let at = c.self.inside.at in
    let within : at < length items = omega (arith, c.self.invariant, c.self.inside.moments.ok.0) in
    let place : c.min-self-inside.result ≡ min (at + 1) (length items - 1) = omega (arith, c.min-self-inside.ensures, c.len.ensures, c.self.inside.moments.ok.0) in
    clock_behind items at c.min-self-inside.result c.self.inside.calls c.begin.new.self c.args.self.now c.self.view_is within place answered c.in_ok-begin.ensures.ok
