use Rattle.std.proofs.Common.{◌≤◌, ap, ◌∙◌, sym, subst, ℕ}
use Rattle.pec_service.specs.Passes.{limit_in}
use Rattle.pec_desk.proofs.LimitLemmas.{limit_is_small}
use Rattle.pec_desk.proofs.limits.limit_at.Goals as goal

pub returns-in-Some-clause-bound : goal.returns-in-Some-clause-bound
returns-in-Some-clause-bound c =
    subst (λ (n : ℕ). n ≤ 31457280) (ap limit_in (sym c.in-Some.ensures) ∙ sym c.limit.ensures)
    (limit_is_small c.args.directory.now c.args.number c.count.ensures.lawful)
