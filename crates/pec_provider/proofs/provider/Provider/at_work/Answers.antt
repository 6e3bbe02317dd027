-- The last moment of a provider that runs is that of its journal.
use Rattle.std.proofs.Common.{not, ap, arith, sym, ◌∙◌}
use Rattle.pec_provider.proofs.provider.Provider.at_work.Goals as goal

pub returns-then-seconds-clause-works : goal.returns-then-seconds-clause-works
returns-then-seconds-clause-works g c = λ kept seals me trade runs of.
    let last = c.last-last.ensures kept seals me trade runs of in (
      ap not (sym c.is_down.ensures ∙ c.if-is_down.false),
      omega (arith, c.if-seconds.true, c.seconds.ensures.value, c.seconds-2.ensures.value, last),
      last,
    )

pub returns-clause-works : goal.returns-clause-works
returns-clause-works g c = λ kept seals me trade runs of.
    let last = c.last-last.ensures kept seals me trade runs of in record {
      up = ap not (sym c.is_down.ensures ∙ c.if-is_down.false);
      in_time = omega (arith, c.if-seconds.false, c.seconds.ensures.value, c.seconds-2.ensures.value, last);
    }
