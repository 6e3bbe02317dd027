use Rattle.std.proofs.Common.{inl, refl, sym, ap, ◌∙◌, Some}
use Rattle.pec_stock.proofs.OpeningLemmas.{alike, differ, no_digest}
use Rattle.pec_stock.proofs.opening.begins.Goals as goal

pub returns-then-ne-clause-not_own : goal.returns-then-ne-clause-not_own
returns-then-ne-clause-not_own c = λ trade me of.
    record {
      is = sym c.in-Some.ensures;
      given_is = c.in_ok-given.ensures ∙ sym of.digest;
      differs = differ c.in-Some.digest.now c.in_ok-given.given c.as_slice.result.now c.as_slice-2.result.now c.as_slice.ensures c.as_slice-2.ensures
          (sym c.ne.ensures ∙ c.if-ne.true);
    }

-- no Start of either version
pub returns-in_default-clause-not_own : goal.returns-in_default-clause-not_own
returns-in_default-clause-not_own c = λ trade me of. inl (refl, no_digest c.args.entry.now (sym c.in_default.ensures))

pub returns-clause-here : goal.returns-clause-here
returns-clause-here c = λ trade of.
    sym c.in-Some.ensures
    ∙ ap Some (alike c.in-Some.digest.now c.in_ok-given.given c.as_slice.result.now c.as_slice-2.result.now c.as_slice.ensures c.as_slice-2.ensures
    (sym c.ne.ensures ∙ c.if-ne.false) ∙ (c.in_ok-given.ensures ∙ sym of.digest))
