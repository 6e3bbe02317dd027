use Rattle.std.proofs.Common.{sym, ◌∙◌}
use Rattle.std.proofs.lemmas.Bool.{cond-true, cond-false}
use Rattle.pec_directory.proofs.LookupLemmas.{position-step}
use Rattle.pec_directory.specs.Ids.{prints}
use Rattle.pec_directory.proofs.ids.provider_named.Goals as goal

pub returns-then-named : goal.returns-then-named
returns-then-named c =
    let one = c.index-providers-place.result in
    let step = position-step (prints c.args.text.now c.args.number) c.args.providers.now c.loop-place.place one c.loop-place-test.true c.index-providers-place.is in
    sym (c.loop-place.invariant ∙ step ∙ cond-true _ _ _ (sym c.in_ok-named.ensures ∙ c.if-named.true))

pub loop-place-preserved : goal.loop-place-preserved
loop-place-preserved c =
    let one = c.index-providers-place.result in
    let step = position-step (prints c.args.text.now c.args.number) c.args.providers.now c.loop-place.place one c.loop-place-test.true c.index-providers-place.is in
    c.loop-place.invariant ∙ step ∙ cond-false _ _ _ (sym c.in_ok-named.ensures ∙ c.if-named.false)
