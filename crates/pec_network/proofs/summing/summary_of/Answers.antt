-- Provider by provider.
use Rattle.pec_network.proofs.SummingLemmas.{runs_there, total_done, total_more, up_to_more}
use Rattle.pec_network.proofs.summing.summary_of.Goals as goal

pub loop-provider-preserved : goal.loop-provider-preserved
loop-provider-preserved g c = record {
  is = λ kept seals trade of runs.
      let providers = c.args.providers.now in
      let number = c.loop-provider.provider-index in
      let here = runs_there kept seals providers number c.provider-item.result runs c.loop-provider-test.true c.provider-item.is in
      total_more trade providers number c.provider-item.result c.loop-provider.summary c.plus-summary.result c.summary-own.result _
      c.loop-provider-test.true c.provider-item.is (c.summary-own.ensures.is kept seals number trade here of) c.plus-summary.ensures
      (c.loop-provider.invariant.is kept seals trade of runs);
  few = up_to_more c.loop-provider.summary c.summary-own.result c.plus-summary.result c.loop-provider.provider-index
      c.plus-summary.ensures c.loop-provider.invariant.few c.summary-own.ensures.few;
}

pub returns : goal.returns
returns g c =
    λ kept seals trade of runs.
    total_done trade c.args.providers.now c.loop-provider.provider-index c.loop-provider.summary _ c.loop-provider-test.false
    (c.loop-provider.invariant.is kept seals trade of runs)
