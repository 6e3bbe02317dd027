use Rattle.std.proofs.Common.{refl}
use Rattle.pec_provider.proofs.RunLemmas.{runs_down}
use Rattle.pec_provider.proofs.provider.Provider.crash.Goals as goal

pub returns-clause-runs : goal.returns-clause-runs
returns-clause-runs g c = λ kept seals runs.
    let parts = c.parts-chronicle in
    runs_down kept c.args.me c.args.self c.args.self refl c.crash.result parts.result.1 parts.result.2.items _
    parts.ensures.1 (rw (← parts.ensures.0) c.crash.ensures.down) runs
