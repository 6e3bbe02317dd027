use Rattle.std.proofs.Common.{refl, ◌∙◌}
use Rattle.pec_provider.proofs.RunLemmas.{runs_down}
use Rattle.pec_provider.proofs.provider.Provider.restart.Goals as goal

pub returns-in-Err-clause-runs_err : goal.returns-in-Err-clause-runs_err
returns-in-Err-clause-runs_err g c =
    let parts = c.parts-chronicle in
    runs_down c.args.house.now.directory.now c.args.house.now.me c.args.self c.args.self refl c.in-Err.chronicle
    c.in-Err.shelf parts.result.2.items _
    (c.in-Err.ensures.shelf ∙ parts.ensures.1) (rw (← parts.ensures.0) c.in-Err.ensures.down) c.requires

pub returns-in-Ok-clause-found : goal.returns-in-Ok-clause-found
returns-in-Ok-clause-found g c = λ tells.
    rw (← c.parts-chronicle.ensures.0, c.opened.ensures.made.0) (c.in-Ok.ensures.found tells)

pub returns-in-Ok-clause-carries : goal.returns-in-Ok-clause-carries
returns-in-Ok-clause-carries g c = λ tells.
    rw (← c.parts-chronicle.ensures.0, c.opened.ensures.made.0) (c.in-Ok.ensures.carries tells)

pub returns-in-Err-clause-carries_err : goal.returns-in-Err-clause-carries_err
returns-in-Err-clause-carries_err g c = λ tells. rw (← c.parts-chronicle.ensures.0) (c.in-Err.ensures.carries_err tells)

pub returns-in-Err-clause-outside : goal.returns-in-Err-clause-outside
returns-in-Err-clause-outside g c = λ tells. rw (← c.parts-chronicle.ensures.0) (c.in-Err.ensures.outside tells)
