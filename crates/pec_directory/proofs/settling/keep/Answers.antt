use Rattle.pec_directory.proofs.KeepingLemmas.{zones_more}
use Rattle.pec_directory.proofs.settling.keep.Goals as goal

pub returns-clause-zones : goal.returns-clause-zones
returns-clause-zones c = λ all.
    rw c.in_ok-push.ensures.items (zones_more c.args.draft.now.providers.items _ all c.requires.zone)
