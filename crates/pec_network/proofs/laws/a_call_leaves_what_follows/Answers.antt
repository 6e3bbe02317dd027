use Rattle.pec_network.proofs.MomentLemmas.{all_rest, follows, interrupted_there, journal_there}
use Rattle.pec_network.proofs.laws.a_call_leaves_what_follows.Goals as goal

pub returns-clause-follows : goal.returns-clause-follows
returns-clause-follows g c = λ trade old new screens waiting carry number was now is then stands.
    follows g.D.Disk.sight trade old new screens waiting (c.what_follows_goes_on.ensures trade) carry number was now is then stands

pub returns-clause-rests : goal.returns-clause-rests
returns-clause-rests g c = λ tells trade journals providers.
    all_rest g.D.Disk.sight trade journals providers (c.what_rests_carries_on.ensures tells)

pub returns-clause-seen : goal.returns-clause-seen
returns-clause-seen g c = λ providers screens waiting number one is.
    (journal_there providers screens waiting number one is, interrupted_there providers screens waiting number one is)
