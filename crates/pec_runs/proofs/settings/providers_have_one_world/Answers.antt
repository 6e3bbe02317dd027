-- Two settings of the same providers have one world: from the lemma, and the law of worlds.
use Rattle.pec_runs.proofs.SettingLemmas.{one_world}
use Rattle.pec_runs.proofs.settings.providers_have_one_world.Goals as goal

pub returns : goal.returns
returns c = λ providers one other is is_other.
    one_world c.a_directory_has_one_world.ensures providers one other is is_other
