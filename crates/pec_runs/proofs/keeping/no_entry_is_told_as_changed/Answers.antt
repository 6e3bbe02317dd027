-- No entry is told as changed: from the lemmas.
use Rattle.pec_runs.specs.Ran.{world}
use Rattle.pec_runs.proofs.KeptLemmas.{none_changed, run_unchanged}
use Rattle.pec_runs.proofs.keeping.no_entry_is_told_as_changed.Goals as goal

pub returns : goal.returns
returns g c = record {
  scripts = λ trade is_trade. none_changed trade is_trade (c.a_network_stays_sound.ensures.commands trade is_trade);
  runs = λ asked status unread before after depot left old new told ran premise.
      let trade = world ran.happened
      in run_unchanged asked status unread before after _ _ _ old new ran told
      (c.licences_stand.ensures.conditions trade) (c.a_network_stays_sound.ensures.commands trade)
      (c.soundness.ensures.start trade) c.a_line_has_one_reading.ensures premise;
}
