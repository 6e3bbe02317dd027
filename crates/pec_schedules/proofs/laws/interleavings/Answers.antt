-- The law of schedules: from the lemmas, and from the law on rounds.
use Rattle.pec_schedules.proofs.RoundPlanLemmas.{is_plan, leaves_the_round}
use Rattle.pec_schedules.proofs.ScheduleLemmas.{ends_so}
use Rattle.pec_schedules.proofs.laws.interleavings.Goals as goal

pub returns : goal.returns
returns c = record {
  schedules = λ plan steps good schedule. ends_so plan good steps schedule;
  plan = is_plan;
  round = λ trade now cuts sites steps short schedule.
      leaves_the_round trade now cuts sites short (c.a_round_is_its_turns.ensures.frames trade now cuts sites) steps schedule;
}
