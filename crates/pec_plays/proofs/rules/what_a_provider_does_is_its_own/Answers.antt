-- Own conditions of what is appended: from the lemmas.
use Rattle.pec_plays.proofs.CommandLemmas.{entry_own}
use Rattle.pec_plays.proofs.OpenLemmas.{undecided_open}
use Rattle.pec_plays.proofs.StepLemmas.{arrive_own, decide_own}
use Rattle.std.proofs.Common.{refl}
use Rattle.pec_plays.proofs.rules.what_a_provider_does_is_its_own.Goals as goal

pub returns : goal.returns
returns c = record {
  arrivals = λ trade world p now es frame entry is. arrive_own trade world p now es frame entry is;
  decisions = λ trade p now screens es pair among entry is. decide_own trade p now screens es pair (undecided_open trade p es pair among) entry is;
  submissions = λ trade world p now es sender path message found account room some few.
      entry_own trade world p now es sender path message found (trade.cause p sender path message) refl account room some few;
  clock_calls = λ trade p now es. (tt, refl);
}
