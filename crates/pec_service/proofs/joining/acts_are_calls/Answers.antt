use Rattle.pec_service.proofs.ClockLemmas.{clock_may_come, clock_went}
use Rattle.pec_service.proofs.joining.acts_are_calls.Goals as goal

pub returns : goal.returns
returns g c = record {
  went = λ trade providers more from moment here there stop goes.
      clock_went trade providers _ g.P.D.Disk.sight g.P.D.Counted.faults more from moment here there stop
      (c.a_network_stays_sound.ensures.commands trade) goes;
  may_come = λ trade more from moment in_time. clock_may_come trade more from moment in_time;
}
