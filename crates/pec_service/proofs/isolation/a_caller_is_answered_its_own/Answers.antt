use Rattle.pec_service.proofs.IsolationLemmas.{apart, gave_own, own}
use Rattle.pec_service.proofs.isolation.a_caller_is_answered_its_own.Goals as goal

pub returns : goal.returns
returns g c = record {
  own = λ kept seals here connection is answering heard asked asks gave.
      own _ kept seals here connection is c.a_request_asks_one_thing.ensures asked asks gave answering heard;
  apart = λ kept seals keys here there one other is be at input asked asks gave gives same answering again
      heard hears.
      apart _ kept seals keys here there one other c.a_request_asks_one_thing.ensures is be at input asked asks
      gave gives same answering again heard hears;
  gave = λ told trade kept here connection is asked. gave_own trade _ kept here connection told is asked;
}
