use Rattle.pec_desk.proofs.OwnLemmas.{apart, own_answer}
use Rattle.pec_desk.proofs.laws.an_account_sees_its_own.Goals as goal

pub returns : goal.returns
returns g c = record {
  own = λ desk after input reply answer asked asks reads.
      own_answer g.D.Disk.sight g.D.Counted.faults g.D.Disk.tells g.S.Sealer.seals desk after
      c.a_request_asks_one_thing.ensures input reply answer asked asks reads;
  apart = λ one other after last input reply again providers moment asked asks reads reads' same answer answer'.
      apart g.D.Disk.sight g.D.Counted.faults g.D.Disk.tells g.S.Sealer.seals one other after last providers moment
      c.a_request_asks_one_thing.ensures input reply again asked asks reads reads' same answer answer';
}
