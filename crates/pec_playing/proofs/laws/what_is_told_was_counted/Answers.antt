use Rattle.pec_playing.proofs.CountLemmas.{counts_later, counts_of_refusal}
use Rattle.pec_playing.proofs.laws.what_is_told_was_counted.Goals as goal

pub returns : goal.returns
returns g c = record {
  refused = λ old new many elsewhere falls asked within fault rose number.
      counts_of_refusal g.D.Counted.faults old new many elsewhere falls asked within fault rose number;
  later = λ old new many elsewhere falls number. counts_later g.D.Counted.faults old new many elsewhere falls number;
}
