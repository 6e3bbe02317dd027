-- All conditions of what is appended: from the lemmas and the law of arrivals.
use Rattle.std.proofs.Common.{refl}
use Rattle.pec_ledger.specs.Ledger.{Fit, Journals}
use Rattle.pec_ledger.specs.Trade.{Trade}
use Rattle.pec_ledger.specs.TradeLaws.{IsTrade}
use Rattle.pec_plays.proofs.CommandLemmas.{entry_meets}
use Rattle.pec_plays.proofs.OpenLemmas.{undecided_open}
use Rattle.pec_plays.proofs.StepLemmas.{ArrivalLaws, arrive_good, decide_good}
use Rattle.pec_plays.proofs.rules.what_a_provider_does_may_follow.Goals as goal

pub returns : goal.returns
returns c =
    let laws : (trade : Trade) → IsTrade trade → (J : Journals) → Fit trade J → ArrivalLaws trade J = λ trade world J fit. record {
      took = c.arrivals_are_true.ensures.took trade J fit world;
      charged = c.arrivals_are_true.ensures.charged trade J fit world;
      learned = c.arrivals_are_true.ensures.learned trade J fit world;
      acked = c.arrivals_are_true.ensures.acked trade J fit world;
    }
    in record {
      arrivals = λ trade world J fit p now es time range frame genuine entry is.
          (arrive_good trade world J (laws trade world J fit) p now es time range frame genuine entry is).0;
      decisions = λ trade world J fit p now es time range screens pair among entry is.
          (decide_good trade world J (laws trade world J fit) p now es time range screens pair (undecided_open trade p es pair among) entry is).0;
      submissions = λ trade world J p now es time range sender path message found account room some few.
          entry_meets trade world p now es J sender path message found (trade.cause p sender path message) refl account room some few time range;
      clock_calls = λ trade J p now es time range. record { own = tt; in_time = time; in_range = range; joint = tt };
    }
