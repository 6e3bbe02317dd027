-- Due letters are composed: from the lemmas and the laws of the ledger.
use Rattle.std.proofs.Common.{◌++◌}
use Rattle.pec_ledger.specs.Ledger.{Fit, Journals, ledger}
use Rattle.pec_ledger.specs.Trade.{Trade}
use Rattle.pec_ledger.specs.TradeLaws.{IsTrade}
use Rattle.pec_plays.proofs.ComposedLemmas.{SeenLaws, ack_composed, answer_composed, charge_composed, envelope_composed, outcome_composed}
use Rattle.pec_plays.proofs.FrameLemmas.{TextLaws, due_genuine}
use Rattle.pec_plays.proofs.OwedLemmas.{backed_stays, plan_backs}
use Rattle.pec_plays.specs.Turns.{entries_of, plan}
use Rattle.pec_plays.proofs.soundness.due_letters_are_composed.Goals as goal

pub returns : goal.returns
unfolding ledger
returns c =
    let texts : (trade : Trade) → IsTrade trade → (J : Journals) → Fit trade J → TextLaws trade J = λ trade world J fit. record {
      originals = c.rows_have_their_texts.ensures.originals trade J fit;
      takings = c.rows_have_their_texts.ensures.takings trade J fit;
      outcomes = c.rows_have_their_texts.ensures.outcomes trade J fit;
      homes = c.rows_have_their_texts.ensures.homes trade J fit;
      envelopes = c.texts_are_seen.ensures.envelopes trade J fit world;
    }
    in let seen : (trade : Trade) → IsTrade trade → (J : Journals) → Fit trade J → SeenLaws trade J = λ trade world J fit. record {
      envelopes = λ id to bytes is. (_, c.texts_are_seen.ensures.envelopes trade J fit world id to bytes is);
      charges = λ id by bytes is. (_, c.texts_are_seen.ensures.charges trade J fit world id by bytes is);
      outcomes = λ pair bytes is. (_, c.texts_are_seen.ensures.outcomes trade J fit world pair bytes is);
      acks = λ pair bytes is. (_, c.texts_are_seen.ensures.acks trade J fit world pair bytes is);
    }
    in record {
      envelopes = λ trade world J fit p to letter is. envelope_composed trade world J (texts trade world J fit) (seen trade world J fit) (c.rows_have_their_texts.ensures.decisions trade J fit) p to letter is;
      outcomes = λ trade world J fit p to letter is. outcome_composed trade world J (texts trade world J fit) (seen trade world J fit) (c.rows_have_their_texts.ensures.decisions trade J fit) p to letter is;
      charges = λ trade world J fit p id row e. charge_composed trade world J (texts trade world J fit) (seen trade world J fit) (c.rows_have_their_texts.ensures.decisions trade J fit) p id row e;
      acks = λ trade world J fit p id recipient row e. ack_composed trade world J (texts trade world J fit) (seen trade world J fit) (c.rows_have_their_texts.ensures.decisions trade J fit) p
          (c.rows_have_their_texts.ensures.knowns trade J fit) id recipient row e;
      answers = λ trade world J fit p now screens es frames more letter owed. answer_composed trade world J (texts trade world J fit) (seen trade world J fit) (c.rows_have_their_texts.ensures.decisions trade J fit) p
          (c.rows_have_their_texts.ensures.knowns trade J fit) letter
          (backed_stays trade p (es ++ entries_of (plan trade p now screens es frames)) (J p) letter more (plan_backs trade p now screens es frames letter owed));
      frames = λ trade world J fit p to room owed. due_genuine trade world J (texts trade world J fit) p to room owed;
    }
