-- What composed letters are: from the lemmas and the laws of the ledger.
use Rattle.pec_ledger.specs.Ledger.{Fit, Journals}
use Rattle.pec_ledger.specs.Trade.{Trade}
use Rattle.pec_ledger.specs.TradeLaws.{IsTrade}
use Rattle.pec_plays.proofs.FrameLemmas.{TextLaws, composed_is, frame_is}
use Rattle.pec_plays.proofs.soundness.composed_letters_are_licensed.Goals as goal

pub returns : goal.returns
returns c =
    let texts : (trade : Trade) → IsTrade trade → (J : Journals) → Fit trade J → TextLaws trade J = λ trade world J fit. record {
      originals = c.rows_have_their_texts.ensures.originals trade J fit;
      takings = c.rows_have_their_texts.ensures.takings trade J fit;
      outcomes = c.rows_have_their_texts.ensures.outcomes trade J fit;
      homes = c.rows_have_their_texts.ensures.homes trade J fit;
      envelopes = c.texts_are_seen.ensures.envelopes trade J fit world;
    }
    in record {
      composed = λ trade world J fit p. composed_is trade world J (texts trade world J fit) p;
      framed = λ trade world J fit p. frame_is trade world J (texts trade world J fit) p;
    }
