-- Taken messages have their originals: from the lemmas and the laws of the ledger.
use Rattle.pec_plays.proofs.ComposedLemmas.{taken_is_seen}
use Rattle.pec_plays.proofs.soundness.taken_messages_have_originals.Goals as goal

pub returns : goal.returns
returns c = λ trade world J fit p id row e.
    taken_is_seen trade world J
    (record {
      originals = c.rows_have_their_texts.ensures.originals trade J fit;
      takings = c.rows_have_their_texts.ensures.takings trade J fit;
      outcomes = c.rows_have_their_texts.ensures.outcomes trade J fit;
      homes = c.rows_have_their_texts.ensures.homes trade J fit;
      envelopes = c.texts_are_seen.ensures.envelopes trade J fit world;
    })
    (record {
      envelopes = λ id to bytes is. (_, c.texts_are_seen.ensures.envelopes trade J fit world id to bytes is);
      charges = λ id by bytes is. (_, c.texts_are_seen.ensures.charges trade J fit world id by bytes is);
      outcomes = λ pair bytes is. (_, c.texts_are_seen.ensures.outcomes trade J fit world pair bytes is);
      acks = λ pair bytes is. (_, c.texts_are_seen.ensures.acks trade J fit world pair bytes is);
    })
    (c.rows_have_their_texts.ensures.decisions trade J fit) p id row e
