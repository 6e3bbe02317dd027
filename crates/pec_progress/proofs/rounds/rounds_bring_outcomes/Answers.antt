-- What rounds without faults bring: from the lemmas and the laws.
use Rattle.pec_ledger.specs.Ledger.{Fit, Journals}
use Rattle.pec_ledger.specs.Trade.{Trade}
use Rattle.pec_ledger.specs.TradeLaws.{IsTrade}
use Rattle.pec_plays.specs.Commands.{Round}
use Rattle.pec_progress.proofs.FewLemmas.{few_are_carried, put_waits}
use Rattle.pec_progress.proofs.FramedLemmas.{none_ever_too_long}
use Rattle.pec_progress.proofs.LawLemmas.{ComposedLaws, FitLaws, PlayLaws, RoundLaws, RowLaws}
use Rattle.pec_progress.proofs.ProgressLemmas.{known_behind_three, receipt_behind_three, settled_behind_four}
use Rattle.pec_progress.proofs.RestLemmas.{quiet_behind_five}
use Rattle.pec_progress.proofs.UnsettledLemmas.{few_owe_little}
use Rattle.pec_progress.proofs.rounds.rounds_bring_outcomes.Goals as goal

pub returns : goal.returns
returns c =
    let rows : (trade : Trade) → RowLaws trade = λ trade. record {
      accepted = c.rows_stand.ensures.accepted trade;
      taken = c.rows_stand.ensures.taken trade;
      decided = c.rows_stand.ensures.decided trade;
      known = c.rows_stand.ensures.known trade;
      acked = c.rows_stand.ensures.acked trade;
      bodies = c.rows_stand.ensures.bodies;
    }
    in let plays : (trade : Trade) → PlayLaws trade = λ trade. record {
      row_says = c.a_frame_is_received_by_its_row.ensures.row trade;
      undecided_says = c.undecided_pairs.ensures trade;
      left_says = c.the_next_pairs_are_left.ensures trade;
      owed_says = c.the_due_letters.ensures.owed trade;
      due_says = c.the_due_letters.ensures.due trade;
      frames_says = c.a_turn_puts_what_is_due.ensures.frames trade;
      puts_says = c.a_turn_puts_what_is_due.ensures.whole trade;
    }
    in let rounds : (trade : Trade) → IsTrade trade → RoundLaws trade = λ trade world. record {
      count = c.a_round_is_its_turns.ensures.count trade;
      journals = c.a_round_is_its_turns.ensures.journals trade;
      frames = c.a_round_is_its_turns.ensures.frames trade;
      nobody = c.a_round_is_its_turns.ensures.nobody trade;
      sound = λ luck sites now sound given. c.a_network_stays_sound.ensures.commands trade world luck sites (Round now) sound given;
    }
    in let fits : (trade : Trade) → IsTrade trade → (J : Journals) → Fit trade J → FitLaws trade J = λ trade world J fit. record {
      fit = fit;
      originals = c.rows_have_their_texts.ensures.originals trade J fit;
      messages = λ by id row taken.
          let envelope = c.rows_have_their_texts.ensures.takings trade J fit by id row taken
          in (envelope.2.message, envelope.2.is.accepted);
      decisions = c.rows_have_their_texts.ensures.decisions trade J fit;
      charges = c.providers_agree.ensures.charges trade J fit;
      acks = c.providers_agree.ensures.acks trade J fit;
      recipients = c.providers_agree.ensures.recipients trade J fit world;
      senders = c.providers_agree.ensures.senders trade J fit;
      composed = c.composed_letters_are_licensed.ensures.composed trade world J fit;
      framed = c.composed_letters_are_licensed.ensures.framed trade world J fit;
      sent = c.licensed_letters_can_be_composed.ensures.envelopes trade J fit world;
      charge_can = c.licensed_letters_can_be_composed.ensures.charges trade J fit world;
      outcome_can = c.licensed_letters_can_be_composed.ensures.outcomes trade J fit world;
      ack_can = c.licensed_letters_can_be_composed.ensures.acks trade J fit world;
      one_outcome = c.the_guarantees.ensures.one_outcome trade J fit;
      envelopes_seen = c.texts_are_seen.ensures.envelopes trade J fit world;
      addressees = c.texts_are_seen.ensures.addressees trade J fit world;
      charges_seen = c.texts_are_seen.ensures.charges trade J fit world;
      outcomes_seen = c.texts_are_seen.ensures.outcomes trade J fit world;
      acks_seen = c.texts_are_seen.ensures.acks trade J fit world;
    }
    in let made : (trade : Trade) → IsTrade trade → (J : Journals) → Fit trade J → ComposedLaws trade J = λ trade world J fit. record {
      envelopes = c.due_letters_are_composed.ensures.envelopes trade world J fit;
      outcomes = c.due_letters_are_composed.ensures.outcomes trade world J fit;
      answers = c.due_letters_are_composed.ensures.answers trade world J fit;
    }
    in record {
      known = λ trade world sites sound first second third well carry pair is.
          known_behind_three trade world (rows trade) (plays trade) (rounds trade world) (fits trade world) pair first second third sites sound is well carry;
      receipts = λ trade world sites sound first second third well carry pair is.
          receipt_behind_three trade world (rows trade) (plays trade) (rounds trade world) (fits trade world) pair first second third sites sound is well carry;
      settled = λ trade world sites sound first second third fourth well carry pair is.
          settled_behind_four trade world (rows trade) (plays trade) (rounds trade world) (fits trade world) pair first second third fourth sites sound is well carry;
      empty = λ trade world sites sound first second third fourth fifth well carry.
          quiet_behind_five trade world (rows trade) (plays trade) (rounds trade world) (fits trade world) first second third fourth fifth sites sound well carry;
      put = λ trade world sites sound now cuts well from to lf lt.
          put_waits trade (rows trade) (plays trade) (rounds trade world) (fits trade world) now cuts sites sound well from to lf lt;
      carried = λ trade world sites sound empty rs well little.
          few_are_carried trade (rows trade) (plays trade) (rounds trade world) (fits trade world) sites sound empty rs well little;
      few = λ trade world sites sound few rs well framed.
          few_owe_little trade (rows trade) (plays trade) (rounds trade world) (fits trade world) rs sites sound few well framed;
      framed = λ trade world sites sound can rs well.
          none_ever_too_long trade world (rows trade) (plays trade) (rounds trade world) (fits trade world) (made trade world) can rs sites sound well;
    }
