-- Soundness of commands and scripts, from the lemmas and the laws of the ledger.
use Rattle.pec_ledger.specs.Trade.{Trade}
use Rattle.pec_ledger.specs.TradeLaws.{IsTrade}
use Rattle.pec_plays.proofs.KeptLemmas.{kept_along}
use Rattle.pec_plays.proofs.SoundLemmas.{LedgerLaws, next_played, short_along, sound_along, sound_at_end, sound_played}
use Rattle.pec_plays.proofs.soundness.a_network_stays_sound.Goals as goal

pub returns : goal.returns
returns c =
    let laws : (trade : Trade) → IsTrade trade → LedgerLaws trade = λ trade world. record {
      states = record {
        next = c.soundness.ensures.next trade;
        each = c.soundness.ensures.each trade;
        frames = c.licences_stand.ensures.frames trade;
      };
      images = c.any_images.ensures.journals trade;
      arrivals = λ J fit. record {
        took = c.arrivals_are_true.ensures.took trade J fit world;
        charged = c.arrivals_are_true.ensures.charged trade J fit world;
        learned = c.arrivals_are_true.ensures.learned trade J fit world;
        acked = c.arrivals_are_true.ensures.acked trade J fit world;
      };
      texts = λ J fit. record {
        originals = c.rows_have_their_texts.ensures.originals trade J fit;
        takings = c.rows_have_their_texts.ensures.takings trade J fit;
        outcomes = c.rows_have_their_texts.ensures.outcomes trade J fit;
        homes = c.rows_have_their_texts.ensures.homes trade J fit;
        envelopes = c.texts_are_seen.ensures.envelopes trade J fit world;
      };
    }
    in record {
      goes_on = λ trade world luck sites command sound given. next_played trade world (laws trade world) luck sites command sound given;
      commands = λ trade world luck sites command sound given. sound_played trade world (laws trade world) luck sites command sound given;
      guarantees = λ trade world lucks sites commands sound given.
          kept_along trade
          (record {
            one_outcome = c.the_guarantees.ensures.one_outcome trade;
            one_delivery = c.the_guarantees.ensures.one_delivery trade;
            no_receipt_missing = c.the_guarantees.ensures.no_receipt_missing trade;
            notice_by_the_day = c.the_guarantees.ensures.notice_by_the_day trade;
          })
          lucks sites commands (sound_along trade world (laws trade world) lucks sites commands sound given);
      links = λ trade world lucks sites commands sound given short. short_along trade world (laws trade world) lucks sites commands sound given short;
      ends = λ trade world lucks sites commands sound given. sound_at_end trade world (laws trade world) lucks sites commands sound given;
      scripts = λ trade world lucks sites commands sound given. sound_along trade world (laws trade world) lucks sites commands sound given;
    }
