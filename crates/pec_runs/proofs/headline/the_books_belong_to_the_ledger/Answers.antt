-- The headline: from the lemmas and the laws of the ledger and of plays.
use Rattle.std.proofs.Common.{◌≡◌, ℕ, suc, ◌+◌, subst, arith}
use Rattle.pec_ledger.specs.Network.{journals_of}
use Rattle.pec_ledger.specs.Trade.{Trade}
use Rattle.pec_ledger.specs.TradeLaws.{IsTrade}
use Rattle.pec_runs.specs.Headline.{state_before}
use Rattle.pec_runs.specs.Reaching.{IsReached}
use Rattle.pec_runs.proofs.HeadlineLemmas.{PlayLaws, book_at, none_would, notices_at, onward_at, stands_at}
use Rattle.pec_runs.proofs.headline.the_books_belong_to_the_ledger.Goals as goal

pub returns : goal.returns
returns c =
    let laws : (trade : Trade) → IsTrade trade → PlayLaws trade = λ trade world. record {
      stays = c.licences_stand.ensures.conditions trade;
      goes_on = c.a_network_stays_sound.ensures.goes_on trade world;
      commands = c.a_network_stays_sound.ensures.commands trade world;
      one_outcome = c.the_guarantees.ensures.one_outcome trade;
      one_delivery = c.the_guarantees.ensures.one_delivery trade;
      no_receipt_missing = c.the_guarantees.ensures.no_receipt_missing trade;
      notice_by_the_day = c.the_guarantees.ensures.notice_by_the_day trade;
      knowns = c.rows_have_their_texts.ensures.knowns trade;
      acked = λ J fit. c.arrivals_are_true.ensures.acked trade J fit world;
    }
    in λ trade world lucks start commands sound none given.
    let each = stands_at trade (laws trade world) world lucks start commands sound (none_would trade start none) given
    in record {
      each = each;
      onward = λ number.
          let next : suc number ≡ number + 1 = omega arith in
          subst (λ (behind : ℕ). IsReached trade (journals_of (state_before trade lucks start commands number))
          (journals_of (state_before trade lucks start commands behind))) next
          (onward_at trade (laws trade world) number lucks start commands sound (none_would trade start none) given);
      books = book_at trade lucks start commands;
      notices = λ number p now marks. notices_at trade lucks start commands number p now marks
          (each (number + 1)).kept.notice_by_the_day;
      decided = c.no_two_answers.ensures.decided trade world lucks start commands sound given;
      learned = c.no_two_answers.ensures.learned trade world lucks start commands sound given;
    }
