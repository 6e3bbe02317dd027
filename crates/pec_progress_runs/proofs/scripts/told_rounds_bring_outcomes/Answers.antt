-- Outcomes behind rounds that are told to go well: from the lemmas and the laws.
use Rattle.std.proofs.Common.{[], ◌∷◌}
use Rattle.pec_ledger.specs.Trade.{Trade}
use Rattle.pec_ledger.specs.TradeLaws.{IsTrade, LettersCanBePut}
use Rattle.pec_progress_runs.proofs.ToldLemmas.{Laws, book_shows, known_behind, settled_behind}
use Rattle.pec_progress_runs.proofs.scripts.told_rounds_bring_outcomes.Goals as goal

pub returns : goal.returns
returns c =
    let laws : (trade : Trade) → IsTrade trade → LettersCanBePut trade → Laws trade = λ trade world can. record {
      turns = c.a_round_is_its_turns.ensures.turns trade;
      puts = c.a_turn_puts_what_is_due.ensures.whole trade;
      due = c.the_due_letters.ensures.due trade;
      sound = c.a_network_stays_sound.ensures.commands trade world;
      appends = c.a_command_appends.ensures trade;
      accepted = c.rows_stand.ensures.accepted trade;
      stays = λ sites luck command pair. c.outcomes_stay.ensures.known trade sites luck command pair;
      put = c.rounds_bring_outcomes.ensures.put trade world;
      framed = λ sites sound now cuts well. (c.rounds_bring_outcomes.ensures.framed trade world sites sound can (record { now = now; cuts = cuts } ∷ []) (well, tt)).0;
      known = λ sites sound first second third well carry pair is. (
        c.rounds_bring_outcomes.ensures.known trade world sites sound first second third well carry pair is,
        c.rounds_bring_outcomes.ensures.receipts trade world sites sound first second third well carry pair is,
      );
      settled = c.rounds_bring_outcomes.ensures.settled trade world;
    }
    in record {
      known = λ trade world can lucks start commands kept n sound four. known_behind trade (laws trade world can) lucks start commands kept n sound four;
      settled = λ trade world can lucks start commands kept n sound four. settled_behind trade (laws trade world can) lucks start commands kept n sound four;
      books = λ trade world can lucks start commands kept n sound four.
          book_shows trade (laws trade world can) lucks start commands kept n sound four (c.the_books.ensures trade);
    }
