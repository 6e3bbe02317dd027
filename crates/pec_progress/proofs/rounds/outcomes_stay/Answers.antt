-- Outcomes stay: from the laws, since commands only append.
use Rattle.std.proofs.Common.{List, ap}
use Rattle.std.specs.Prelude.{is_some}
use Rattle.pec_ledger.specs.Ledger.{ledger}
use Rattle.pec_ledger.specs.Lookups.{known_of}
use Rattle.pec_ledger.specs.Network.{Site, journal_at, journals_of}
use Rattle.pec_ledger.specs.Pairs.{Pair}
use Rattle.pec_ledger.specs.Trade.{Trade}
use Rattle.pec_plays.specs.Commands.{Command, Luck, played}
use Rattle.pec_progress.specs.Progress.{HasOutcome}
use Rattle.pec_progress.proofs.ListLemmas.{what_is}
use Rattle.pec_progress.proofs.rounds.outcomes_stay.Goals as goal

pub returns : goal.returns
unfolding ledger
returns c =
    let stays : (trade : Trade) (sites : List Site) (luck : Luck) (command : Command) (pair : Pair) → HasOutcome trade sites pair → HasOutcome trade (played trade luck sites command).after pair =
    λ trade sites luck command pair is.
    let p = pair.id.provider
    in let row = what_is (known_of (ledger trade (journals_of sites) p) pair) is
    in ap is_some (c.rows_stand.ensures.known trade p (journal_at sites p) (journal_at (played trade luck sites command).after p)
    (c.a_command_appends.ensures trade sites luck command p) pair row.0 row.1)
    in record {
      known = stays;
      settled = λ trade sites luck command pair is.
          let after = (played trade luck sites command).after
          in record {
            known = stays trade sites luck command pair is.known;
            home = is.home;
            at_home = is.at_home;
            acked = c.rows_stand.ensures.acked trade is.home (journal_at sites is.home) (journal_at after is.home) (c.a_command_appends.ensures trade sites luck command is.home) pair is.acked;
          };
    }
