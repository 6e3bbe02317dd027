-- What was found, and what is left to find behind the place, is all.
use Rattle.std.proofs.Common.{◌≤◌, drop, length}
use Rattle.pec_ledger.specs.Lookups.{has_room}
use Rattle.pec_ledger.specs.OfDirectory.{IsOf}
use Rattle.pec_ledger.specs.Trade.{Trade}
use Rattle.pec_reception.proofs.AccountLemmas.{FindsAll}
use Rattle.pec_reception.proofs.others.accounts_with_room.Given as goal

abbrev pub invariant-loop-address : goal.invariant-loop-address
invariant-loop-address l = record {
  all : (trade : Trade) → IsOf l.directory trade
      → FindsAll (has_room trade l.shelf.me l.shelf.half) l.path l.accounts.items (drop l.address-index l.path);
  few : length l.accounts.items ≤ l.address-index;
}
