use Rattle.std.proofs.Common.{◌≡◌, ◌*◌, List, drop}
use Rattle.pec_directory.specs.Directory.{Kept}
use Rattle.pec_ledger.specs.OfDirectory.{IsOf}
use Rattle.pec_ledger.specs.Trade.{Trade}
use Rattle.pec_seal.specs.Seals.{Seals}
use Rattle.pec_provider.specs.Summing.{IsUpTo, most_pairs, nothing_yet}
use Rattle.pec_network.specs.Summing.{AllRun, total_over}
use Rattle.pec_network.proofs.summing.summary_of.Given as goal

abbrev pub invariant-loop-provider : goal.invariant-loop-provider
invariant-loop-provider g l = record {
  is : (kept : List Kept) (seals : Seals) (trade : Trade) → IsOf kept trade → AllRun kept seals l.providers
      → total_over trade l.summary l.provider-index (drop l.provider-index l.providers) ≡ total_over trade nothing_yet 0 l.providers;
  few : IsUpTo l.summary (l.provider-index * most_pairs);
}
