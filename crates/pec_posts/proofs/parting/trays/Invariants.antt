use Rattle.std.proofs.Common.{◌≡◌, length}
use Rattle.std.specs.List.{All}
use Rattle.pec_posts.specs.Parting.{HasRoom}
use Rattle.pec_posts.proofs.parting.trays.Given as goal

abbrev pub invariant-loop : goal.invariant-loop
invariant-loop g l = record {
  count : length l.trays.items ≡ l.counter;
  room : All (HasRoom l.count) l.trays.items;
}
