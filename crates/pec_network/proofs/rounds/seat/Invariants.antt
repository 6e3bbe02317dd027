use Rattle.std.proofs.Common.{◌≡◌, ◌+◌, ◌++◌, length}
use Rattle.std.specs.Prelude.{vec_capacity}
use Rattle.pec_posts.specs.Parting.{ends_in}
use Rattle.pec_network.specs.Working.{judges_in, providers_in, putters_in, rooms_in, takers_in}
use Rattle.pec_network.proofs.rounds.seat.Given as goal

abbrev pub invariant-loop-row : goal.invariant-loop-row
invariant-loop-row g l = record {
  providers : providers_in l.slots.items ++ l.providers.items ≡ l.fn.providers.items;
  judges : judges_in l.slots.items ++ l.judges.items ≡ l.fn.judges.items;
  putters : putters_in l.slots.items ++ ends_in l.row-iterator.rest.items ≡ ends_in l.fn.rows.items;
  takers : takers_in l.slots.items ++ l.takers.items ≡ l.fn.takers.items;
  rooms : rooms_in l.slots.items ++ l.rooms.items ≡ l.fn.rooms.items;
  count : length l.providers.items ≡ length l.row-iterator.rest.items;
  judges_count : length l.judges.items ≡ length l.row-iterator.rest.items;
  takers_count : length l.takers.items ≡ length l.row-iterator.rest.items;
  rooms_count : length l.rooms.items ≡ length l.row-iterator.rest.items;
  few : length l.slots.items + length l.row-iterator.rest.items ≡ length l.fn.providers.items;
  room : vec_capacity l.slots ≡ vec_capacity l.fn.slots;
  providers_room : vec_capacity l.providers ≡ vec_capacity l.fn.providers;
  judges_room : vec_capacity l.judges ≡ vec_capacity l.fn.judges;
  takers_room : vec_capacity l.takers ≡ vec_capacity l.fn.takers;
}
