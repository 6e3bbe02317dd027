use Rattle.std.proofs.Common.{◌≡◌, ◌+◌, ◌≤◌, ◌++◌, length}
use Rattle.std.specs.Prelude.{vec_capacity}
use Rattle.pec_network.specs.Working.{judges_in, providers_in, putters_in, takers_in, tolds_in, turns_told}
use Rattle.pec_network.proofs.rounds.rise.Given as goal

abbrev pub invariant-loop : goal.invariant-loop
invariant-loop g l = record {
  providers : l.providers.items ++ providers_in l.slots.items ≡ providers_in l.fn.slots.items;
  judges : l.judges.items ++ judges_in l.slots.items ≡ judges_in l.fn.slots.items;
  putters : l.putters.items ++ putters_in l.slots.items ≡ putters_in l.fn.slots.items;
  takers : l.takers.items ++ takers_in l.slots.items ≡ takers_in l.fn.slots.items;
  turns : l.turns.items ++ turns_told (tolds_in l.slots.items) ≡ turns_told (tolds_in l.fn.slots.items);
  left : l.counter + length l.slots.items ≡ length l.fn.slots.items;
  count : length l.providers.items ≡ l.counter;
  judges_count : length l.judges.items ≡ l.counter;
  putters_count : length l.putters.items ≡ l.counter;
  takers_count : length l.takers.items ≡ l.counter;
  turns_count : length l.turns.items ≤ l.counter;
  room : vec_capacity l.providers ≡ vec_capacity l.fn.providers;
  judges_room : vec_capacity l.judges ≡ vec_capacity l.fn.judges;
  putters_room : vec_capacity l.putters ≡ vec_capacity l.fn.putters;
  takers_room : vec_capacity l.takers ≡ vec_capacity l.fn.takers;
  turns_room : vec_capacity l.turns ≡ vec_capacity l.fn.turns;
}
