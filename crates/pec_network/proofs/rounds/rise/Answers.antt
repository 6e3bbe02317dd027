-- One worker more gives back what it held.
use Rattle.std.proofs.Common.{◌≡◌, List, [], ◌<◌, ◌++◌, length, ap, arith, sym, ◌∙◌}
use Rattle.std.specs.Option.{option_to_list}
use Rattle.std.proofs.lemmas.List.{append-nil, length-append, nil_from_length}
use Rattle.pec_network.specs.Working.{judges_in, providers_in, putters_in, takers_in, tolds_in, turns_told}
use Rattle.pec_network.specs.declared.working.Slot.{Slot}
use Rattle.pec_network.proofs.SeatLemmas.{first_gone, taken_out, told_one, told_out}
use Rattle.pec_network.proofs.rounds.rise.Goals as goal

pub loop-preserved : goal.loop-preserved
loop-preserved g c =
    let so = c.loop.invariant in
    let all = c.args.slots.now.items in
    let left = so.left in
    let some : 0 < length c.loop.slots.items = omega (arith, left, c.loop-test.true, c.len-end.ensures, c.args.slots.now.ok.0) in
    let slot = c.remove-provider.result in
    let first = first_gone c.loop.slots.items c.remove-provider.new.self.items slot some c.remove-provider.ensures.value
    c.remove-provider.ensures.items in
    let one = ap (λ (l : List _). length l) first in
    let provider = c.push_reserved.ensures.len in
    let judge = c.push_reserved-in-loop.ensures.len in
    let putter = c.push_reserved-in-loop-2.ensures.len in
    let taker = c.push_reserved-in-loop-3.ensures.len in
    let turn = ap (λ (l : List _). length l) c.tell.ensures.turns ∙ length-append c.loop.turns.items (option_to_list slot.told) in
    let most = told_one slot.told in
    record {
      providers = taken_out (λ slot. slot.provider) c.loop.slots.items c.remove-provider.new.self.items slot c.loop.providers.items
          c.push_reserved.new.self.items (providers_in all) first c.push_reserved.ensures.items so.providers;
      judges = taken_out (λ slot. slot.judge) c.loop.slots.items c.remove-provider.new.self.items slot c.loop.judges.items
          c.push_reserved-in-loop.new.self.items (judges_in all) first c.push_reserved-in-loop.ensures.items so.judges;
      putters = taken_out (λ slot. slot.putters) c.loop.slots.items c.remove-provider.new.self.items slot c.loop.putters.items
          c.push_reserved-in-loop-2.new.self.items (putters_in all) first c.push_reserved-in-loop-2.ensures.items so.putters;
      takers = taken_out (λ slot. slot.takers) c.loop.slots.items c.remove-provider.new.self.items slot c.loop.takers.items
          c.push_reserved-in-loop-3.new.self.items (takers_in all) first c.push_reserved-in-loop-3.ensures.items so.takers;
      turns = told_out (λ slot. slot.told) c.loop.slots.items c.remove-provider.new.self.items slot c.loop.turns.items
          c.tell.new.turns.items (turns_told (tolds_in all)) first c.tell.ensures.turns so.turns;
      left = omega (arith, left, one);
      count = let e = so.count in omega (arith, e, provider, c.push_reserved.new.self.ok.0, c.loop.providers.ok.0);
      judges_count = let e = so.judges_count in omega (arith, e, judge, c.push_reserved-in-loop.new.self.ok.0, c.loop.judges.ok.0);
      putters_count = let e = so.putters_count in omega (arith, e, putter, c.push_reserved-in-loop-2.new.self.ok.0, c.loop.putters.ok.0);
      takers_count = let e = so.takers_count in omega (arith, e, taker, c.push_reserved-in-loop-3.new.self.ok.0, c.loop.takers.ok.0);
      turns_count = let e = so.turns_count in omega (arith, e, turn, most);
      room = c.push_reserved.ensures.capacity ∙ so.room;
      judges_room = c.push_reserved-in-loop.ensures.capacity ∙ so.judges_room;
      putters_room = c.push_reserved-in-loop-2.ensures.capacity ∙ so.putters_room;
      takers_room = c.push_reserved-in-loop-3.ensures.capacity ∙ so.takers_room;
      turns_room = c.tell.ensures.room ∙ so.turns_room;
    }

pub returns-clause-providers : goal.returns-clause-providers
returns-clause-providers g c =
    let left = c.loop.invariant.left in
    let none : c.loop.slots.items ≡ [] =
    nil_from_length c.loop.slots.items (omega (arith, left, c.loop-test.false, c.len-end.ensures, c.args.slots.now.ok.0)) in
    sym (append-nil c.loop.providers.items) ∙ ap (λ (l : List (Slot g.row.D.Denot g.row.J.Denot)). c.loop.providers.items ++ providers_in l) (sym none)
    ∙ c.loop.invariant.providers

pub returns-clause-judges : goal.returns-clause-judges
returns-clause-judges g c =
    let left = c.loop.invariant.left in
    let none : c.loop.slots.items ≡ [] =
    nil_from_length c.loop.slots.items (omega (arith, left, c.loop-test.false, c.len-end.ensures, c.args.slots.now.ok.0)) in
    sym (append-nil c.loop.judges.items) ∙ ap (λ (l : List (Slot g.row.D.Denot g.row.J.Denot)). c.loop.judges.items ++ judges_in l) (sym none)
    ∙ c.loop.invariant.judges

pub returns-clause-putters : goal.returns-clause-putters
returns-clause-putters g c =
    let left = c.loop.invariant.left in
    let none : c.loop.slots.items ≡ [] =
    nil_from_length c.loop.slots.items (omega (arith, left, c.loop-test.false, c.len-end.ensures, c.args.slots.now.ok.0)) in
    sym (append-nil c.loop.putters.items) ∙ ap (λ (l : List (Slot g.row.D.Denot g.row.J.Denot)). c.loop.putters.items ++ putters_in l) (sym none)
    ∙ c.loop.invariant.putters

pub returns-clause-takers : goal.returns-clause-takers
returns-clause-takers g c =
    let left = c.loop.invariant.left in
    let none : c.loop.slots.items ≡ [] =
    nil_from_length c.loop.slots.items (omega (arith, left, c.loop-test.false, c.len-end.ensures, c.args.slots.now.ok.0)) in
    sym (append-nil c.loop.takers.items) ∙ ap (λ (l : List (Slot g.row.D.Denot g.row.J.Denot)). c.loop.takers.items ++ takers_in l) (sym none)
    ∙ c.loop.invariant.takers

pub returns-clause-turns : goal.returns-clause-turns
returns-clause-turns g c =
    let left = c.loop.invariant.left in
    let none : c.loop.slots.items ≡ [] =
    nil_from_length c.loop.slots.items (omega (arith, left, c.loop-test.false, c.len-end.ensures, c.args.slots.now.ok.0)) in
    sym (append-nil c.loop.turns.items) ∙ ap (λ (l : List (Slot g.row.D.Denot g.row.J.Denot)). c.loop.turns.items ++ turns_told (tolds_in l)) (sym none)
    ∙ c.loop.invariant.turns

pub returns-clause-none : goal.returns-clause-none
returns-clause-none g c =
    let left = c.loop.invariant.left in
    nil_from_length c.loop.slots.items (omega (arith, left, c.loop-test.false, c.len-end.ensures, c.args.slots.now.ok.0))
