-- One provider more has its seat.
use Rattle.std.proofs.Common.{List, ◌∷◌, ◌<◌, length, ap, arith, sym, ◌∙◌}
use Rattle.std.specs.Prelude.{Vec}
use Rattle.std.specs.declared.alloc.Global.{Global}
use Rattle.pec_link.specs.Ends.{Putting}
use Rattle.pec_posts.specs.Parting.{ends_in}
use Rattle.pec_network.proofs.SeatLemmas.{first_gone, put_in}
use Rattle.pec_network.proofs.rounds.seat.Goals as goal

pub loop-row-preserved : goal.loop-row-preserved
loop-row-preserved g c =
    let so = c.loop-row.invariant in
    let rest = c.in-Some.ensures.steps.0 in
    let many = ap (λ (l : List (Vec Putting Global)). length l) rest in
    let some : 0 < length c.loop-row.providers.items = (let e = so.count in omega (arith, e, many)) in
    let some_judges : 0 < length c.loop-row.judges.items = (let e = so.judges_count in omega (arith, e, many)) in
    let some_takers : 0 < length c.loop-row.takers.items = (let e = so.takers_count in omega (arith, e, many)) in
    let some_rooms : 0 < length c.loop-row.rooms.items = (let e = so.rooms_count in omega (arith, e, many)) in
    let first = first_gone c.loop-row.providers.items c.remove-provider.new.self.items c.remove-provider.result some
    c.remove-provider.ensures.value c.remove-provider.ensures.items in
    let first_judges = first_gone c.loop-row.judges.items c.remove-judge.new.self.items c.remove-judge.result some_judges
    c.remove-judge.ensures.value c.remove-judge.ensures.items in
    let first_takers = first_gone c.loop-row.takers.items c.remove-ends.new.self.items c.remove-ends.result some_takers
    c.remove-ends.ensures.value c.remove-ends.ensures.items in
    let first_rooms = first_gone c.loop-row.rooms.items c.remove-free.new.self.items c.remove-free.result some_rooms
    c.remove-free.ensures.value c.remove-free.ensures.items in
    let row = ap ends_in rest ∙ ap (λ (l : List Putting). l ∷ ends_in c.next.new.self.rest.items) (sym c.of.ensures) in
    let more = c.push_reserved.ensures.items in
    let one = ap (λ (l : List _). length l) first in
    let two = ap (λ (l : List _). length l) first_takers in
    let four = ap (λ (l : List _). length l) first_judges in
    let three = ap (λ (l : List _). length l) first_rooms in
    let size = ap (λ (l : List _). length l) more in
    record {
      providers = put_in (λ slot. slot.provider) c.loop-row.slots.items c.push_reserved.new.self.items _ c.loop-row.providers.items
          c.remove-provider.new.self.items c.args.providers.now.items more first so.providers;
      judges = put_in (λ slot. slot.judge) c.loop-row.slots.items c.push_reserved.new.self.items _ c.loop-row.judges.items
          c.remove-judge.new.self.items c.args.judges.now.items more first_judges so.judges;
      putters = put_in (λ slot. slot.putters) c.loop-row.slots.items c.push_reserved.new.self.items _ (ends_in c.loop-row.row-iterator.rest.items)
          (ends_in c.next.new.self.rest.items) (ends_in c.args.rows.items) more row so.putters;
      takers = put_in (λ slot. slot.takers) c.loop-row.slots.items c.push_reserved.new.self.items _ c.loop-row.takers.items
          c.remove-ends.new.self.items c.args.takers.now.items more first_takers so.takers;
      rooms = put_in (λ slot. slot.rooms) c.loop-row.slots.items c.push_reserved.new.self.items _ c.loop-row.rooms.items
          c.remove-free.new.self.items c.args.rooms.items more first_rooms so.rooms;
      count = let e = so.count in omega (arith, e, many, one);
      judges_count = let e = so.judges_count in omega (arith, e, many, four);
      takers_count = let e = so.takers_count in omega (arith, e, many, two);
      rooms_count = let e = so.rooms_count in omega (arith, e, many, three);
      few = let e = so.few in omega (arith, e, many, size);
      room = c.push_reserved.ensures.capacity ∙ so.room;
      providers_room = c.remove-provider.ensures.capacity ∙ so.providers_room;
      judges_room = c.remove-judge.ensures.capacity ∙ so.judges_room;
      takers_room = c.remove-ends.ensures.capacity ∙ so.takers_room;
    }
