use Rattle.std.proofs.Common.{◌+◌, ◌++◌, List, length, sym, ap, ◌∙◌, arith, take_all}
use Rattle.pec_shelf.specs.Deadlines.{moments_of, pairs_in, spots_of}
use Rattle.pec_shelf.specs.Sides.{Kept}
use Rattle.pec_shelf.proofs.PairingLemmas.{moments_next, rising_next, room_next, rooms_next, spots_next}
use Rattle.pec_shelf.proofs.deadlines.Deadlines.add.Goals as goal

pub add_pairs-requires : goal.add_pairs-requires
add_pairs-requires c =
    let count = ap length c.certified.ensures in
    record {
      room = omega (
        arith,
        count,
        room_next c.args.first c.args.rows.now c.loop-offset.offset c.index-rows-offset.result c.loop-offset-test.true c.index-rows-offset.is
            c.args.self.now.room c.loop-offset.self.room c.loop-offset.invariant.room c.requires.room,
      );
      rising = rw (count, c.moment.ensures)
          (rising_next c.args.first c.args.rows.now c.loop-offset.offset c.index-rows-offset.result c.loop-offset-test.true c.index-rows-offset.is
          c.args.self.now.moments c.loop-offset.self.moments c.loop-offset.invariant.moments c.requires.rising);
    }

pub loop-offset-preserved : goal.loop-offset-preserved
loop-offset-preserved c =
    let count = ap length c.certified.ensures in
    let before = c.loop-offset.invariant.same in
    let here = c.add_pairs.ensures.same in
    record {
      moments = moments_next c.args.first c.args.rows.now c.loop-offset.offset c.index-rows-offset.result c.loop-offset-test.true c.index-rows-offset.is
          c.args.self.now.moments c.loop-offset.self.moments c.add_pairs.new.self.moments c.loop-offset.invariant.moments
          (rw (count, c.moment.ensures) at c.add_pairs.ensures.moments);
      spots = spots_next c.args.first c.args.rows.now c.loop-offset.offset c.index-rows-offset.result c.loop-offset-test.true c.index-rows-offset.is
          c.args.self.now.spots c.loop-offset.self.spots c.add_pairs.new.self.spots c.loop-offset.invariant.spots
          (rw count at c.add_pairs.ensures.spots);
      room = rooms_next c.args.first c.args.rows.now c.loop-offset.offset c.index-rows-offset.result c.loop-offset-test.true c.index-rows-offset.is
          c.args.self.now.room c.loop-offset.self.room c.add_pairs.new.self.room c.loop-offset.invariant.room (rw count at c.add_pairs.ensures.room);
      same = (here.0 ∙ before.0, here.1 ∙ before.1, here.2 ∙ before.2, here.3 ∙ before.3);
    }

pub returns : goal.returns
returns c =
    let all = take_all c.loop-offset.offset c.args.rows.now c.loop-offset-test.false in
    record {
      moments = c.loop-offset.invariant.moments ∙ ap (λ (rows : List Kept). c.args.self.now.moments ++ moments_of (pairs_in c.args.first rows)) all;
      spots = c.loop-offset.invariant.spots ∙ ap (λ (rows : List Kept). c.args.self.now.spots ++ spots_of (pairs_in c.args.first rows)) all;
      room = ap (λ (rows : List Kept). c.loop-offset.self.room + length (pairs_in c.args.first rows)) (sym all) ∙ c.loop-offset.invariant.room;
      same = c.loop-offset.invariant.same;
    }
