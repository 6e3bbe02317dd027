use Rattle.std.proofs.Common.{◌∙◌, ap, sym, refl, ℕ, List, [], Option}
use Rattle.pec_outside.specs.Doors.{Reply, in_front, replied}
use Rattle.pec_seal.specs.Hmac.{hmac_seals}
use Rattle.pec_seal.specs.Seals.{Seals}
use Rattle.pec_seal.specs.declared.hmac.HmacSealer.{HmacSealer}
use Rattle.pec_playing.specs.OfNetworks.{AllStand, trade_of, world_of}
use Rattle.pec_playing.specs.Points.{state_in}
use Rattle.pec_serving.specs.Serving.{place_of}
use Rattle.pec_serving.proofs.MoveLemmas.{moves_none}
use Rattle.pec_serving.proofs.NextLemmas.{served_next, unserved_replies}
use Rattle.pec_serving.proofs.next.next.Goals as goal

pub returns-clause-comes : goal.returns-clause-comes
returns-clause-comes g c = λ elsewhere.
    let left = g.R.C.Stream.left c.in-Ok.connection in
    let held = g.R.C.Stream.held c.answer-network.new.connection in
    let faults = g.R.C.Counted.faults c.answer-network.new.connection in
    served_next
    (trade_of c.args.network.kept (hmac_seals c.args.network.sealer.names.items c.args.network.sealer.keys.items))
    (g.D.Disk.tells × AllStand g.D.Disk.sight c.args.network.providers) c.args.network.kept c.in-Ok-now.moment c.in-Ok-now.ensures.bound
    (place_of g.D.Counted.faults elsewhere c.args.network (g.T.Ticks.coming c.args.ticks.now)
    (g.R.Door.requests c.args.door.now) (g.R.Door.replies c.args.door.now))
    (place_of g.D.Counted.faults elsewhere c.answer-network.result.0 (g.T.Ticks.coming c.now.new.self)
    (g.R.Door.requests c.close-2.new.self) (g.R.Door.replies c.close-2.new.self))
    left (g.R.C.Stream.held c.in-Ok.connection) held (g.R.C.Counted.faults c.in-Ok.connection) faults
    c.answer-network.result.1 c.in-Ok-now.ensures.given
    (c.in-Ok.ensures.came ∙ ap (λ (o : Option (List (List ℕ))). in_front left o) (sym c.close-2.ensures.requests))
    c.in-Ok.ensures.empty c.in-Ok.ensures.fresh
    (c.close-2.ensures.replies ∙ ap (λ (o : Option (List Reply)). replied o held faults) c.in-Ok.ensures.replies)
    (c.answer-network.ensures.hears elsewhere) c.answer-network.ensures.read_fault c.answer-network.ensures.write_fault

pub returns-in-Err-now-clause-comes : goal.returns-in-Err-now-clause-comes
returns-in-Err-now-clause-comes g c = λ elsewhere. record {
  network = refl;
  replies = c.close.ensures.replies
      ∙ ap (λ (o : Option (List Reply)). replied o (g.R.C.Stream.held c.in-Ok.connection) (g.R.C.Counted.faults c.in-Ok.connection))
      c.in-Ok.ensures.replies
      ∙ unserved_replies (g.R.Door.replies c.args.door.now) (g.R.C.Stream.held c.in-Ok.connection)
      (g.R.C.Counted.faults c.in-Ok.connection) c.in-Ok.ensures.empty c.in-Ok.ensures.fresh;
}

abbrev seals_of : HmacSealer → Seals
seals_of sealer = hmac_seals sealer.names.items sealer.keys.items

pub returns-in-Err-clause-moves : goal.returns-in-Err-clause-moves
returns-in-Err-clause-moves g c = λ elsewhere.
    moves_none g.D.Disk.sight g.D.Counted.faults g.D.Disk.tells (world_of seals_of c.args.network)
    (state_in g.D.Counted.faults elsewhere [] c.args.network)

pub returns-in-Err-now-clause-moves : goal.returns-in-Err-now-clause-moves
returns-in-Err-now-clause-moves g c = λ elsewhere.
    moves_none g.D.Disk.sight g.D.Counted.faults g.D.Disk.tells (world_of seals_of c.args.network)
    (state_in g.D.Counted.faults elsewhere [] c.args.network)

pub returns-clause-moves : goal.returns-clause-moves
returns-clause-moves g c = λ elsewhere. c.answer-network.ensures.moves elsewhere c.in-Ok-now.ensures.bound
