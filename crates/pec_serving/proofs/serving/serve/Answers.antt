use Rattle.std.proofs.Common.{◌≡◌, ◌∙◌, [], length, subst, refl, arith, Err}
use Rattle.pec_directory.specs.Directory.{providers_of}
use Rattle.pec_seal.specs.Hmac.{hmac_seals}
use Rattle.pec_seal.specs.Seals.{Seals}
use Rattle.pec_seal.specs.declared.hmac.HmacSealer.{HmacSealer}
use Rattle.pec_playing.specs.Points.{point_of, stop_in}
use Rattle.pec_service.specs.Calls.{ClockWent, clock_from}
use Rattle.pec_serving.specs.Serving.{ComesNext, place_of}
use Rattle.pec_serving.specs.declared.next.Came.{Came}
use Rattle.pec_playing.specs.declared.stops.Stop.{Stop}
use Rattle.pec_serving.proofs.EndLemmas.{risen_since, ends_broken, ends_lacking, ends_stopped, ends_unmet, ends_untold, ends_written}
use Rattle.pec_playing.specs.Points.{state_in}
use Rattle.pec_serving.proofs.KeepLemmas.{keeps_all, keeps_on}
use Rattle.pec_serving.proofs.MoveLemmas.{MoveLaws, moves_again, moves_last, moves_stopped, next_moves, part_moves, served_in_time}
use Rattle.pec_serving.proofs.MoveLemmas.{whole_moves}
use Rattle.pec_serving.proofs.ServiceLemmas.{CallLaws, ConnectionLaws, all_served, goes_none}
use Rattle.pec_serving.proofs.serving.serve.Goals as goal
use Rattle.pec_playing.specs.OfNetworks.{AllStand, world_of}

abbrev seals_of : HmacSealer → Seals
seals_of sealer = hmac_seals sealer.names.items sealer.keys.items

pub loop-served-init : goal.loop-served-init
loop-served-init g c = record {
  going = λ stand elsewhere.
      goes_none (world_of seals_of c.args.network) (g.P.Depot.tells × g.D.Disk.tells) g.D.Disk.sight g.D.Counted.faults
      c.args.network.kept (state_in g.D.Counted.faults elsewhere [] c.args.network)
      (place_of g.D.Counted.faults elsewhere c.args.network (g.T.Ticks.coming c.args.ticks.now)
      (g.R.Door.requests c.args.door.now) (g.R.Door.replies c.args.door.now)) (g.W.Stream.held c.args.out.now);
  moves = λ stand elsewhere. c.moves_are_joined.ensures.none (world_of seals_of c.args.network)
      (state_in g.D.Counted.faults elsewhere [] c.args.network);
  keeps = keeps_all g.D.Disk.sight g.D.Counted.faults g.D.Disk.tells c.args.network;
  home = λ told k. refl;
  last = λ k. refl;
  depot_later = omega arith;
  out = refl;
  clock_later = omega arith;
  door_later = omega arith;
  out_later = omega arith;
}

pub returns-in-NoConnection-clause-serves : goal.returns-in-NoConnection-clause-serves
returns-in-NoConnection-clause-serves g c = λ stand elsewhere.
    let start = c.args.network in
    let seals = seals_of in
    let trade = world_of seals_of start in
    let laws : CallLaws trade (g.P.Depot.tells × g.D.Disk.tells) = record {
      all = c.calls_are_joined.ensures.all trade;
      since = c.calls_are_joined.ensures.since trade;
      same = c.calls_are_joined.ensures.same;
      later = c.calls_are_joined.ensures.later;
      same_text = c.calls_are_joined.ensures.same_text trade;
      behind = c.calls_are_joined.ensures.behind;
    } in
    let joins : ConnectionLaws trade (g.P.Depot.tells × g.D.Disk.tells) start.kept = record {
      one = c.connections_are_joined.ensures.one trade start.kept;
      behind = c.connections_are_joined.ensures.behind;
      text = c.connections_are_joined.ensures.text trade start.kept;
    } in
    let now = c.loop-served.network in
    let again = c.next-again.result.0 in
    let here = place_of g.D.Counted.faults elsewhere start (g.T.Ticks.coming c.args.ticks.now)
    (g.R.Door.requests c.args.door.now) (g.R.Door.replies c.args.door.now) in
    let moves : MoveLaws trade g.D.Disk.tells (g.P.Depot.tells × g.D.Disk.tells) g.D.Disk.sight g.D.Counted.faults = record {
      on = c.moves_are_joined.ensures.on trade;
      part = c.moves_are_joined.ensures.part trade;
      told = c.moves_are_joined.ensures.told trade;
    } in
    ends_unmet g.D.Disk.sight g.D.Counted.faults g.D.Disk.tells (g.P.Depot.tells × g.D.Disk.tells) seals_of start laws joins elsewhere here now again
    (λ told. (told.1, c.loop-served.invariant.keeps.stands told.1 (stand told)))
    c.loop-served.invariant.keeps (g.T.Ticks.coming c.loop-served.ticks) (g.R.Door.requests c.loop-served.door)
    (g.R.Door.replies c.loop-served.door) c.loop-served.served (g.W.Stream.held c.args.out.now)
    (g.W.Stream.held c.loop-served.out) (c.loop-served.invariant.going stand elsewhere) (g.T.Ticks.coming c.next-again.new.ticks)
    (g.R.Door.requests c.next-again.new.door) (g.R.Door.replies c.next-again.new.door) c.args.wanted c.loop-served-test.true
    (subst (λ (came : Came). ComesNext (world_of seals_of now) (g.D.Disk.tells × AllStand g.D.Disk.sight now.providers) now.kept
    (place_of g.D.Counted.faults elsewhere now (g.T.Ticks.coming c.loop-served.ticks) (g.R.Door.requests c.loop-served.door)
    (g.R.Door.replies c.loop-served.door))
    (place_of g.D.Counted.faults elsewhere again (g.T.Ticks.coming c.next-again.new.ticks)
    (g.R.Door.requests c.next-again.new.door) (g.R.Door.replies c.next-again.new.door)) came) c.in-NoConnection.is
    (c.next-again.ensures.comes elsewhere))
    ((next_moves g.D.Disk.sight g.D.Counted.faults g.D.Disk.tells (g.P.Depot.tells × g.D.Disk.tells) seals_of start now again
    elsewhere moves c.loop-served.invariant.keeps (c.loop-served.invariant.moves stand elsewhere)
    (c.next-again.ensures.moves elsewhere)).moves)

pub returns-in-NoConnection-clause-keeps : goal.returns-in-NoConnection-clause-keeps
returns-in-NoConnection-clause-keeps g c =
    keeps_on g.D.Disk.sight g.D.Counted.faults g.D.Disk.tells c.args.network c.loop-served.network c.next-again.result.0
    c.loop-served.invariant.keeps c.next-again.ensures.keeps

pub returns-in-NoConnection-clause-no_connection : goal.returns-in-NoConnection-clause-no_connection
returns-in-NoConnection-clause-no_connection g c = λ same.
    risen_since (g.R.Counted.faults c.args.door.now) (g.R.Counted.faults c.loop-served.door)
    (g.R.Counted.faults c.next-again.new.door) c.loop-served.invariant.door_later
    c.next-again.ensures.door_later (c.next-again.ensures.no_connection c.in-NoConnection.is)

pub returns-in-NoMoment-clause-serves : goal.returns-in-NoMoment-clause-serves
returns-in-NoMoment-clause-serves g c = λ stand elsewhere.
    let start = c.args.network in
    let seals = seals_of in
    let trade = world_of seals_of start in
    let laws : CallLaws trade (g.P.Depot.tells × g.D.Disk.tells) = record {
      all = c.calls_are_joined.ensures.all trade;
      since = c.calls_are_joined.ensures.since trade;
      same = c.calls_are_joined.ensures.same;
      later = c.calls_are_joined.ensures.later;
      same_text = c.calls_are_joined.ensures.same_text trade;
      behind = c.calls_are_joined.ensures.behind;
    } in
    let joins : ConnectionLaws trade (g.P.Depot.tells × g.D.Disk.tells) start.kept = record {
      one = c.connections_are_joined.ensures.one trade start.kept;
      behind = c.connections_are_joined.ensures.behind;
      text = c.connections_are_joined.ensures.text trade start.kept;
    } in
    let now = c.loop-served.network in
    let again = c.next-again.result.0 in
    let here = place_of g.D.Counted.faults elsewhere start (g.T.Ticks.coming c.args.ticks.now)
    (g.R.Door.requests c.args.door.now) (g.R.Door.replies c.args.door.now) in
    let moves : MoveLaws trade g.D.Disk.tells (g.P.Depot.tells × g.D.Disk.tells) g.D.Disk.sight g.D.Counted.faults = record {
      on = c.moves_are_joined.ensures.on trade;
      part = c.moves_are_joined.ensures.part trade;
      told = c.moves_are_joined.ensures.told trade;
    } in
    ends_untold g.D.Disk.sight g.D.Counted.faults g.D.Disk.tells (g.P.Depot.tells × g.D.Disk.tells) seals_of start laws joins elsewhere here now again
    (λ told. (told.1, c.loop-served.invariant.keeps.stands told.1 (stand told)))
    c.loop-served.invariant.keeps (g.T.Ticks.coming c.loop-served.ticks) (g.R.Door.requests c.loop-served.door)
    (g.R.Door.replies c.loop-served.door) c.loop-served.served (g.W.Stream.held c.args.out.now)
    (g.W.Stream.held c.loop-served.out) (c.loop-served.invariant.going stand elsewhere) (g.T.Ticks.coming c.next-again.new.ticks)
    (g.R.Door.requests c.next-again.new.door) (g.R.Door.replies c.next-again.new.door) c.args.wanted c.loop-served-test.true
    (subst (λ (came : Came). ComesNext (world_of seals_of now) (g.D.Disk.tells × AllStand g.D.Disk.sight now.providers) now.kept
    (place_of g.D.Counted.faults elsewhere now (g.T.Ticks.coming c.loop-served.ticks) (g.R.Door.requests c.loop-served.door)
    (g.R.Door.replies c.loop-served.door))
    (place_of g.D.Counted.faults elsewhere again (g.T.Ticks.coming c.next-again.new.ticks)
    (g.R.Door.requests c.next-again.new.door) (g.R.Door.replies c.next-again.new.door)) came) c.in-NoMoment.is
    (c.next-again.ensures.comes elsewhere))
    ((next_moves g.D.Disk.sight g.D.Counted.faults g.D.Disk.tells (g.P.Depot.tells × g.D.Disk.tells) seals_of start now again
    elsewhere moves c.loop-served.invariant.keeps (c.loop-served.invariant.moves stand elsewhere)
    (c.next-again.ensures.moves elsewhere)).moves)

pub returns-in-NoMoment-clause-keeps : goal.returns-in-NoMoment-clause-keeps
returns-in-NoMoment-clause-keeps g c =
    keeps_on g.D.Disk.sight g.D.Counted.faults g.D.Disk.tells c.args.network c.loop-served.network c.next-again.result.0
    c.loop-served.invariant.keeps c.next-again.ensures.keeps

pub returns-in-NoMoment-clause-no_moment : goal.returns-in-NoMoment-clause-no_moment
returns-in-NoMoment-clause-no_moment g c = λ same.
    risen_since (g.T.Counted.faults c.args.ticks.now) (g.T.Counted.faults c.loop-served.ticks)
    (g.T.Counted.faults c.next-again.new.ticks) c.loop-served.invariant.clock_later
    c.next-again.ensures.clock_later (c.next-again.ensures.no_moment c.in-NoMoment.is)

pub returns-in-Err-clause-serves : goal.returns-in-Err-clause-serves
returns-in-Err-clause-serves g c = λ stand elsewhere.
    let start = c.args.network in
    let seals = seals_of in
    let trade = world_of seals_of start in
    let laws : CallLaws trade (g.P.Depot.tells × g.D.Disk.tells) = record {
      all = c.calls_are_joined.ensures.all trade;
      since = c.calls_are_joined.ensures.since trade;
      same = c.calls_are_joined.ensures.same;
      later = c.calls_are_joined.ensures.later;
      same_text = c.calls_are_joined.ensures.same_text trade;
      behind = c.calls_are_joined.ensures.behind;
    } in
    let joins : ConnectionLaws trade (g.P.Depot.tells × g.D.Disk.tells) start.kept = record {
      one = c.connections_are_joined.ensures.one trade start.kept;
      behind = c.connections_are_joined.ensures.behind;
      text = c.connections_are_joined.ensures.text trade start.kept;
    } in
    let now = c.loop-served.network in
    let again = c.next-again.result.0 in
    let here = place_of g.D.Counted.faults elsewhere start (g.T.Ticks.coming c.args.ticks.now)
    (g.R.Door.requests c.args.door.now) (g.R.Door.replies c.args.door.now) in
    let moves : MoveLaws trade g.D.Disk.tells (g.P.Depot.tells × g.D.Disk.tells) g.D.Disk.sight g.D.Counted.faults = record {
      on = c.moves_are_joined.ensures.on trade;
      part = c.moves_are_joined.ensures.part trade;
      told = c.moves_are_joined.ensures.told trade;
    } in
    ends_broken g.D.Disk.sight g.D.Counted.faults g.D.Disk.tells (g.P.Depot.tells × g.D.Disk.tells) seals_of start laws joins elsewhere here now again
    (λ told. (told.1, c.loop-served.invariant.keeps.stands told.1 (stand told)))
    c.loop-served.invariant.keeps (g.T.Ticks.coming c.loop-served.ticks) (g.R.Door.requests c.loop-served.door)
    (g.R.Door.replies c.loop-served.door) c.loop-served.served (g.W.Stream.held c.args.out.now)
    (g.W.Stream.held c.loop-served.out) (c.loop-served.invariant.going stand elsewhere) (g.T.Ticks.coming c.next-again.new.ticks)
    (g.R.Door.requests c.next-again.new.door) (g.R.Door.replies c.next-again.new.door) c.args.wanted c.loop-served-test.true
    c.in-Served.moment c.in-Served.told
    (subst (λ (came : Came). ComesNext (world_of seals_of now) (g.D.Disk.tells × AllStand g.D.Disk.sight now.providers) now.kept
    (place_of g.D.Counted.faults elsewhere now (g.T.Ticks.coming c.loop-served.ticks) (g.R.Door.requests c.loop-served.door)
    (g.R.Door.replies c.loop-served.door))
    (place_of g.D.Counted.faults elsewhere again (g.T.Ticks.coming c.next-again.new.ticks)
    (g.R.Door.requests c.next-again.new.door) (g.R.Door.replies c.next-again.new.door)) came) c.in-Served.is
    (c.next-again.ensures.comes elsewhere))
    (g.W.Stream.held c.write_outcome.new.out) c.in-Err.ensures.err
    ((next_moves g.D.Disk.sight g.D.Counted.faults g.D.Disk.tells (g.P.Depot.tells × g.D.Disk.tells) seals_of start now again
    elsewhere moves c.loop-served.invariant.keeps (c.loop-served.invariant.moves stand elsewhere)
    (c.next-again.ensures.moves elsewhere)).moves)

pub returns-in-Err-clause-keeps : goal.returns-in-Err-clause-keeps
returns-in-Err-clause-keeps g c =
    keeps_on g.D.Disk.sight g.D.Counted.faults g.D.Disk.tells c.args.network c.loop-served.network c.next-again.result.0
    c.loop-served.invariant.keeps c.next-again.ensures.keeps

pub returns-in-Err-WriteFault-clause-serves : goal.returns-in-Err-WriteFault-clause-serves
returns-in-Err-WriteFault-clause-serves g c = λ stand elsewhere.
    let start = c.args.network in
    let seals = seals_of in
    let trade = world_of seals_of start in
    let laws : CallLaws trade (g.P.Depot.tells × g.D.Disk.tells) = record {
      all = c.calls_are_joined.ensures.all trade;
      since = c.calls_are_joined.ensures.since trade;
      same = c.calls_are_joined.ensures.same;
      later = c.calls_are_joined.ensures.later;
      same_text = c.calls_are_joined.ensures.same_text trade;
      behind = c.calls_are_joined.ensures.behind;
    } in
    let joins : ConnectionLaws trade (g.P.Depot.tells × g.D.Disk.tells) start.kept = record {
      one = c.connections_are_joined.ensures.one trade start.kept;
      behind = c.connections_are_joined.ensures.behind;
      text = c.connections_are_joined.ensures.text trade start.kept;
    } in
    let now = c.loop-served.network in
    let again = c.next-again.result.0 in
    let here = place_of g.D.Counted.faults elsewhere start (g.T.Ticks.coming c.args.ticks.now)
    (g.R.Door.requests c.args.door.now) (g.R.Door.replies c.args.door.now) in
    let moves : MoveLaws trade g.D.Disk.tells (g.P.Depot.tells × g.D.Disk.tells) g.D.Disk.sight g.D.Counted.faults = record {
      on = c.moves_are_joined.ensures.on trade;
      part = c.moves_are_joined.ensures.part trade;
      told = c.moves_are_joined.ensures.told trade;
    } in
    let in_time = served_in_time (world_of seals_of now) (g.D.Disk.tells × AllStand g.D.Disk.sight now.providers) now.kept
    (place_of g.D.Counted.faults elsewhere now (g.T.Ticks.coming c.loop-served.ticks) (g.R.Door.requests c.loop-served.door)
    (g.R.Door.replies c.loop-served.door))
    (place_of g.D.Counted.faults elsewhere again (g.T.Ticks.coming c.next-again.new.ticks)
    (g.R.Door.requests c.next-again.new.door) (g.R.Door.replies c.next-again.new.door)) c.in-Served.moment c.in-Served.told
    c.next-again.result.1 c.in-Served.is (c.next-again.ensures.comes elsewhere) in
    let may = c.acts_are_calls.ensures.may_come (world_of seals_of again) (length again.kept) 0 c.in-Served.moment in_time in
    let keeps_again = keeps_on g.D.Disk.sight g.D.Counted.faults g.D.Disk.tells c.args.network now again
    c.loop-served.invariant.keeps c.next-again.ensures.keeps in
    ends_stopped g.D.Disk.sight g.D.Counted.faults g.D.Disk.tells (g.P.Depot.tells × g.D.Disk.tells) seals_of start laws joins elsewhere here now again
    (λ told. (told.1, c.loop-served.invariant.keeps.stands told.1 (stand told)))
    c.loop-served.invariant.keeps (g.T.Ticks.coming c.loop-served.ticks) (g.R.Door.requests c.loop-served.door)
    (g.R.Door.replies c.loop-served.door) c.loop-served.served (g.W.Stream.held c.args.out.now)
    (g.W.Stream.held c.loop-served.out) (c.loop-served.invariant.going stand elsewhere) (g.T.Ticks.coming c.next-again.new.ticks)
    (g.R.Door.requests c.next-again.new.door) (g.R.Door.replies c.next-again.new.door) c.args.wanted c.loop-served-test.true
    c.in-Served.moment c.in-Served.told
    (subst (λ (came : Came). ComesNext (world_of seals_of now) (g.D.Disk.tells × AllStand g.D.Disk.sight now.providers) now.kept
    (place_of g.D.Counted.faults elsewhere now (g.T.Ticks.coming c.loop-served.ticks) (g.R.Door.requests c.loop-served.door)
    (g.R.Door.replies c.loop-served.door))
    (place_of g.D.Counted.faults elsewhere again (g.T.Ticks.coming c.next-again.new.ticks)
    (g.R.Door.requests c.next-again.new.door) (g.R.Door.replies c.next-again.new.door)) came) c.in-Served.is
    (c.next-again.ensures.comes elsewhere))
    (keeps_on g.D.Disk.sight g.D.Counted.faults g.D.Disk.tells c.args.network c.loop-served.network c.next-again.result.0
    c.loop-served.invariant.keeps c.next-again.ensures.keeps) c.play_clock.new.network (g.W.Stream.held c.write_outcome.new.out)
    (g.W.Stream.held c.play_clock.new.out) (g.W.Counted.faults c.write_outcome.new.out)
    (g.W.Counted.faults c.play_clock.new.out) c.in_default.ensures.ok
    (subst (λ (stop : Stop). ClockWent (world_of seals_of again) (providers_of again.kept)
    (g.P.Depot.tells × g.D.Disk.tells) g.D.Disk.sight g.D.Counted.faults (clock_from (length again.kept) 0 c.in-Served.moment)
    (point_of g.D.Counted.faults elsewhere [] again (g.W.Stream.held c.write_outcome.new.out) (g.W.Counted.faults c.write_outcome.new.out))
    (point_of g.D.Counted.faults elsewhere [] c.play_clock.new.network (g.W.Stream.held c.play_clock.new.out)
    (g.W.Counted.faults c.play_clock.new.out)) (stop_in {T = Unit {0}} (Err stop))) c.in-Err-WriteFault.field-0-is (c.in-Err-WriteFault.ensures.clock
    (λ told. c.next-again.ensures.keeps.stands told.1 (c.loop-served.invariant.keeps.stands told.1 (stand told))) elsewhere))
    (part_moves g.D.Disk.sight g.D.Counted.faults g.D.Disk.tells (g.P.Depot.tells × g.D.Disk.tells) seals_of start now again
    elsewhere moves c.loop-served.invariant.keeps (c.loop-served.invariant.moves stand elsewhere)
    (c.next-again.ensures.moves elsewhere) keeps_again c.play_clock.new.network ((c.in-Err-WriteFault.ensures.clock
    (λ told. c.next-again.ensures.keeps.stands told.1 (c.loop-served.invariant.keeps.stands told.1 (stand told))) elsewhere).moves may))

pub returns-in-Err-WriteFault-clause-keeps : goal.returns-in-Err-WriteFault-clause-keeps
returns-in-Err-WriteFault-clause-keeps g c =
    keeps_on g.D.Disk.sight g.D.Counted.faults g.D.Disk.tells c.args.network c.next-again.result.0 c.play_clock.new.network
    (keeps_on g.D.Disk.sight g.D.Counted.faults g.D.Disk.tells c.args.network c.loop-served.network c.next-again.result.0
    c.loop-served.invariant.keeps c.next-again.ensures.keeps) c.play_clock.ensures.keeps

pub returns-in-Err-NoMemory-clause-serves : goal.returns-in-Err-NoMemory-clause-serves
returns-in-Err-NoMemory-clause-serves g c = λ stand elsewhere.
    let start = c.args.network in
    let seals = seals_of in
    let trade = world_of seals_of start in
    let laws : CallLaws trade (g.P.Depot.tells × g.D.Disk.tells) = record {
      all = c.calls_are_joined.ensures.all trade;
      since = c.calls_are_joined.ensures.since trade;
      same = c.calls_are_joined.ensures.same;
      later = c.calls_are_joined.ensures.later;
      same_text = c.calls_are_joined.ensures.same_text trade;
      behind = c.calls_are_joined.ensures.behind;
    } in
    let joins : ConnectionLaws trade (g.P.Depot.tells × g.D.Disk.tells) start.kept = record {
      one = c.connections_are_joined.ensures.one trade start.kept;
      behind = c.connections_are_joined.ensures.behind;
      text = c.connections_are_joined.ensures.text trade start.kept;
    } in
    let now = c.loop-served.network in
    let again = c.next-again.result.0 in
    let here = place_of g.D.Counted.faults elsewhere start (g.T.Ticks.coming c.args.ticks.now)
    (g.R.Door.requests c.args.door.now) (g.R.Door.replies c.args.door.now) in
    let moves : MoveLaws trade g.D.Disk.tells (g.P.Depot.tells × g.D.Disk.tells) g.D.Disk.sight g.D.Counted.faults = record {
      on = c.moves_are_joined.ensures.on trade;
      part = c.moves_are_joined.ensures.part trade;
      told = c.moves_are_joined.ensures.told trade;
    } in
    let in_time = served_in_time (world_of seals_of now) (g.D.Disk.tells × AllStand g.D.Disk.sight now.providers) now.kept
    (place_of g.D.Counted.faults elsewhere now (g.T.Ticks.coming c.loop-served.ticks) (g.R.Door.requests c.loop-served.door)
    (g.R.Door.replies c.loop-served.door))
    (place_of g.D.Counted.faults elsewhere again (g.T.Ticks.coming c.next-again.new.ticks)
    (g.R.Door.requests c.next-again.new.door) (g.R.Door.replies c.next-again.new.door)) c.in-Served.moment c.in-Served.told
    c.next-again.result.1 c.in-Served.is (c.next-again.ensures.comes elsewhere) in
    let may = c.acts_are_calls.ensures.may_come (world_of seals_of again) (length again.kept) 0 c.in-Served.moment in_time in
    let keeps_again = keeps_on g.D.Disk.sight g.D.Counted.faults g.D.Disk.tells c.args.network now again
    c.loop-served.invariant.keeps c.next-again.ensures.keeps in
    ends_lacking g.D.Disk.sight g.D.Counted.faults g.D.Disk.tells (g.P.Depot.tells × g.D.Disk.tells) seals_of start laws joins elsewhere here now again
    (λ told. (told.1, c.loop-served.invariant.keeps.stands told.1 (stand told)))
    c.loop-served.invariant.keeps (g.T.Ticks.coming c.loop-served.ticks) (g.R.Door.requests c.loop-served.door)
    (g.R.Door.replies c.loop-served.door) c.loop-served.served (g.W.Stream.held c.args.out.now)
    (g.W.Stream.held c.loop-served.out) (c.loop-served.invariant.going stand elsewhere) (g.T.Ticks.coming c.next-again.new.ticks)
    (g.R.Door.requests c.next-again.new.door) (g.R.Door.replies c.next-again.new.door) c.args.wanted c.loop-served-test.true
    c.in-Served.moment c.in-Served.told
    (subst (λ (came : Came). ComesNext (world_of seals_of now) (g.D.Disk.tells × AllStand g.D.Disk.sight now.providers) now.kept
    (place_of g.D.Counted.faults elsewhere now (g.T.Ticks.coming c.loop-served.ticks) (g.R.Door.requests c.loop-served.door)
    (g.R.Door.replies c.loop-served.door))
    (place_of g.D.Counted.faults elsewhere again (g.T.Ticks.coming c.next-again.new.ticks)
    (g.R.Door.requests c.next-again.new.door) (g.R.Door.replies c.next-again.new.door)) came) c.in-Served.is
    (c.next-again.ensures.comes elsewhere))
    (keeps_on g.D.Disk.sight g.D.Counted.faults g.D.Disk.tells c.args.network c.loop-served.network c.next-again.result.0
    c.loop-served.invariant.keeps c.next-again.ensures.keeps) c.play_clock.new.network (g.W.Stream.held c.write_outcome.new.out)
    (g.W.Stream.held c.play_clock.new.out) (g.W.Counted.faults c.write_outcome.new.out)
    (g.W.Counted.faults c.play_clock.new.out) c.in_default.ensures.ok
    (subst (λ (stop : Stop). ClockWent (world_of seals_of again) (providers_of again.kept)
    (g.P.Depot.tells × g.D.Disk.tells) g.D.Disk.sight g.D.Counted.faults (clock_from (length again.kept) 0 c.in-Served.moment)
    (point_of g.D.Counted.faults elsewhere [] again (g.W.Stream.held c.write_outcome.new.out) (g.W.Counted.faults c.write_outcome.new.out))
    (point_of g.D.Counted.faults elsewhere [] c.play_clock.new.network (g.W.Stream.held c.play_clock.new.out)
    (g.W.Counted.faults c.play_clock.new.out)) (stop_in {T = Unit {0}} (Err stop))) c.in-Err-NoMemory.field-0-is (c.in-Err-NoMemory.ensures.clock
    (λ told. c.next-again.ensures.keeps.stands told.1 (c.loop-served.invariant.keeps.stands told.1 (stand told))) elsewhere))
    (part_moves g.D.Disk.sight g.D.Counted.faults g.D.Disk.tells (g.P.Depot.tells × g.D.Disk.tells) seals_of start now again
    elsewhere moves c.loop-served.invariant.keeps (c.loop-served.invariant.moves stand elsewhere)
    (c.next-again.ensures.moves elsewhere) keeps_again c.play_clock.new.network ((c.in-Err-NoMemory.ensures.clock
    (λ told. c.next-again.ensures.keeps.stands told.1 (c.loop-served.invariant.keeps.stands told.1 (stand told))) elsewhere).moves may))

pub returns-in-Err-NoMemory-clause-keeps : goal.returns-in-Err-NoMemory-clause-keeps
returns-in-Err-NoMemory-clause-keeps g c =
    keeps_on g.D.Disk.sight g.D.Counted.faults g.D.Disk.tells c.args.network c.next-again.result.0 c.play_clock.new.network
    (keeps_on g.D.Disk.sight g.D.Counted.faults g.D.Disk.tells c.args.network c.loop-served.network c.next-again.result.0
    c.loop-served.invariant.keeps c.next-again.ensures.keeps) c.play_clock.ensures.keeps

pub loop-served-preserved : goal.loop-served-preserved
loop-served-preserved g c =
    let keeps_again = keeps_on g.D.Disk.sight g.D.Counted.faults g.D.Disk.tells c.args.network c.next-again.result.0 c.play_clock.new.network
    (keeps_on g.D.Disk.sight g.D.Counted.faults g.D.Disk.tells c.args.network c.loop-served.network c.next-again.result.0
    c.loop-served.invariant.keeps c.next-again.ensures.keeps) c.play_clock.ensures.keeps in record {
      going = λ stand elsewhere.
          let start = c.args.network in
          let seals = seals_of in
          let trade = world_of seals_of start in
          let laws : CallLaws trade (g.P.Depot.tells × g.D.Disk.tells) = record {
            all = c.calls_are_joined.ensures.all trade;
            since = c.calls_are_joined.ensures.since trade;
            same = c.calls_are_joined.ensures.same;
            later = c.calls_are_joined.ensures.later;
            same_text = c.calls_are_joined.ensures.same_text trade;
            behind = c.calls_are_joined.ensures.behind;
          } in
          let joins : ConnectionLaws trade (g.P.Depot.tells × g.D.Disk.tells) start.kept = record {
            one = c.connections_are_joined.ensures.one trade start.kept;
            behind = c.connections_are_joined.ensures.behind;
            text = c.connections_are_joined.ensures.text trade start.kept;
          } in
          let now = c.loop-served.network in
          let again = c.next-again.result.0 in
          let here = place_of g.D.Counted.faults elsewhere start (g.T.Ticks.coming c.args.ticks.now)
          (g.R.Door.requests c.args.door.now) (g.R.Door.replies c.args.door.now) in
          let moves : MoveLaws trade g.D.Disk.tells (g.P.Depot.tells × g.D.Disk.tells) g.D.Disk.sight g.D.Counted.faults = record {
            on = c.moves_are_joined.ensures.on trade;
            part = c.moves_are_joined.ensures.part trade;
            told = c.moves_are_joined.ensures.told trade;
          } in
          let in_time = served_in_time (world_of seals_of now) (g.D.Disk.tells × AllStand g.D.Disk.sight now.providers) now.kept
          (place_of g.D.Counted.faults elsewhere now (g.T.Ticks.coming c.loop-served.ticks) (g.R.Door.requests c.loop-served.door)
          (g.R.Door.replies c.loop-served.door))
          (place_of g.D.Counted.faults elsewhere again (g.T.Ticks.coming c.next-again.new.ticks)
          (g.R.Door.requests c.next-again.new.door) (g.R.Door.replies c.next-again.new.door)) c.in-Served.moment c.in-Served.told
          c.next-again.result.1 c.in-Served.is (c.next-again.ensures.comes elsewhere) in
          let may = c.acts_are_calls.ensures.may_come (world_of seals_of again) (length again.kept) 0 c.in-Served.moment in_time in
          let keeps_next = keeps_on g.D.Disk.sight g.D.Counted.faults g.D.Disk.tells c.args.network now again
          c.loop-served.invariant.keeps c.next-again.ensures.keeps in
          ends_written g.D.Disk.sight g.D.Counted.faults g.D.Disk.tells (g.P.Depot.tells × g.D.Disk.tells) seals_of start laws joins elsewhere here now again
          (λ told. (told.1, c.loop-served.invariant.keeps.stands told.1 (stand told)))
          c.loop-served.invariant.keeps (g.T.Ticks.coming c.loop-served.ticks) (g.R.Door.requests c.loop-served.door)
          (g.R.Door.replies c.loop-served.door) c.loop-served.served (g.W.Stream.held c.args.out.now)
          (g.W.Stream.held c.loop-served.out) (c.loop-served.invariant.going stand elsewhere) (g.T.Ticks.coming c.next-again.new.ticks)
          (g.R.Door.requests c.next-again.new.door) (g.R.Door.replies c.next-again.new.door) c.args.wanted c.loop-served-test.true
          c.in-Served.moment c.in-Served.told
          (subst (λ (came : Came). ComesNext (world_of seals_of now) (g.D.Disk.tells × AllStand g.D.Disk.sight now.providers) now.kept
          (place_of g.D.Counted.faults elsewhere now (g.T.Ticks.coming c.loop-served.ticks) (g.R.Door.requests c.loop-served.door)
          (g.R.Door.replies c.loop-served.door))
          (place_of g.D.Counted.faults elsewhere again (g.T.Ticks.coming c.next-again.new.ticks)
          (g.R.Door.requests c.next-again.new.door) (g.R.Door.replies c.next-again.new.door)) came) c.in-Served.is
          (c.next-again.ensures.comes elsewhere))
          (keeps_on g.D.Disk.sight g.D.Counted.faults g.D.Disk.tells c.args.network c.loop-served.network c.next-again.result.0
          c.loop-served.invariant.keeps c.next-again.ensures.keeps) c.play_clock.new.network (g.W.Stream.held c.write_outcome.new.out)
          (g.W.Stream.held c.play_clock.new.out) (g.W.Counted.faults c.write_outcome.new.out)
          (g.W.Counted.faults c.play_clock.new.out) c.in_default.ensures.ok (c.in-Ok.ensures.clock
          (λ told. c.next-again.ensures.keeps.stands told.1 (c.loop-served.invariant.keeps.stands told.1 (stand told))) elsewhere)
          (whole_moves g.D.Disk.sight g.D.Counted.faults g.D.Disk.tells (g.P.Depot.tells × g.D.Disk.tells) seals_of start now again
          elsewhere moves c.loop-served.invariant.keeps (c.loop-served.invariant.moves stand elsewhere)
          (c.next-again.ensures.moves elsewhere) keeps_next c.play_clock.new.network ((c.in-Ok.ensures.clock
          (λ told. c.next-again.ensures.keeps.stands told.1 (c.loop-served.invariant.keeps.stands told.1 (stand told)))
          elsewhere).moves_on may refl));
      moves = λ stand elsewhere.
          let tells = g.P.Depot.tells × g.D.Disk.tells in
          let trade = world_of seals_of c.args.network in
          let laws : MoveLaws trade g.D.Disk.tells tells g.D.Disk.sight g.D.Counted.faults = record {
            on = c.moves_are_joined.ensures.on trade;
            part = c.moves_are_joined.ensures.part trade;
            told = c.moves_are_joined.ensures.told trade;
          } in
          let again = c.next-again.result.0 in
          let now = c.loop-served.network in
          let in_time = served_in_time (world_of seals_of now) (g.D.Disk.tells × AllStand g.D.Disk.sight now.providers) now.kept
          (place_of g.D.Counted.faults elsewhere now (g.T.Ticks.coming c.loop-served.ticks) (g.R.Door.requests c.loop-served.door)
          (g.R.Door.replies c.loop-served.door))
          (place_of g.D.Counted.faults elsewhere again (g.T.Ticks.coming c.next-again.new.ticks)
          (g.R.Door.requests c.next-again.new.door) (g.R.Door.replies c.next-again.new.door)) c.in-Served.moment c.in-Served.told
          c.next-again.result.1 c.in-Served.is (c.next-again.ensures.comes elsewhere) in
          let may = c.acts_are_calls.ensures.may_come (world_of seals_of again) (length again.kept) 0 c.in-Served.moment in_time in
          let keeps_again = keeps_on g.D.Disk.sight g.D.Counted.faults g.D.Disk.tells c.args.network now again
          c.loop-served.invariant.keeps c.next-again.ensures.keeps in
          moves_last g.D.Disk.sight g.D.Counted.faults g.D.Disk.tells tells seals_of c.args.network now again elsewhere laws
          c.loop-served.invariant.keeps (c.loop-served.invariant.moves stand elsewhere) (c.next-again.ensures.moves elsewhere)
          keeps_again c.play_clock.new.network ((c.in-Ok.ensures.clock
          (λ told. c.next-again.ensures.keeps.stands told.1 (c.loop-served.invariant.keeps.stands told.1 (stand told))) elsewhere).moves_on may refl);
      home = λ told k. c.play_clock.ensures.home told k ∙ c.loop-served.invariant.home told k;
      last = λ k. c.play_clock.ensures.last k ∙ c.loop-served.invariant.last k;
      depot_later = omega (arith, c.loop-served.invariant.depot_later, c.play_clock.ensures.later.0);
      keeps = keeps_again;
      out = c.next-again.ensures.out ∙ c.loop-served.invariant.out;
      clock_later = omega (arith, c.loop-served.invariant.clock_later, c.next-again.ensures.clock_later);
      door_later = omega (arith, c.loop-served.invariant.door_later, c.next-again.ensures.door_later);
      out_later = omega (arith, c.loop-served.invariant.out_later, c.write_outcome.ensures.later, c.play_clock.ensures.later.1);
    }

pub returns-clause-serves : goal.returns-clause-serves
returns-clause-serves g c = λ stand elsewhere.
    let start = c.args.network in
    let seals = seals_of in
    let trade = world_of seals_of start in
    let laws : CallLaws trade (g.P.Depot.tells × g.D.Disk.tells) = record {
      all = c.calls_are_joined.ensures.all trade;
      since = c.calls_are_joined.ensures.since trade;
      same = c.calls_are_joined.ensures.same;
      later = c.calls_are_joined.ensures.later;
      same_text = c.calls_are_joined.ensures.same_text trade;
      behind = c.calls_are_joined.ensures.behind;
    } in
    let joins : ConnectionLaws trade (g.P.Depot.tells × g.D.Disk.tells) start.kept = record {
      one = c.connections_are_joined.ensures.one trade start.kept;
      behind = c.connections_are_joined.ensures.behind;
      text = c.connections_are_joined.ensures.text trade start.kept;
    } in
    let here = place_of g.D.Counted.faults elsewhere start (g.T.Ticks.coming c.args.ticks.now)
    (g.R.Door.requests c.args.door.now) (g.R.Door.replies c.args.door.now) in
    let there = place_of g.D.Counted.faults elsewhere c.loop-served.network (g.T.Ticks.coming c.loop-served.ticks)
    (g.R.Door.requests c.loop-served.door) (g.R.Door.replies c.loop-served.door) in
    let all : c.loop-served.served ≡ c.args.wanted =
    omega (arith, c.loop-served-test.false, c.loop-served.auto.served-end) in
    let at = state_in g.D.Counted.faults elsewhere [] c.loop-served.network in
    all_served trade (g.P.Depot.tells × g.D.Disk.tells) g.D.Disk.sight g.D.Counted.faults start.kept laws joins
    (state_in g.D.Counted.faults elsewhere [] start) at here there c.loop-served.served (g.W.Stream.held c.args.out.now)
    (g.W.Stream.held c.loop-served.out) (c.loop-served.invariant.going stand elsewhere) c.args.wanted all
    ((c.moves_are_joined.ensures.none trade at).moves)

pub returns-in-NoConnection-clause-moves : goal.returns-in-NoConnection-clause-moves
returns-in-NoConnection-clause-moves g c = λ stand elsewhere.
    let tells = g.P.Depot.tells × g.D.Disk.tells in
    let trade = world_of seals_of c.args.network in
    let laws : MoveLaws trade g.D.Disk.tells tells g.D.Disk.sight g.D.Counted.faults = record {
      on = c.moves_are_joined.ensures.on trade;
      part = c.moves_are_joined.ensures.part trade;
      told = c.moves_are_joined.ensures.told trade;
    } in
    (moves_again g.D.Disk.sight g.D.Counted.faults g.D.Disk.tells tells seals_of c.args.network c.loop-served.network
    c.next-again.result.0 elsewhere laws c.loop-served.invariant.keeps (c.loop-served.invariant.moves stand elsewhere)
    (c.next-again.ensures.moves elsewhere)).moves

pub returns-in-NoMoment-clause-moves : goal.returns-in-NoMoment-clause-moves
returns-in-NoMoment-clause-moves g c = λ stand elsewhere.
    let tells = g.P.Depot.tells × g.D.Disk.tells in
    let trade = world_of seals_of c.args.network in
    let laws : MoveLaws trade g.D.Disk.tells tells g.D.Disk.sight g.D.Counted.faults = record {
      on = c.moves_are_joined.ensures.on trade;
      part = c.moves_are_joined.ensures.part trade;
      told = c.moves_are_joined.ensures.told trade;
    } in
    (moves_again g.D.Disk.sight g.D.Counted.faults g.D.Disk.tells tells seals_of c.args.network c.loop-served.network
    c.next-again.result.0 elsewhere laws c.loop-served.invariant.keeps (c.loop-served.invariant.moves stand elsewhere)
    (c.next-again.ensures.moves elsewhere)).moves

pub returns-in-Err-clause-moves : goal.returns-in-Err-clause-moves
returns-in-Err-clause-moves g c = λ stand elsewhere.
    let tells = g.P.Depot.tells × g.D.Disk.tells in
    let trade = world_of seals_of c.args.network in
    let laws : MoveLaws trade g.D.Disk.tells tells g.D.Disk.sight g.D.Counted.faults = record {
      on = c.moves_are_joined.ensures.on trade;
      part = c.moves_are_joined.ensures.part trade;
      told = c.moves_are_joined.ensures.told trade;
    } in
    (moves_again g.D.Disk.sight g.D.Counted.faults g.D.Disk.tells tells seals_of c.args.network c.loop-served.network
    c.next-again.result.0 elsewhere laws c.loop-served.invariant.keeps (c.loop-served.invariant.moves stand elsewhere)
    (c.next-again.ensures.moves elsewhere)).moves

pub returns-in-Err-WriteFault-clause-moves : goal.returns-in-Err-WriteFault-clause-moves
returns-in-Err-WriteFault-clause-moves g c = λ stand elsewhere.
    let tells = g.P.Depot.tells × g.D.Disk.tells in
    let trade = world_of seals_of c.args.network in
    let laws : MoveLaws trade g.D.Disk.tells tells g.D.Disk.sight g.D.Counted.faults = record {
      on = c.moves_are_joined.ensures.on trade;
      part = c.moves_are_joined.ensures.part trade;
      told = c.moves_are_joined.ensures.told trade;
    } in
    let again = c.next-again.result.0 in
    let now = c.loop-served.network in
    let in_time = served_in_time (world_of seals_of now) (g.D.Disk.tells × AllStand g.D.Disk.sight now.providers) now.kept
    (place_of g.D.Counted.faults elsewhere now (g.T.Ticks.coming c.loop-served.ticks) (g.R.Door.requests c.loop-served.door)
    (g.R.Door.replies c.loop-served.door))
    (place_of g.D.Counted.faults elsewhere again (g.T.Ticks.coming c.next-again.new.ticks)
    (g.R.Door.requests c.next-again.new.door) (g.R.Door.replies c.next-again.new.door)) c.in-Served.moment c.in-Served.told
    c.next-again.result.1 c.in-Served.is (c.next-again.ensures.comes elsewhere) in
    let may = c.acts_are_calls.ensures.may_come (world_of seals_of again) (length again.kept) 0 c.in-Served.moment in_time in
    let keeps_again = keeps_on g.D.Disk.sight g.D.Counted.faults g.D.Disk.tells c.args.network now again
    c.loop-served.invariant.keeps c.next-again.ensures.keeps in
    moves_stopped g.D.Disk.sight g.D.Counted.faults g.D.Disk.tells tells seals_of c.args.network now again elsewhere laws
    c.loop-served.invariant.keeps (c.loop-served.invariant.moves stand elsewhere) (c.next-again.ensures.moves elsewhere) keeps_again
    c.play_clock.new.network ((c.in-Err-WriteFault.ensures.clock
    (λ told. c.next-again.ensures.keeps.stands told.1 (c.loop-served.invariant.keeps.stands told.1 (stand told))) elsewhere).moves may)

pub returns-in-Err-NoMemory-clause-moves : goal.returns-in-Err-NoMemory-clause-moves
returns-in-Err-NoMemory-clause-moves g c = λ stand elsewhere.
    let tells = g.P.Depot.tells × g.D.Disk.tells in
    let trade = world_of seals_of c.args.network in
    let laws : MoveLaws trade g.D.Disk.tells tells g.D.Disk.sight g.D.Counted.faults = record {
      on = c.moves_are_joined.ensures.on trade;
      part = c.moves_are_joined.ensures.part trade;
      told = c.moves_are_joined.ensures.told trade;
    } in
    let again = c.next-again.result.0 in
    let now = c.loop-served.network in
    let in_time = served_in_time (world_of seals_of now) (g.D.Disk.tells × AllStand g.D.Disk.sight now.providers) now.kept
    (place_of g.D.Counted.faults elsewhere now (g.T.Ticks.coming c.loop-served.ticks) (g.R.Door.requests c.loop-served.door)
    (g.R.Door.replies c.loop-served.door))
    (place_of g.D.Counted.faults elsewhere again (g.T.Ticks.coming c.next-again.new.ticks)
    (g.R.Door.requests c.next-again.new.door) (g.R.Door.replies c.next-again.new.door)) c.in-Served.moment c.in-Served.told
    c.next-again.result.1 c.in-Served.is (c.next-again.ensures.comes elsewhere) in
    let may = c.acts_are_calls.ensures.may_come (world_of seals_of again) (length again.kept) 0 c.in-Served.moment in_time in
    let keeps_again = keeps_on g.D.Disk.sight g.D.Counted.faults g.D.Disk.tells c.args.network now again
    c.loop-served.invariant.keeps c.next-again.ensures.keeps in
    moves_stopped g.D.Disk.sight g.D.Counted.faults g.D.Disk.tells tells seals_of c.args.network now again elsewhere laws
    c.loop-served.invariant.keeps (c.loop-served.invariant.moves stand elsewhere) (c.next-again.ensures.moves elsewhere) keeps_again
    c.play_clock.new.network ((c.in-Err-NoMemory.ensures.clock
    (λ told. c.next-again.ensures.keeps.stands told.1 (c.loop-served.invariant.keeps.stands told.1 (stand told))) elsewhere).moves may)

pub returns-clause-moves : goal.returns-clause-moves
returns-clause-moves g c = λ stand elsewhere. (c.loop-served.invariant.moves stand elsewhere).moves

pub returns-in-Err-WriteFault-clause-home : goal.returns-in-Err-WriteFault-clause-home
returns-in-Err-WriteFault-clause-home g c = λ told k.
    c.play_clock.ensures.home told k ∙ c.loop-served.invariant.home told k

pub returns-in-Err-WriteFault-clause-last : goal.returns-in-Err-WriteFault-clause-last
returns-in-Err-WriteFault-clause-last g c = λ k. c.play_clock.ensures.last k ∙ c.loop-served.invariant.last k

pub returns-in-Err-NoMemory-clause-home : goal.returns-in-Err-NoMemory-clause-home
returns-in-Err-NoMemory-clause-home g c = λ told k.
    c.play_clock.ensures.home told k ∙ c.loop-served.invariant.home told k

pub returns-in-Err-NoMemory-clause-last : goal.returns-in-Err-NoMemory-clause-last
returns-in-Err-NoMemory-clause-last g c = λ k. c.play_clock.ensures.last k ∙ c.loop-served.invariant.last k
