use Rattle.std.proofs.Common.{◌≡◌, ◌∙◌, ◌+◌, ◌<◌, [], ◌∷◌, List, length, map, ap, sym, subst, refl, arith, Option, None, Err, Vec, Global}
use Rattle.std.proofs.lemmas.Result.{err_from_is_err_and}
use Rattle.pec_directory.specs.Directory.{Kept, providers_of}
use Rattle.pec_playing.specs.OfNetworks.{world_of}
use Rattle.pec_playing.specs.Points.{point_of, stop_in}
use Rattle.pec_plays.specs.Commands.{Round, Tick}
use Rattle.pec_screen.specs.Verdicts.{Patterns}
use Rattle.pec_service.specs.OfRuns.{Act, Climbs, Goes, Plays, Stop}
use Rattle.pec_service.specs.Calls.{clock_from}
use Rattle.pec_serving.proofs.ClockLemmas.{all_due, by_result, by_stop, due_from, last_due, next_due, no_spares}
use Rattle.pec_serving.proofs.clock.play_clock.Goals as goal

pub loop-provider-init : goal.loop-provider-init
loop-provider-init g c =
    let start = c.args.network.now in
    let tells = g.P.Depot.tells × g.D.Disk.tells in
    let trade = world_of g.S.Sealer.seals start in
    let providers = providers_of start.kept in
    let due = map Plays (clock_from (length start.kept) 0 c.args.moment) in
    record {
      climbs = λ stand elsewhere.
          let here = point_of g.D.Counted.faults elsewhere [] start (g.W.Stream.held c.args.out.now)
          (g.W.Counted.faults c.args.out.now) in
          subst (λ (left : List Act). Climbs trade providers tells g.D.Disk.sight g.D.Counted.faults due left here here)
          (sym (all_due (length start.kept) c.args.moment)) (c.acts_are_joined.ensures.starts trade providers due here);
      keeps = c.what_is_kept_is_kept_on.ensures.none start;
      home = λ told k. refl;
      last = λ k. refl;
      depot_later = omega arith;
      later = omega arith;
      spares = c.new-none.ensures.items;
      within = omega arith;
    }

pub loop-provider-preserved : goal.loop-provider-preserved
loop-provider-preserved g c =
    let so = c.loop-provider.invariant in
    let start = c.args.network.now in
    let tells = g.P.Depot.tells × g.D.Disk.tells in
    let trade = world_of g.S.Sealer.seals start in
    let providers = providers_of start.kept in
    let size = length start.kept in
    let moment = c.args.moment in
    let due = map Plays (clock_from size 0 moment) in
    let number = c.loop-provider.provider in
    let below : number < size =
    omega (
      arith,
      c.loop-provider-test.true,
      c.count-provider-end.ensures.count,
      ap (λ (k : List Kept). length k) c.directory.ensures.value,
    ) in
    record {
      climbs = λ stand elsewhere.
          let first = point_of g.D.Counted.faults elsewhere [] start (g.W.Stream.held c.args.out.now)
          (g.W.Counted.faults c.args.out.now) in
          let here = point_of g.D.Counted.faults elsewhere [] c.loop-provider.network (g.W.Stream.held c.loop-provider.out)
          (g.W.Counted.faults c.loop-provider.out) in
          c.acts_are_joined.ensures.on trade providers due (Plays (Tick number moment) ∷ [])
          (due_from size moment (number + 1)) first here _
          (subst (λ (left : List Act). Climbs trade providers tells g.D.Disk.sight g.D.Counted.faults due left first here) (next_due size
          moment number below)
          (so.climbs stand elsewhere))
          (no_spares g.J.Judge.spare_patterns c.loop-provider.none c.play_and_write.new.spares so.spares
          (c.play_and_write.ensures.spared tt)
          (λ (before behind : List Patterns). Goes trade providers tells g.D.Disk.sight g.D.Counted.faults (Plays (Tick number moment) ∷ [])
          (point_of g.D.Counted.faults elsewhere before c.loop-provider.network (g.W.Stream.held c.loop-provider.out)
          (g.W.Counted.faults c.loop-provider.out))
          (point_of g.D.Counted.faults elsewhere behind c.play_and_write.new.network (g.W.Stream.held c.play_and_write.new.out)
          (g.W.Counted.faults c.play_and_write.new.out)) None)
          (rw (so.keeps.directory, so.keeps.seals) at c.in_ok-play_and_write.ensures.goes
          (λ told. so.keeps.stands told.1 (stand told)) elsewhere));
      keeps = c.what_is_kept_is_kept_on.ensures.one start c.loop-provider.network c.play_and_write.new.network
          so.keeps c.play_and_write.ensures.keeps;
      home = λ told k. c.play_and_write.ensures.home told k ∙ so.home told k;
      last = λ k. c.play_and_write.ensures.last k ∙ so.last k;
      depot_later = omega (arith, so.depot_later, c.play_and_write.ensures.later.0);
      later = omega (arith, so.later, c.play_and_write.ensures.later.1);
      spares = ap (λ (v : Vec _ Global). v.items) (c.play_and_write.ensures.spared tt) ∙ so.spares;
      within = omega (arith, below);
    }

pub returns-in_err-play_and_write-clause-clock : goal.returns-in_err-play_and_write-clause-clock
returns-in_err-play_and_write-clause-clock g c = λ stand elsewhere.
    let so = c.loop-provider.invariant in
    let start = c.args.network.now in
    let tells = g.P.Depot.tells × g.D.Disk.tells in
    let trade = world_of g.S.Sealer.seals start in
    let providers = providers_of start.kept in
    let size = length start.kept in
    let moment = c.args.moment in
    let due = map Plays (clock_from size 0 moment) in
    let number = c.loop-provider.provider in
    let below : number < size =
    omega (
      arith,
      c.loop-provider-test.true,
      c.count-provider-end.ensures.count,
      ap (λ (k : List Kept). length k) c.directory.ensures.value,
    ) in
    let first = point_of g.D.Counted.faults elsewhere [] start (g.W.Stream.held c.args.out.now)
    (g.W.Counted.faults c.args.out.now) in
    let here = point_of g.D.Counted.faults elsewhere [] c.loop-provider.network (g.W.Stream.held c.loop-provider.out)
    (g.W.Counted.faults c.loop-provider.out) in
    let there = point_of g.D.Counted.faults elsewhere [] c.play_and_write.new.network
    (g.W.Stream.held c.play_and_write.new.out) (g.W.Counted.faults c.play_and_write.new.out) in
    let climbs = subst (λ (left : List Act). Climbs trade providers tells g.D.Disk.sight g.D.Counted.faults due left first here)
    (next_due size moment number below) (so.climbs stand elsewhere) in
    let stop = c.in_err-play_and_write.field-0.0 in
    let goes = (no_spares g.J.Judge.spare_patterns c.loop-provider.none c.play_and_write.new.spares so.spares
    (c.play_and_write.ensures.spared tt)
    (λ (before behind : List Patterns). Goes trade providers tells g.D.Disk.sight g.D.Counted.faults (Plays (Tick number moment) ∷ [])
    (point_of g.D.Counted.faults elsewhere before c.loop-provider.network (g.W.Stream.held c.loop-provider.out)
    (g.W.Counted.faults c.loop-provider.out))
    (point_of g.D.Counted.faults elsewhere behind c.play_and_write.new.network (g.W.Stream.held c.play_and_write.new.out)
    (g.W.Counted.faults c.play_and_write.new.out)) (stop_in {T = Unit {0}} (Err stop)))
    (rw (so.keeps.directory, so.keeps.seals) at c.in_err-play_and_write.ensures.goes
    (λ told. so.keeps.stands told.1 (stand told)) elsewhere)) in
    let p = err_from_is_err_and c.from_residual.result
    c.from_residual.ensures.1 in
    rw (p.1, p.2) (c.acts_are_calls.ensures.went trade providers size 0 moment first there _
    (by_stop (λ (o : Option Stop). Goes trade providers tells g.D.Disk.sight g.D.Counted.faults (Plays (Tick number moment) ∷ []) here
    there o)
    (λ (o : Option Stop). Goes trade providers tells g.D.Disk.sight g.D.Counted.faults due first there o)
    (λ why one. c.acts_are_joined.ensures.stops trade providers due (Plays (Tick number moment) ∷ [])
    (due_from size moment (number + 1)) first here there why climbs one) stop goes))

pub returns-clause-clock : goal.returns-clause-clock
returns-clause-clock g c = λ stand elsewhere.
    let so = c.loop-provider.invariant in
    let start = c.args.network.now in
    let tells = g.P.Depot.tells × g.D.Disk.tells in
    let trade = world_of g.S.Sealer.seals start in
    let providers = providers_of start.kept in
    let size = length start.kept in
    let moment = c.args.moment in
    let due = map Plays (clock_from size 0 moment) in
    let last : c.loop-provider.provider ≡ size =
    omega (
      arith,
      c.loop-provider-test.false,
      so.within,
      c.count-provider-end.ensures.count,
      ap (λ (k : List Kept). length k) c.directory.ensures.value,
    ) in
    let first = point_of g.D.Counted.faults elsewhere [] start (g.W.Stream.held c.args.out.now)
    (g.W.Counted.faults c.args.out.now) in
    let here = point_of g.D.Counted.faults elsewhere [] c.loop-provider.network (g.W.Stream.held c.loop-provider.out)
    (g.W.Counted.faults c.loop-provider.out) in
    let there = point_of g.D.Counted.faults elsewhere [] c.play_and_write-2.new.network (g.W.Stream.held
    c.play_and_write-2.new.out)
    (g.W.Counted.faults c.play_and_write-2.new.out) in
    let climbs = subst (λ (left : List Act). Climbs trade providers tells g.D.Disk.sight g.D.Counted.faults due left first here)
    (last_due size moment c.loop-provider.provider last) (so.climbs stand elsewhere) in
    let goes = (no_spares g.J.Judge.spare_patterns c.loop-provider.none c.play_and_write-2.new.spares so.spares
    (c.play_and_write-2.ensures.spared tt)
    (λ (before behind : List Patterns). Goes trade providers tells g.D.Disk.sight g.D.Counted.faults (Plays (Round moment) ∷ [])
    (point_of g.D.Counted.faults elsewhere before c.loop-provider.network (g.W.Stream.held c.loop-provider.out)
    (g.W.Counted.faults c.loop-provider.out))
    (point_of g.D.Counted.faults elsewhere behind c.play_and_write-2.new.network (g.W.Stream.held c.play_and_write-2.new.out)
    (g.W.Counted.faults c.play_and_write-2.new.out)) (stop_in c.play_and_write-2.result))
    (rw (so.keeps.directory, so.keeps.seals) at c.play_and_write-2.ensures.goes
    (λ told. so.keeps.stands told.1 (stand told)) elsewhere)) in
    c.acts_are_calls.ensures.went trade providers size 0 moment first there (stop_in c.play_and_write-2.result)
    (by_result (λ (o : Option Stop). Goes trade providers tells g.D.Disk.sight g.D.Counted.faults (Plays (Round moment) ∷ []) here there o)
    (λ (o : Option Stop). Goes trade providers tells g.D.Disk.sight g.D.Counted.faults due first there o)
    (λ one. c.acts_are_joined.ensures.ends trade providers due first there
    (c.acts_are_joined.ensures.on trade providers due (Plays (Round moment) ∷ []) [] first here there climbs one))
    (λ why one. c.acts_are_joined.ensures.stops trade providers due (Plays (Round moment) ∷ []) [] first here there
    why climbs
    one) c.play_and_write-2.result goes)
