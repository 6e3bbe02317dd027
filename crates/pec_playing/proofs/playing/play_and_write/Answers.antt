use Rattle.std.proofs.Common.{◌∙◌, Ok, Err, map, arith, ap, refl, subst}
use Rattle.std.proofs.lemmas.Result.{err_from_is_err_and}
use Rattle.pec_types.specs.Bytes.{Bytes}
use Rattle.pec_outside.specs.Flow.{WrotePart, followed_by}
use Rattle.pec_directory.specs.Directory.{providers_of}
use Rattle.pec_network.specs.Network.{world_of}
use Rattle.pec_runs.specs.ScriptLines.{command_in}
use Rattle.pec_playing.specs.Spares.{last_spare}
use Rattle.pec_playing.proofs.SpareLemmas.{last_hands}
use Rattle.pec_runs.specs.Steps.{IsMoment}
use Rattle.pec_playing.specs.Points.{point_of}
use Rattle.pec_playing.specs.declared.stops.Stop.{Stop}
use Rattle.pec_playing.proofs.MomentLemmas.{is_moment, state_counted}
use Rattle.pec_playing.proofs.PlayLemmas.{play_says, play_stops}
use Rattle.pec_playing.proofs.WritingLemmas.{ActLaws, play_breaks, play_ends, play_lacks}
use Rattle.pec_playing.proofs.playing.play_and_write.Goals as goal

pub returns-in_err-text-clause-goes : goal.returns-in_err-text-clause-goes
returns-in_err-text-clause-goes g c = λ stands elsewhere.
    let old = c.args.network.now in
    let new = c.play_command.new.network in
    let tells = g.P.Depot.tells × g.D.Disk.tells in
    let trade = world_of g.S.Sealer.seals old in
    let providers = providers_of old.kept in
    let spares = map g.J.Judge.spare_patterns c.args.spares.now.items in
    let left = map g.J.Judge.spare_patterns c.play_command.new.spares.items in
    let command = command_in (last_spare spares) c.args.command in
    let does = c.in_err-text.ensures.does in
    let held = g.W.Stream.held c.args.out.now in
    let count = g.W.Counted.faults c.args.out.now in
    let here = point_of g.D.Counted.faults elsewhere spares old held count in
    let there = point_of g.D.Counted.faults elsewhere left new held count in
    let moment : tells → IsMoment trade g.D.Disk.sight here.state there.state = λ told.
    is_moment g.D.Disk.sight g.D.Disk.tells trade
    (record { follows = c.a_call_leaves_what_follows.ensures.follows trade; seen = c.a_call_leaves_what_follows.ensures.seen })
    old new does.keeps.many c.in_err-text.ensures.carries told.1
    g.D.Counted.faults elsewhere spares left held held count count in
    let laws : ActLaws g.D.Disk.sight g.D.Counted.faults trade providers tells command here there = record {
      played_so = λ luck stop is handed.
          c.an_act_is_done.ensures.played trade providers command luck here there stop is handed
          (state_counted g.D.Counted.faults elsewhere left new) moment;
      stopped_so = λ left. c.an_act_is_done.ensures.stopped trade providers command here there left moment;
      strayed_so = λ text stop. c.an_act_is_done.ensures.strayed trade providers command here there text stop;
    } in
    let p = err_from_is_err_and c.from_residual.result c.from_residual.ensures.1 in
    play_lacks g.D.Disk.sight g.D.Counted.faults g.D.Disk.tells tells trade command spares left old new does.keeps elsewhere held held
    count count (omega arith) laws
    (play_stops g.D.Disk.sight g.D.Counted.faults g.P.Depot.tells g.D.Disk.tells trade command old new stands
    (Err c.in_err-text.field-0.0) does) refl c.from_residual.result (p.1 ∙ ap (λ (s : Stop). Err s) p.2)

pub returns-in_err-write_all-clause-goes : goal.returns-in_err-write_all-clause-goes
returns-in_err-write_all-clause-goes g c = λ stands elsewhere.
    let old = c.args.network.now in
    let new = c.play_command.new.network in
    let tells = g.P.Depot.tells × g.D.Disk.tells in
    let trade = world_of g.S.Sealer.seals old in
    let providers = providers_of old.kept in
    let spares = map g.J.Judge.spare_patterns c.args.spares.now.items in
    let left = map g.J.Judge.spare_patterns c.play_command.new.spares.items in
    let command = command_in (last_spare spares) c.args.command in
    let does = c.in_ok-text.ensures.does in
    let before = g.W.Stream.held c.args.out.now in
    let after = g.W.Stream.held c.write_all.new.out in
    let from = g.W.Counted.faults c.args.out.now in
    let upto = g.W.Counted.faults c.write_all.new.out in
    let here = point_of g.D.Counted.faults elsewhere spares old before from in
    let there = point_of g.D.Counted.faults elsewhere left new after upto in
    let moment : tells → IsMoment trade g.D.Disk.sight here.state there.state = λ told.
    is_moment g.D.Disk.sight g.D.Disk.tells trade
    (record { follows = c.a_call_leaves_what_follows.ensures.follows trade; seen = c.a_call_leaves_what_follows.ensures.seen })
    old new does.keeps.many c.in_ok-text.ensures.carries told.1
    g.D.Counted.faults elsewhere spares left before after from upto in
    let laws : ActLaws g.D.Disk.sight g.D.Counted.faults trade providers tells command here there = record {
      played_so = λ luck stop is handed.
          c.an_act_is_done.ensures.played trade providers command luck here there stop is handed
          (state_counted g.D.Counted.faults elsewhere left new) moment;
      stopped_so = λ left. c.an_act_is_done.ensures.stopped trade providers command here there left moment;
      strayed_so = λ text stop. c.an_act_is_done.ensures.strayed trade providers command here there text stop;
    } in
    let p = err_from_is_err_and c.from_residual-in_err-write_all.result c.from_residual-in_err-write_all.ensures.1 in
    play_breaks g.D.Disk.sight g.D.Counted.faults g.D.Disk.tells tells trade command spares left old new does.keeps elsewhere before after
    from upto c.write_all.ensures.later laws (last_hands spares c.args.command) c.in_ok-text.ensures.left
    c.in_ok-text.text.items
    (play_says g.D.Disk.sight g.D.Counted.faults g.P.Depot.tells g.D.Disk.tells trade command old new stands
    (Ok c.in_ok-text.text) does elsewhere)
    (subst (λ (t : Bytes). WrotePart before after t) c.deref.ensures.value c.in_err-write_all.ensures.err)
    c.in_err-write_all.ensures.cause c.from_residual-in_err-write_all.result (p.1 ∙ ap (λ (s : Stop). Err s) p.2)

pub returns-clause-goes : goal.returns-clause-goes
returns-clause-goes g c = λ stands elsewhere.
    let old = c.args.network.now in
    let new = c.play_command.new.network in
    let tells = g.P.Depot.tells × g.D.Disk.tells in
    let trade = world_of g.S.Sealer.seals old in
    let providers = providers_of old.kept in
    let spares = map g.J.Judge.spare_patterns c.args.spares.now.items in
    let left = map g.J.Judge.spare_patterns c.play_command.new.spares.items in
    let command = command_in (last_spare spares) c.args.command in
    let does = c.in_ok-text.ensures.does in
    let before = g.W.Stream.held c.args.out.now in
    let after = g.W.Stream.held c.write_all.new.out in
    let from = g.W.Counted.faults c.args.out.now in
    let upto = g.W.Counted.faults c.write_all.new.out in
    let here = point_of g.D.Counted.faults elsewhere spares old before from in
    let there = point_of g.D.Counted.faults elsewhere left new after upto in
    let moment : tells → IsMoment trade g.D.Disk.sight here.state there.state = λ told.
    is_moment g.D.Disk.sight g.D.Disk.tells trade
    (record { follows = c.a_call_leaves_what_follows.ensures.follows trade; seen = c.a_call_leaves_what_follows.ensures.seen })
    old new does.keeps.many c.in_ok-text.ensures.carries told.1
    g.D.Counted.faults elsewhere spares left before after from upto in
    let laws : ActLaws g.D.Disk.sight g.D.Counted.faults trade providers tells command here there = record {
      played_so = λ luck stop is handed.
          c.an_act_is_done.ensures.played trade providers command luck here there stop is handed
          (state_counted g.D.Counted.faults elsewhere left new) moment;
      stopped_so = λ left. c.an_act_is_done.ensures.stopped trade providers command here there left moment;
      strayed_so = λ text stop. c.an_act_is_done.ensures.strayed trade providers command here there text stop;
    } in
    play_ends g.D.Disk.sight g.D.Counted.faults g.D.Disk.tells tells trade command spares left old new does.keeps elsewhere before after
    from upto c.write_all.ensures.later laws (last_hands spares c.args.command) c.in_ok-text.ensures.left
    c.in_ok-text.text.items
    (play_says g.D.Disk.sight g.D.Counted.faults g.P.Depot.tells g.D.Disk.tells trade command old new stands
    (Ok c.in_ok-text.text) does elsewhere)
    (c.in_ok-write_all.ensures.ok ∙ ap (followed_by before) c.deref.ensures.value)
