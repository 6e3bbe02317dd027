use Rattle.std.proofs.Common.{◌≡◌, List, [], ◌∷◌, ◌++◌, ap, arith, ◌∙◌, length}
use Rattle.std.proofs.lemmas.Result.{err_from_is_err_and}
use Rattle.pec_types.specs.Bytes.{Bytes}
use Rattle.pec_provider.specs.OfTrades.{world_at}
use Rattle.pec_chronicle.specs.Carrying.{NothingMay}
use Rattle.pec_chronicle.specs.CarryingLaws.{carries_and_then}
use Rattle.pec_network.specs.Turning.{room_in}
use Rattle.pec_network.proofs.PutLemmas.{all_put, none_put, one_put, put_fails, unchanged_so}
use Rattle.pec_network.proofs.putting.puts.Goals as goal

pub loop-to-init : goal.loop-to-init
loop-to-init g c =
    rw c.new-out.ensures.items
    (none_put g.D.Disk.tells g.D.Disk.sight g.D.Counted.faults c.args.house.now.directory.now
    (g.S.Sealer.seals c.args.house.now.sealer.now) (world_at c.args.house.now) c.args.house.now.me
    (room_in c.args.rooms.now) c.args.provider.now c.requires.runs c.requires.up c.what_rests_carries_on.ensures)

pub loop-to-preserved : goal.loop-to-preserved
loop-to-preserved g c =
    one_put g.D.Disk.tells g.D.Disk.sight g.D.Counted.faults c.args.house.now.directory.now
    (g.S.Sealer.seals c.args.house.now.sealer.now) (world_at c.args.house.now) c.args.house.now.me
    (room_in c.args.rooms.now) c.args.provider.now c.loop-to.to c.loop-to.provider c.put_due.new.self c.loop-to.out.items
    c.push_reserved.new.self.items c.of.result c.in_ok-frames.frames.items c.loop-to.invariant
    (c.push_reserved.ensures.items
    ∙ ap (λ (out : List (List Bytes)). out ++ c.of.result ∷ []) c.in_ok-reserve.ensures.items)
    c.of.ensures c.in_ok-frames.ensures.reads c.in_ok-frames.ensures.runs c.in_ok-frames.ensures.carries
    c.in_ok-frames.ensures.later c.in_ok-frames.ensures.few c.in_ok-frames.ensures.due

pub returns-in_err-frames-clause-failed : goal.returns-in_err-frames-clause-failed
returns-in_err-frames-clause-failed g c =
    let p = err_from_is_err_and c.from_residual-in_err-frames.result c.from_residual-in_err-frames.ensures.1 in
    rw (p.1, p.2) (λ other. put_fails g.D.Disk.tells g.D.Disk.sight g.D.Counted.faults c.args.house.now.directory.now
    (g.S.Sealer.seals c.args.house.now.sealer.now) (world_at c.args.house.now) c.args.house.now.me
    (room_in c.args.rooms.now) c.args.provider.now (Unit {0}) c.loop-to.to c.loop-to.provider c.put_due.new.self
    c.loop-to.out.items _ c.loop-to.invariant c.in_err-frames.ensures.reads c.in_err-frames.ensures.refused other (Unit {0}) [])

pub returns-in_err-frames-clause-unchanged : goal.returns-in_err-frames-clause-unchanged
returns-in_err-frames-clause-unchanged g c = λ stood.
    let trade = world_at c.args.house.now in
    let p = err_from_is_err_and c.from_residual-in_err-frames.result c.from_residual-in_err-frames.ensures.1 in
    rw (p.1, p.2) (unchanged_so g.D.Disk.tells g.D.Disk.sight g.D.Counted.faults c.args.house.now.directory.now
    (g.S.Sealer.seals c.args.house.now.sealer.now) trade c.args.house.now.me (room_in c.args.rooms.now)
    c.args.provider.now c.loop-to.to c.loop-to.provider c.loop-to.out.items _ c.loop-to.invariant
    (λ journals fit. c.nothing_has_changed.ensures.letters trade c.a_house_is_a_trade.ensures.trade journals fit
    c.args.house.now.me) c.in_err-frames.ensures.changed stood)

pub returns-in_err-frames-clause-carries : goal.returns-in_err-frames-clause-carries
returns-in_err-frames-clause-carries g c = λ tells.
    carries_and_then g.D.Disk.sight NothingMay c.args.provider.now.chronicle c.loop-to.provider.chronicle
    c.put_due.new.self.chronicle (c.loop-to.invariant.carries tells) (c.in_err-frames.ensures.carries tells)

pub returns-clause-out : goal.returns-clause-out
returns-clause-out g c =
    let all : c.loop-to.to ≡ length c.args.house.now.directory.now =
    omega (arith, c.loop-to-test.false, c.loop-to.auto.to-end, c.count-to-end.ensures.count) in
    all_put g.D.Disk.tells g.D.Disk.sight g.D.Counted.faults c.args.house.now.directory.now
    (g.S.Sealer.seals c.args.house.now.sealer.now) (world_at c.args.house.now) c.args.house.now.me
    (room_in c.args.rooms.now) c.args.provider.now c.loop-to.to (length c.args.house.now.directory.now)
    c.loop-to.provider c.loop-to.out.items c.loop-to.invariant all

pub returns-clause-count : goal.returns-clause-count
returns-clause-count g c =
    let count = c.loop-to.invariant.many in
    omega (arith, count, c.loop-to.auto.to-end, c.count-to-end.ensures.few)
