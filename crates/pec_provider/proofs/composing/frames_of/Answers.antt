use Rattle.std.proofs.Common.{List, Option, Ok, ap, ◌∙◌, arith}
use Rattle.std.proofs.lemmas.Result.{err_from_is_err_and}
use Rattle.pec_types.specs.Bytes.{Bytes}
use Rattle.pec_chronicle.specs.Chronicle.{ChronicleState}
use Rattle.pec_reception.specs.OfTrades.{world_at}
use Rattle.pec_provider.proofs.ComposeLemmas.{fails_carries, fails_changed, fails_reads, frames_all, frames_given, frames_more, frames_none}
use Rattle.pec_provider.proofs.RunLemmas.{agree_read}
use Rattle.pec_provider.proofs.composing.frames_of.Goals as goal

pub loop-letter-init : goal.loop-letter-init
loop-letter-init g c =
    rw c.new-frames.ensures.items (frames_none g.D.Disk.tells g.D.Disk.sight g.D.Counted.faults (world_at c.args.house.now) c.args.house.now.me
    c.args.chronicle.now c.args.letters.now c.stands_still.ensures)

pub frame_for-requires-clause-up : goal.frame_for-requires-clause-up
frame_for-requires-clause-up g c =
    ap (λ (s : ChronicleState g.row.D.Denot). s.down) c.loop-letter.invariant.reads ∙ c.requires.up

pub frame_for-requires-clause-agree : goal.frame_for-requires-clause-agree
frame_for-requires-clause-agree g c =
    agree_read c.args.house.now.directory.now c.args.chronicle.now c.loop-letter.chronicle c.args.shelf.now
    (Ok c.loop-letter.frames.items) c.requires.agree c.loop-letter.invariant.reads

pub loop-letter-preserved : goal.loop-letter-preserved
loop-letter-preserved g c =
    frames_more g.D.Disk.tells g.D.Disk.sight g.D.Counted.faults (world_at c.args.house.now) c.args.house.now.me
    c.args.chronicle.now c.args.letters.now c.loop-letter.letter-index c.letter-item.result c.loop-letter.chronicle
    c.frame_for.new.chronicle c.loop-letter.frames.items c.loop-letter-test.true c.letter-item.is c.loop-letter.invariant
    c.due_letters_have_the_due_frames.ensures.more c.in_ok-found.found c.push.new.frames.items
    c.in_ok-found.ensures.reads c.in_ok-found.ensures.carries c.in_ok-found.ensures.later c.in_ok-found.ensures.frame
    c.in_ok-found.ensures.given c.in_ok-push.ensures

pub returns-in_err-found-clause-reads : goal.returns-in_err-found-clause-reads
returns-in_err-found-clause-reads g c =
    let p = err_from_is_err_and c.from_residual.result c.from_residual.ensures.1 in
    rw (p.1, p.2) (fails_reads g.D.Disk.tells g.D.Disk.sight g.D.Counted.faults (world_at c.args.house.now)
    c.args.house.now.me c.args.chronicle.now c.args.letters.now c.loop-letter.letter-index c.letter-item.result
    c.loop-letter.chronicle c.frame_for.new.chronicle c.loop-letter.frames.items c.loop-letter-test.true c.letter-item.is
    c.loop-letter.invariant (Option Bytes) (List Bytes) _ c.in_err-found.ensures.reads)

pub returns-in_err-found-clause-changed : goal.returns-in_err-found-clause-changed
returns-in_err-found-clause-changed g c =
    let p = err_from_is_err_and c.from_residual.result c.from_residual.ensures.1 in
    rw (p.1, p.2) (fails_changed g.D.Disk.tells g.D.Disk.sight g.D.Counted.faults (world_at c.args.house.now)
    c.args.house.now.me c.args.chronicle.now c.args.letters.now c.loop-letter.letter-index c.letter-item.result
    c.loop-letter.chronicle c.frame_for.new.chronicle c.loop-letter.frames.items c.loop-letter-test.true c.letter-item.is
    c.loop-letter.invariant _ c.in_err-found.ensures.changed)

pub returns-in_err-found-clause-carries : goal.returns-in_err-found-clause-carries
returns-in_err-found-clause-carries g c =
    fails_carries g.D.Disk.tells g.D.Disk.sight g.D.Counted.faults (world_at c.args.house.now)
    c.args.house.now.me c.args.chronicle.now c.args.letters.now c.loop-letter.letter-index c.letter-item.result
    c.loop-letter.chronicle c.frame_for.new.chronicle c.loop-letter.frames.items c.loop-letter-test.true c.letter-item.is
    c.loop-letter.invariant c.in_err-found.ensures.carries

pub returns-in_err-push-clause-carries : goal.returns-in_err-push-clause-carries
returns-in_err-push-clause-carries g c =
    fails_carries g.D.Disk.tells g.D.Disk.sight g.D.Counted.faults (world_at c.args.house.now)
    c.args.house.now.me c.args.chronicle.now c.args.letters.now c.loop-letter.letter-index c.letter-item.result
    c.loop-letter.chronicle c.frame_for.new.chronicle c.loop-letter.frames.items c.loop-letter-test.true c.letter-item.is
    c.loop-letter.invariant c.in_ok-found.ensures.carries

pub returns-clause-frames : goal.returns-clause-frames
returns-clause-frames g c =
    frames_all g.D.Disk.tells g.D.Disk.sight g.D.Counted.faults (world_at c.args.house.now) c.args.house.now.me
    c.args.chronicle.now c.args.letters.now c.loop-letter.letter-index c.loop-letter.chronicle c.loop-letter.frames.items
    (omega (arith, c.loop-letter-test.false)) c.loop-letter.invariant

pub returns-clause-given : goal.returns-clause-given
returns-clause-given g c =
    frames_given g.D.Disk.tells g.D.Disk.sight g.D.Counted.faults (world_at c.args.house.now) c.args.house.now.me
    c.args.chronicle.now c.args.letters.now c.loop-letter.letter-index c.loop-letter.chronicle
    c.loop-letter.frames.items
    (omega (arith, c.loop-letter-test.false)) c.loop-letter.invariant
