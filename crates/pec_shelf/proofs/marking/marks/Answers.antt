use Rattle.std.proofs.Common.{arith}
use Rattle.pec_shelf.proofs.MarkLemmas.{marks_are, ordered, second_ordered, within_pairs}
use Rattle.pec_shelf.proofs.marking.marks.Goals as goal

pub with_marks_between-requires : goal.with_marks_between-requires
with_marks_between-requires c =
    let order = (ordered c.args.deadlines.now c.args.shelf.now.half.last c.args.now c.args.outbox.now c.requires.watched c.requires.in_time).1 in
    let within = (within_pairs c.args.deadlines.now c.args.shelf.now.half.last c.args.now c.args.outbox.now c.requires.watched).1 in
    record {
      few = c.requires.few;
      all = c.requires.side.messages;
      spots = c.requires.watched.spots;
      order = omega (arith, c.noticed-from.ensures, c.requires.noticed, order);
      within = omega (arith, c.requires.noticed, within);
    }

pub with_marks_between-requires-2 : goal.with_marks_between-requires-2
with_marks_between-requires-2 c =
    let order = second_ordered c.args.deadlines.now c.args.shelf.now.half.last c.args.now c.args.outbox.now c.requires.watched c.requires.in_time in
    let within = (within_pairs c.args.deadlines.now c.args.shelf.now.half.last c.args.now c.args.outbox.now c.requires.watched).0 in
    record {
      few = c.requires.few;
      all = c.requires.side.messages;
      spots = c.requires.watched.spots;
      order = omega (arith, c.warned.ensures, c.max-from.ensures, c.requires.warned, c.requires.noticed, order);
      within = omega (arith, c.requires.warned, within);
    }

pub returns : goal.returns
returns c =
    marks_are c.args.shelf.now.me c.args.shelf.now.half c.args.deadlines.now c.args.shelf.now.half.last c.args.now c.args.outbox.now c.args.warned c.args.noticed
    c.warned.result c.noticed-from.result c.max-from.result c.nothing-ready.result c.in_ok-ready.ready c.in_ok-ready-2.ready
    c.requires.side c.requires.watched c.requires.in_time c.requires.warned c.requires.noticed c.warned.ensures c.noticed-from.ensures c.max-from.ensures
    c.nothing-ready.ensures c.in_ok-ready.ensures c.in_ok-ready-2.ensures
