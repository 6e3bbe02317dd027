use Rattle.std.proofs.Common.{◌≡◌, slice_range}
use Rattle.std.specs.List.{filter_map}
use Rattle.pec_shelf.specs.Deadlines.{mark_on, pairs_in}
use Rattle.pec_shelf.specs.Prepared.{with_marks}
use Rattle.pec_shelf.proofs.marking.with_marks_between.Given as goal

abbrev pub invariant-loop-place : goal.invariant-loop-place
invariant-loop-place l = l.ready ≡ with_marks l.shelf.half l.fn.ready
    (filter_map (mark_on l.shelf.me l.shelf.half l.now) (slice_range (pairs_in 0 l.outbox.messages) l.from l.place))
