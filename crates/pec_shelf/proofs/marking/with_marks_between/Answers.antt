use Rattle.std.proofs.Common.{◌≡◌, ℕ, ap, sym, ◌∙◌, arith, slice_get, slice_range}
use Rattle.std.specs.List.{filter_map}
use Rattle.pec_shelf.specs.Deadlines.{mark_on, mark_there, pairs_in}
use Rattle.pec_shelf.specs.Prepared.{Prepared, with_marks}
use Rattle.pec_shelf.proofs.LoopLemmas.{marks_joined, no_marks_more}
use Rattle.pec_shelf.proofs.PairingLemmas.{marks_begin, marks_stepped}
use Rattle.pec_shelf.proofs.marking.with_marks_between.Goals as goal

pub loop-place-init : goal.loop-place-init
loop-place-init c = no_marks_more c.args.shelf.now.half c.args.ready _ (marks_begin c.args.shelf.now.me c.args.shelf.now.half c.args.now (pairs_in 0 c.args.outbox.now.messages) c.args.from)

pub loop-place-preserved : goal.loop-place-preserved
loop-place-preserved c =
    let half = c.args.shelf.now.half in
    let pairs = pairs_in 0 c.args.outbox.now.messages in
    let before = filter_map (mark_on c.args.shelf.now.me half c.args.now) (slice_range pairs c.args.from c.loop-place.place) in
    let here = mark_there c.args.shelf.now.me half c.args.now c.args.outbox.now.messages (slice_get c.args.deadlines.now.spots c.loop-place.place) in
    c.in_ok-ready.ensures ∙ ap (λ (r : Prepared). with_marks half r here) c.loop-place.invariant ∙ marks_joined half c.args.ready before here
    ∙ ap (with_marks half c.args.ready) (sym (marks_stepped c.args.shelf.now.me half c.args.now c.args.outbox.now.messages c.args.deadlines.now.spots c.args.from c.loop-place.place
    (omega arith) (omega (arith, c.requires.within)) c.requires.spots))

pub returns : goal.returns
returns c =
    let ends : c.loop-place.place ≡ c.args.to = omega arith in
    c.loop-place.invariant
    ∙ ap (λ (n : ℕ). with_marks c.args.shelf.now.half c.args.ready (filter_map (mark_on c.args.shelf.now.me c.args.shelf.now.half c.args.now)
    (slice_range (pairs_in 0 c.args.outbox.now.messages) c.args.from n))) ends
