-- The deadlines stay those of the pairs, and messages stay few enough.
use Rattle.std.proofs.Common.{ℕ, ◌+◌, ◌<◌, ◌≤◌, max, arith, List, [], ◌∷◌, length, length-append, sym, ap, subst, ◌∙◌}
use Rattle.std.proofs.lemmas.List.{length-map}
use Rattle.std.specs.Option.{IfSome}
use Rattle.pec_ledger.specs.Half.{Move, Posted}
use Rattle.pec_shelf.specs.Deadlines.{IsSideOf, IsWatched, Watch, pairs_in, set_by}
use Rattle.pec_shelf.specs.Moves.{boxes_at}
use Rattle.pec_shelf.specs.Prepared.{Prepared, all_of}
use Rattle.pec_shelf.specs.Seen.{Seen}
use Rattle.pec_shelf.specs.Sides.{Kept, Sent}
use Rattle.pec_shelf.proofs.ArchiveLemmas.{may_move}
use Rattle.pec_shelf.proofs.PairingLemmas.{pairs_joined}
use Rattle.pec_shelf.proofs.StepLemmas.{few_after}
use Rattle.pec_shelf.proofs.WatchLemmas.{full_by, pairs_counted, rising_more, set_room, watched_on}
use Rattle.pec_shelf.proofs.shelf.Shelf.commit.Goals as goal

pub add-requires : goal.add-requires
add-requires c =
    let came = c.requires.came in
    let old = c.self.inside.outbox in
    let half = c.args.self.now.half in
    let rows = c.taken_apart-sent.result.0.messages.items in
    let watched = subst (λ (n : ℕ). IsWatched c.self.inside.deadlines n old) (ap (λ (s : Seen). s.half.last) c.self.view_is) c.self.invariant.watched in
    let side : IsSideOf c.args.self.now.me half old = record {
      own = c.self.invariant.own ∙ ap (λ (s : Seen). s.me) c.self.view_is;
      messages = ap (λ (s : Seen). s.half.messages) c.self.view_is;
      charged = ap (λ (s : Seen). s.half.charged) c.self.view_is;
      marks = ap (λ (s : Seen). s.half.marks) c.self.view_is;
      known = ap (λ (s : Seen). s.half.known) c.self.view_is;
    } in
    let homes = ap (λ (s : Seen). s.certified) c.self.view_is ∙ came.for in
    let setting = c.set.ensures ∙ ap (set_by c.self.inside.deadlines) (ap (λ (p : Prepared). p.clock) c.ready.view_is) in
    let first = c.len-first.ensures.value ∙ ap length c.messages.ensures in
    let seen = length-map old.messages (λ (row : Kept). row.message) in
    let same = ap length side.messages in
    let added = sym (length-map rows (λ (row : Kept). row.message)) ∙ ap length c.taken_apart-sent.ensures.messages ∙ ap (λ (p : Prepared). length p.adds.messages) came.is in
    let few = few_after came.trade c.args.self.now.me half came.entry came.step.own (omega (arith, same, seen, c.self.invariant.few)) in
    let room = ap (λ (s : Seen). s.room) c.self.view_is in
    let kept = ap (λ (w : Watch). w.room) setting ∙ set_room c.self.inside.deadlines c.args.ready.clock in
    let counted = pairs_counted c.len-first.result rows ∙ ap (λ cs. length (all_of cs)) c.taken_apart-sent.ensures.certified in
    let fits : length (pairs_in c.len-first.result rows) ≤ c.set.new.self.room = omega (arith, room, kept, counted, c.requires.room.lists.pairs) in
    let below : c.len-first.result + length rows < 18446744073709551616 = omega (arith, first, seen, same, added, few) in
    rw c.as_slice.ensures.value (record {
      room = fits;
      rising = rising_more came.trade c.args.self.now.me half came.entry c.args.ready old old c.self.inside.deadlines c.set.new.self rows
          c.taken_apart-sent.result.0.charged.items c.taken_apart-sent.result.0.marks.items c.taken_apart-sent.result.0.known.items
          watched side came.step came.is homes c.taken_apart-sent.ensures.messages setting c.len-first.result;
      below = below;
    })

-- an item that is archived stands in its mailbox
pub add-requires-4-clause-there : goal.add-requires-4-clause-there
add-requires-4-clause-there c =
    let came = c.requires.came in
    let half = c.args.self.now.half in
    let moved = c.taken_apart-sent.result.4 in
    subst (λ (xs : List Posted). IfSome moved (λ (row : Move). row.place < length (boxes_at row.account xs c.self.inside.boxes.moves).mailbox))
    (sym (ap (λ (s : Seen). s.half.items) c.self.view_is))
    (subst (λ (ms : List Move). IfSome moved (λ (row : Move). row.place < length (boxes_at row.account half.items ms).mailbox))
    (sym (ap (λ (s : Seen). s.half.moves) c.self.view_is))
    (may_move came.trade c.args.self.now.me half came.entry moved came.step.own
    (c.taken_apart-sent.ensures.moves ∙ ap (λ (p : Prepared). p.adds.moves) came.is)))

pub invariant_of-self : goal.invariant_of-self
invariant_of-self c =
    let came = c.requires.came in
    let old = c.self.inside.outbox in
    let half = c.args.self.now.half in
    let rows = c.taken_apart-sent.result.0.messages.items in
    let watched = subst (λ (n : ℕ). IsWatched c.self.inside.deadlines n old) (ap (λ (s : Seen). s.half.last) c.self.view_is) c.self.invariant.watched in
    let side : IsSideOf c.args.self.now.me half old = record {
      own = c.self.invariant.own ∙ ap (λ (s : Seen). s.me) c.self.view_is;
      messages = ap (λ (s : Seen). s.half.messages) c.self.view_is;
      charged = ap (λ (s : Seen). s.half.charged) c.self.view_is;
      marks = ap (λ (s : Seen). s.half.marks) c.self.view_is;
      known = ap (λ (s : Seen). s.half.known) c.self.view_is;
    } in
    let homes = ap (λ (s : Seen). s.certified) c.self.view_is ∙ came.for in
    let setting = c.set.ensures ∙ ap (set_by c.self.inside.deadlines) (ap (λ (p : Prepared). p.clock) c.ready.view_is) in
    let first = c.len-first.ensures.value ∙ ap length c.messages.ensures in
    let seen = length-map old.messages (λ (row : Kept). row.message) in
    let same = ap length side.messages in
    let grown = ap (λ (s : Sent). length s.messages) c.add-2.ensures ∙ length-append old.messages rows in
    let added = sym (length-map rows (λ (row : Kept). row.message)) ∙ ap length c.taken_apart-sent.ensures.messages ∙ ap (λ (p : Prepared). length p.adds.messages) came.is in
    let few = few_after came.trade c.args.self.now.me half came.entry came.step.own (omega (arith, same, seen, c.self.invariant.few)) in
    let ends = c.max-self-inside.ensures ∙ ap (λ (n : ℕ). max n c.ready.inside.moment) (ap (λ (s : Seen). s.half.last) c.self.view_is)
    ∙ ap (max half.last) (ap (λ (p : Prepared). p.adds.moment) c.ready.view_is) in
    record {
      own = ap (λ (s : Sent). s.me) c.add-2.ensures ∙ c.self.invariant.own;
      few = omega (arith, grown, added, few, same, seen);
      full = rw (ap (λ (s : Sent). s.messages) c.add-2.ensures)
          (omega (
            arith,
            ap length (pairs_joined 0 old.messages rows),
            length-append (pairs_in 0 old.messages) (pairs_in (0 + length old.messages) rows),
            length-append old.messages rows,
            c.self.invariant.full,
            full_by came.trade c.args.self.now.me half came.entry (0 + length old.messages) rows came.step.own
                (c.taken_apart-sent.ensures.messages ∙ ap (λ (p : Prepared). p.adds.messages) came.is)
                (c.taken_apart-sent.ensures.certified ∙ ap (λ (p : Prepared). p.certified) came.is),
          ));
      placed = omega (arith, ap length c.push.ensures, length-append c.self.inside.places.places (c.ready.inside.place ∷ []), c.self.invariant.placed);
      watched = watched_on came.trade c.args.self.now.me half came.entry c.args.ready old c.add-2.new.self c.self.inside.deadlines c.set.new.self rows
          c.taken_apart-sent.result.0.charged.items c.taken_apart-sent.result.0.marks.items c.taken_apart-sent.result.0.known.items
          watched side came.step came.is homes c.taken_apart-sent.ensures.messages setting
          c.add.new.self c.len-first.result c.max-self-inside.result
          (record {
            me = ap (λ (s : Sent). s.me) c.add-2.ensures;
            messages = ap (λ (s : Sent). s.messages) c.add-2.ensures;
            charged = ap (λ (s : Sent). s.charged) c.add-2.ensures;
            marks = ap (λ (s : Sent). s.marks) c.add-2.ensures;
            known = ap (λ (s : Sent). s.known) c.add-2.ensures;
          })
          c.taken_apart-sent.ensures.marks first (rw c.as_slice.ensures.value at c.add.ensures.moments) (rw c.as_slice.ensures.value at c.add.ensures.spots) c.add.ensures.same ends;
    }
