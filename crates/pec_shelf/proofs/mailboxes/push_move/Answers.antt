use Rattle.std.proofs.Common.{◌≡◌, ℕ, List, ◌++◌, ◌<◌, Some, length, slice_get, refl, sym, ap, subst, ◌∙◌, append-nil, Option}
use Rattle.std.specs.Option.{IfSome, option_map, option_to_list}
use Rattle.std.proofs.lemmas.List.{map-append}
use Rattle.pec_ledger.specs.Half.{Move, Posted}
use Rattle.pec_ledger.specs.Lookups.{takes_room}
use Rattle.pec_ledger.specs.Boxes.{boxes_of}
use Rattle.pec_shelf.specs.Moves.{AreMoved, Moved, boxes_at, items_of, moves_of, places_of, rank_at}
use Rattle.pec_shelf.proofs.MoveLemmas.{moved_more, places_are, stands_at}
use Rattle.pec_shelf.proofs.mailboxes.push_move.Goals as goal

-- no item is moved
pub returns-in_default-clause-moves : goal.returns-in_default-clause-moves
returns-in_default-clause-moves c =
    sym (ap (λ (o : Option Move). moves_of c.args.moves.now.rows ++ option_to_list o) c.in_default.is ∙ append-nil (moves_of c.args.moves.now.rows))

pub returns-clause-kept : goal.returns-clause-kept
returns-clause-kept c =
    let items = c.args.boxes.now.items in
    let kept = c.args.moves.now.rows in
    let what = c.in-Some.what in
    let own = items_of what.account items in
    let there = subst (λ (o : Option Move). IfSome o (λ (row : Move). row.place < length (boxes_at row.account items (moves_of kept)).mailbox)) c.in-Some.is c.requires.there in
    let stands = stands_at own (places_of what.account kept) what.place
    (subst (λ (ps : List ℕ). what.place < length (boxes_of own ps).mailbox) (sym (places_are what.account kept (moves_of kept) refl)) there) in
    let rank = c.rank_at-rank.ensures ∙ ap (λ (m : Move). rank_at (places_of m.account kept) m.place) c.what.view_is in
    let at = ap (slice_get own) rank ∙ stands.1 in
    let found : c.takes_room-took.result ≡ takes_room stands.0.item =
    c.takes_room-took.ensures stands.0 (ap (λ (m : Move). slice_get (items_of m.account items) c.rank_at-rank.result) c.what.view_is ∙ at) in
    subst (λ (rows : List Moved). AreMoved items rows) (sym c.push.ensures.rows)
    (moved_more items kept (record { what = what; rank = c.rank_at-rank.result; took = c.takes_room-took.result }) c.requires.kept rank
    (ap (option_map (λ (p : Posted). takes_room p.item)) at ∙ ap Some (sym found)))

pub returns-clause-moves : goal.returns-clause-moves
returns-clause-moves c =
    ap moves_of c.push.ensures.rows
    ∙ map-append (λ (m : Moved). m.what) c.args.moves.now.rows _
    ∙ ap (λ (o : Option Move). moves_of c.args.moves.now.rows ++ option_to_list o) (sym c.in-Some.is)
