use Rattle.std.proofs.Common.{ℕ, List, map, slice_get, sym, ap, ◌∙◌}
use Rattle.std.specs.List.{filter_map, range_with_len}
use Rattle.pec_ledger.specs.Books.{item_line}
use Rattle.pec_ledger.specs.Boxes.{boxes_of}
use Rattle.pec_ledger.specs.Half.{Posted}
use Rattle.pec_shelf.specs.Moves.{Stored, boxes_at, items_of, places_of, ranks_left}
use Rattle.pec_shelf.proofs.MoveLemmas.{mailbox_left, places_are}
use Rattle.pec_shelf.proofs.mailboxes.Mailboxes.lines.Goals as goal

pub returns : goal.returns
returns c =
    let account = c.args.account.now in
    let own = items_of account c.self.inside.boxes.items in
    let kept = c.self.inside.moves.rows in
    let ranks = c.as_slice.ensures.value ∙ c.in_ok-ranks.ensures
    ∙ ap (λ (n : ℕ). ranks_left (range_with_len 0 n) (places_of account kept)) c.count.ensures in
    c.in_ok-lines.ensures
    ∙ ap (λ (rs : List ℕ). map (λ (posted : Posted). item_line posted.item) (filter_map (slice_get own) rs)) ranks
    ∙ ap (map (λ (posted : Posted). item_line posted.item))
    (sym (mailbox_left own (places_of account kept))
    ∙ ap (λ (ps : List ℕ). (boxes_of own ps).mailbox) (places_are account kept c.args.self.now.moves (ap (λ (s : Stored). s.moves) c.self.view_is))
    ∙ ap (λ (xs : List Posted). (boxes_at account xs c.args.self.now.moves).mailbox) (ap (λ (s : Stored). s.items) c.self.view_is))
