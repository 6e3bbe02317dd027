use Rattle.std.proofs.Common.{ℕ, List, map, slice_get, sym, ap, ◌∙◌}
use Rattle.std.specs.List.{filter_map}
use Rattle.pec_ledger.specs.Books.{item_line}
use Rattle.pec_ledger.specs.Boxes.{boxes_of}
use Rattle.pec_ledger.specs.Half.{Posted}
use Rattle.pec_shelf.specs.Moves.{Stored, boxes_at, items_of}
use Rattle.pec_shelf.proofs.MoveLemmas.{archive_is, places_are}
use Rattle.pec_shelf.proofs.mailboxes.Mailboxes.vault_lines.Goals as goal

pub returns : goal.returns
returns c =
    let account = c.args.account.now in
    let items = c.self.inside.boxes.items in
    let own = items_of account items in
    let kept = c.self.inside.moves.rows in
    c.in_ok-lines.ensures
    ∙ ap (λ (rs : List ℕ). map (λ (posted : Posted). item_line posted.item) (filter_map (slice_get own) rs)) (c.as_slice.ensures.value ∙ c.in_ok-ranks.ensures)
    ∙ ap (map (λ (posted : Posted). item_line posted.item))
    (sym (archive_is items kept c.self.invariant account)
    ∙ ap (λ (ps : List ℕ). (boxes_of own ps).archive) (places_are account kept c.args.self.now.moves (ap (λ (s : Stored). s.moves) c.self.view_is))
    ∙ ap (λ (xs : List Posted). (boxes_at account xs c.args.self.now.moves).archive) (ap (λ (s : Stored). s.items) c.self.view_is))
