use Rattle.std.proofs.Common.{ℕ, List, slice_get, sym, ap, ◌∙◌}
use Rattle.pec_ledger.specs.Boxes.{boxes_of}
use Rattle.pec_ledger.specs.Half.{Posted}
use Rattle.pec_shelf.specs.Moves.{Stored, boxes_at, items_of, places_of, rank_at}
use Rattle.pec_shelf.proofs.MoveLemmas.{mailbox_at, places_are}
use Rattle.pec_shelf.proofs.mailboxes.Mailboxes.at.Goals as goal

pub returns : goal.returns
returns c =
    let account = c.args.account.now in
    let items = c.self.inside.boxes.items in
    let kept = c.self.inside.moves.rows in
    c.at.ensures
    ∙ ap (slice_get (items_of account items)) c.rank_at.ensures
    ∙ sym (mailbox_at (items_of account items) (places_of account kept) c.args.place)
    ∙ ap (λ (ps : List ℕ). slice_get (boxes_of (items_of account items) ps).mailbox c.args.place)
    (places_are account kept c.args.self.now.moves (ap (λ (s : Stored). s.moves) c.self.view_is))
    ∙ ap (λ (xs : List Posted). slice_get (boxes_at account xs c.args.self.now.moves).mailbox c.args.place) (ap (λ (s : Stored). s.items) c.self.view_is)
