use Rattle.std.proofs.Common.{ℕ, List, slice_get, sym, ap, ◌∙◌}
use Rattle.std.specs.Option.{option_and_then}
use Rattle.pec_ledger.specs.Boxes.{boxes_of}
use Rattle.pec_ledger.specs.Half.{Posted}
use Rattle.pec_shelf.specs.Moves.{Moved, Stored, boxes_at, items_of, own_moved}
use Rattle.pec_shelf.proofs.MoveLemmas.{archive_at, archive_is, places_are}
use Rattle.pec_shelf.proofs.mailboxes.Mailboxes.vault_at.Goals as goal

pub returns-in_default : goal.returns-in_default
returns-in_default c =
    let account = c.args.account.now in
    let items = c.self.inside.boxes.items in
    let own = items_of account items in
    let kept = c.self.inside.moves.rows in
    ap (option_and_then (λ (m : Moved). slice_get own m.rank)) c.in_default.ensures
    ∙ sym (archive_at own (own_moved account kept) c.args.place (c.self.invariant.there account))
    ∙ ap (λ (xs : List Posted). slice_get xs c.args.place) (sym (archive_is items kept c.self.invariant account))
    ∙ ap (λ (ps : List ℕ). slice_get (boxes_of own ps).archive c.args.place) (places_are account kept c.args.self.now.moves (ap (λ (s : Stored). s.moves) c.self.view_is))
    ∙ ap (λ (xs : List Posted). slice_get (boxes_at account xs c.args.self.now.moves).archive c.args.place) (ap (λ (s : Stored). s.items) c.self.view_is)

pub returns : goal.returns
returns c =
    let account = c.args.account.now in
    let items = c.self.inside.boxes.items in
    let own = items_of account items in
    let kept = c.self.inside.moves.rows in
    c.at.ensures
    ∙ ap (slice_get own) c.rank.ensures
    ∙ ap (option_and_then (λ (m : Moved). slice_get own m.rank)) c.in-Some.ensures
    ∙ sym (archive_at own (own_moved account kept) c.args.place (c.self.invariant.there account))
    ∙ ap (λ (xs : List Posted). slice_get xs c.args.place) (sym (archive_is items kept c.self.invariant account))
    ∙ ap (λ (ps : List ℕ). slice_get (boxes_of own ps).archive c.args.place) (places_are account kept c.args.self.now.moves (ap (λ (s : Stored). s.moves) c.self.view_is))
    ∙ ap (λ (xs : List Posted). slice_get (boxes_at account xs c.args.self.now.moves).archive c.args.place) (ap (λ (s : Stored). s.items) c.self.view_is)
