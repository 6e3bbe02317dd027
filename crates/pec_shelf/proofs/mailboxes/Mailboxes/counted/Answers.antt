use Rattle.std.proofs.Common.{◌≡◌, ◌-◌, ℕ, List, ap, ◌∙◌, arith}
use Rattle.pec_ledger.specs.Along.{times}
use Rattle.pec_ledger.specs.Boxes.{boxes_of}
use Rattle.pec_ledger.specs.Half.{Posted}
use Rattle.pec_ledger.specs.Lookups.{takes_room}
use Rattle.pec_shelf.specs.Moves.{Stored, boxes_at, items_of, places_of}
use Rattle.pec_shelf.proofs.MoveLemmas.{counted_so, places_are}
use Rattle.pec_shelf.proofs.mailboxes.Mailboxes.counted.Goals as goal

pub overflow_sub-result : goal.overflow_sub-result
overflow_sub-result c =
    let all = counted_so c.self.inside.boxes.items c.self.inside.moves.rows c.self.invariant c.args.account.now in
    omega (arith, all, c.counted.ensures, c.counted-2.ensures.value)

pub returns : goal.returns
returns c =
    let account = c.args.account.now in
    let items = c.self.inside.boxes.items in
    let kept = c.self.inside.moves.rows in
    let all = counted_so items kept c.self.invariant account in
    let left : c.counted.result - c.counted-2.result
    ≡ times (λ (posted : Posted). takes_room posted.item) (boxes_of (items_of account items) (places_of account kept)).mailbox =
    omega (arith, all, c.counted.ensures, c.counted-2.ensures.value) in
    left
    ∙ ap (λ (ps : List ℕ). times (λ (posted : Posted). takes_room posted.item) (boxes_of (items_of account items) ps).mailbox)
    (places_are account kept c.args.self.now.moves (ap (λ (s : Stored). s.moves) c.self.view_is))
    ∙ ap (λ (xs : List Posted). times (λ (posted : Posted). takes_room posted.item) (boxes_at account xs c.args.self.now.moves).mailbox) (ap (λ (s : Stored). s.items) c.self.view_is)
