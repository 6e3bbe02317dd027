use Rattle.std.proofs.Common.{ℕ, List, ap, ◌∙◌}
use Rattle.std.specs.List.{find, flat_map}
use Rattle.pec_shelf.specs.Sides.{Received}
use Rattle.pec_shelf.specs.Undecided.{is_open, pairs_at, pairs_taken}
use Rattle.pec_shelf.proofs.UndecidedLemmas.{first_is}
use Rattle.pec_shelf.proofs.inbox.Inbox.next_undecided.Goals as goal

pub returns : goal.returns
returns c =
    c.first_undecided.ensures
    ∙ ap (λ (places : List ℕ). find (is_open c.self.inside.decided.rows) (flat_map (pairs_at c.self.inside.taken.rows) places)) c.places.ensures
    ∙ first_is c.self.inside.taken.rows c.self.inside.decided.rows c.self.inside.undecided.places c.self.invariant.undecided
    ∙ ap (λ (v : Received). find (is_open v.decided) (pairs_taken v.taken)) c.self.view_is
