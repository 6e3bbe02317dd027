use Rattle.std.proofs.Common.{ℕ, List, sym, subst}
use Rattle.pec_shelf.specs.Sides.{Received}
use Rattle.pec_shelf.specs.Still.{IsHeard}
use Rattle.pec_shelf.specs.Waiting.{AllElseDone}
use Rattle.pec_shelf.proofs.inbox.Inbox.unheard.Goals as goal

pub returns : goal.returns
returns c =
    subst (λ (v : Received). AllElseDone (IsHeard v.acked) 0 v.decided c.places.result.now) c.self.view_is
    (subst (λ (places : List ℕ). AllElseDone (IsHeard c.self.inside.acked.rows) 0 c.self.inside.decided.rows places) (sym c.places.ensures) c.self.invariant.unheard)
