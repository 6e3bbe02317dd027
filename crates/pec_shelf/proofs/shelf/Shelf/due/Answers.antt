use Rattle.std.proofs.Common.{ℕ, ◌++◌, ap, ◌∙◌, take}
use Rattle.pec_ledger.specs.Due.{outcomes_to}
use Rattle.pec_shelf.specs.Lines.{envelope_rows}
use Rattle.pec_shelf.specs.Seen.{Seen}
use Rattle.pec_shelf.proofs.KeptLemmas.{the_due}
use Rattle.pec_shelf.proofs.shelf.Shelf.due.Goals as goal

pub returns : goal.returns
returns c =
    λ trade for.
    let me = c.self.invariant.own ∙ ap (λ (v : Seen). v.me) c.self.view_is in
    c.truncate.ensures.items
    ∙ ap (take c.args.room)
    (c.in_ok-letters.ensures
    ∙ ap (λ (n : ℕ). outcomes_to c.args.self.now.half c.args.to ++ envelope_rows n c.args.self.now.half c.args.to 0 c.self.inside.outbox.messages) me)
    ∙ the_due trade c.args.self.now c.args.to c.args.room c.self.inside.outbox.messages (ap (λ (v : Seen). v.half.messages) c.self.view_is)
    (ap (λ (v : Seen). v.certified) c.self.view_is) for
