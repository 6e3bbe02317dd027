-- What is counted row by row is the summary of the ledger, and no more than there may be.
use Rattle.std.proofs.Common.{ℕ, ap, ◌∙◌}
use Rattle.pec_shelf.specs.Seen.{Seen}
use Rattle.pec_shelf.specs.Summaries.{nothing_yet}
use Rattle.pec_shelf.specs.SummariesReading.{with_messages}
use Rattle.pec_shelf.proofs.SummaryLemmas.{summary_few, summary_is}
use Rattle.pec_shelf.proofs.shelf.Shelf.summary.Goals as goal

pub returns-clause-is : goal.returns-clause-is
returns-clause-is c =
    λ trade for.
    c.summary_of.ensures
    ∙ (ap (λ (me : ℕ). with_messages me c.args.self.now.half nothing_yet 0 c.self.inside.outbox.messages) (ap (λ (s : Seen). s.me) c.self.view_is)
    ∙ summary_is trade c.args.self.now.me c.args.self.now.half c.self.inside.outbox.messages c.self.invariant.few c.self.invariant.full
    (ap (λ (s : Seen). s.half.messages) c.self.view_is) (ap (λ (s : Seen). s.certified) c.self.view_is ∙ for))

pub returns-clause-few : goal.returns-clause-few
returns-clause-few c =
    summary_few c.self.inside.me c.args.self.now.half c.self.inside.outbox.messages c.summary_of.result c.self.invariant.few c.self.invariant.full c.summary_of.ensures
