-- What is counted row by row is the summary of the range in the ledger, and no more than there may be.
use Rattle.std.proofs.Common.{ℕ, ap, map, ◌∙◌}
use Rattle.pec_shelf.specs.Seen.{Seen}
use Rattle.pec_shelf.specs.Summaries.{nothing_yet}
use Rattle.pec_shelf.specs.SummariesReading.{kept_within, with_messages}
use Rattle.pec_shelf.proofs.SummaryLemmas.{within_few, within_is}
use Rattle.pec_shelf.proofs.shelf.Shelf.summary_within.Goals as goal

pub returns-clause-is : goal.returns-clause-is
returns-clause-is c =
    λ trade for.
    c.summary_within.ensures
    ∙ (ap (λ (me : ℕ). with_messages me c.args.self.now.half nothing_yet 0
    (map (kept_within c.args.from c.args.upto) c.self.inside.outbox.messages)) (ap (λ (s : Seen). s.me) c.self.view_is)
    ∙ within_is c.args.from c.args.upto trade c.args.self.now.me c.args.self.now.half c.self.inside.outbox.messages c.self.invariant.few c.self.invariant.full
    (ap (λ (s : Seen). s.half.messages) c.self.view_is) (ap (λ (s : Seen). s.certified) c.self.view_is ∙ for))

pub returns-clause-few : goal.returns-clause-few
returns-clause-few c =
    within_few c.args.from c.args.upto c.self.inside.me c.args.self.now.half c.self.inside.outbox.messages c.summary_within.result c.self.invariant.few c.self.invariant.full c.summary_within.ensures
