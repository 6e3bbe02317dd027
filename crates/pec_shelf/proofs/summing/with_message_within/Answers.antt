-- A row that isn't of the range adds nothing.
use Rattle.std.proofs.Common.{ap, sym, ◌∙◌}
use Rattle.pec_types.specs.Moments.{is_within}
use Rattle.pec_shelf.proofs.SummaryLemmas.{none_of_range, one_of_range}
use Rattle.pec_shelf.proofs.summing.with_message_within.Goals as goal

pub returns-then-not-is_within : goal.returns-then-not-is_within
returns-then-not-is_within c =
    none_of_range c.args.shelf.now.half c.args.id c.args.summary c.args.from c.args.upto c.args.row.now
    (ap (is_within c.args.from c.args.upto) (sym (c.seconds.ensures.value ∙ c.moment.ensures)) ∙ (sym c.is_within.ensures ∙ c.if-not-is_within.true))

pub returns : goal.returns
returns c =
    c.with_message.ensures
    ∙ one_of_range c.args.shelf.now.half c.args.id c.args.summary c.args.from c.args.upto c.args.row.now
    (ap (is_within c.args.from c.args.upto) (sym (c.seconds.ensures.value ∙ c.moment.ensures)) ∙ (sym c.is_within.ensures ∙ c.if-not-is_within.false))
