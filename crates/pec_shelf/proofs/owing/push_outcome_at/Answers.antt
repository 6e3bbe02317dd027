use Rattle.std.proofs.Common.{◌++◌, Option, append-nil, sym, ap, ◌∙◌}
use Rattle.pec_ledger.specs.Half.{Fate}
use Rattle.pec_shelf.specs.Still.{outcome_of}
use Rattle.pec_shelf.proofs.owing.push_outcome_at.Goals as goal

pub returns-in_default : goal.returns-in_default
returns-in_default c =
    sym (append-nil c.args.letters.now.items)
    ∙ ap (λ (o : Option Fate). c.args.letters.now.items ++ outcome_of c.args.shelf.now.half c.args.to o) c.in_default.ensures

pub returns : goal.returns
returns c =
    c.in_ok-push_outcome.ensures ∙ ap (λ (o : Option Fate). c.args.letters.now.items ++ outcome_of c.args.shelf.now.half c.args.to o) c.in-Some.ensures
