use Rattle.std.proofs.Common.{◌≡◌, None, sym, ◌∙◌}
use Rattle.std.proofs.lemmas.Bool.{false≢true}
use Rattle.pec_ledger.specs.Lookups.{decided_of}
use Rattle.pec_ledger.specs.Pairs.{pair_of}
use Rattle.pec_shelf.specs.Settled.{settled}
use Rattle.pec_shelf.proofs.ListLemmas.{missing}
use Rattle.pec_shelf.proofs.conditions.may_decide_on.Goals as goal

pub returns-then-not-is_taken : goal.returns-then-not-is_taken
returns-then-not-is_taken c = λ trade moment.
    (λ t. absurd (false≢true t), λ own. absurd (false≢true (sym c.if-not-is_taken.true ∙ (c.is_taken.ensures (settled c.args.directory.now trade)).1 own.0)))

pub returns : goal.returns
returns c = λ trade moment.
    let open_ : decided_of c.args.shelf.now.half (pair_of c.args.id c.args.recipient.now) ≡ None = missing c.fate.result _ _ c.is_some.result c.fate.ensures c.is_some.ensures c.if-is_some.false in (
      λ may. ((c.is_taken.ensures (settled c.args.directory.now trade)).0 c.if-not-is_taken.false, open_, (c.may_decide.ensures trade).0 may),
      λ own. (c.may_decide.ensures trade).1 own.2,
    )
