-- Where the recipient is no account nothing is read; else what is found is what was found in the envelope.
use Rattle.std.proofs.Common.{ap, sym, ◌∙◌, if◌then◌else◌, Bool}
use Rattle.std.specs.Prelude.{map}
use Rattle.std.proofs.lemmas.Bool.{false≢true}
use Rattle.pec_screen.specs.Verdicts.{counted}
use Rattle.pec_provider.proofs.deciding.found_for.Goals as goal

pub returns-then-not-is_account_of-clause-found : goal.returns-then-not-is_account_of-clause-found
returns-then-not-is_account_of-clause-found g c = λ tells stands account.
    absurd (false≢true (sym c.if-not-is_account_of.true ∙ c.is_account_of.ensures.value ∙ account))

pub returns-then-not-is_account_of-clause-given : goal.returns-then-not-is_account_of-clause-given
returns-then-not-is_account_of-clause-given g c = λ account.
    absurd (false≢true (sym c.if-not-is_account_of.true ∙ c.is_account_of.ensures.value ∙ account))

pub returns-then-not-is_account_of-clause-looked : goal.returns-then-not-is_account_of-clause-looked
returns-then-not-is_account_of-clause-looked g c =
    sym (ap (λ (b : Bool). if b then map counted (g.J.Judge.seen c.args.screens.now) else g.J.Judge.seen
    c.args.screens.now)
    (sym c.is_account_of.ensures.value ∙ c.if-not-is_account_of.true))

pub returns-clause-given : goal.returns-clause-given
returns-clause-given g c = λ account. c.in_ok-found.ensures.given

pub returns-clause-looked : goal.returns-clause-looked
returns-clause-looked g c =
    c.in_ok-found.ensures.looked
    ∙ sym (ap (λ (b : Bool). if b then map counted (g.J.Judge.seen c.args.screens.now) else g.J.Judge.seen
    c.args.screens.now)
    (sym c.is_account_of.ensures.value ∙ c.if-not-is_account_of.false))
