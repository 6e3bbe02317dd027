use Rattle.std.proofs.Common.{sym, ◌∙◌}
use Rattle.std.proofs.lemmas.Bool.{false≢true}
use Rattle.pec_shelf.proofs.archives.may_archive.Goals as goal

pub returns-then-not-is_of_version_two : goal.returns-then-not-is_of_version_two
returns-then-not-is_of_version_two c = λ trade moment.
    (λ t. absurd (false≢true t), λ own. absurd (false≢true (sym c.if-not-is_of_version_two.true ∙ c.is_of_version_two.ensures.1 own.0)))

pub returns-then-not-is_account : goal.returns-then-not-is_account
returns-then-not-is_account c = λ trade moment.
    (λ t. absurd (false≢true t), λ own. absurd (false≢true (sym c.if-not-is_account.true ∙ (c.is_account.ensures ∙ own.1))))

pub returns : goal.returns
returns c = λ trade moment. (
  λ t. (
    c.is_of_version_two.ensures.0 c.if-not-is_of_version_two.false,
    sym c.is_account.ensures ∙ c.if-not-is_account.false,
    c.stands.ensures.0 t,
  ),
  λ own. c.stands.ensures.1 own.2,
)
