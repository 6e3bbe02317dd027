-- The laws of verdicts, from the lemmas.
use Rattle.std.specs.Prelude.{◌≡◌, ℕ, Bool, Option, Some, None, false, is_some, refl}
use Rattle.std.proofs.Common.{ap}
use Rattle.pec_screen.specs.VerdictReading.{finds, verdict}
use Rattle.pec_screen.proofs.VerdictLemmas.{verdict_is, is_verdict, no_verdict_is, is_no_verdict}
use Rattle.pec_screen.proofs.screens.a_verdict_is_of_the_first_box.Goals as goal

pub returns-clause-verdict : goal.returns-clause-verdict
returns-clause-verdict c = λ boxes message place rule. (verdict_is boxes message place rule, is_verdict boxes message place rule)

pub returns-clause-none : goal.returns-clause-none
returns-clause-none c = λ boxes message. (no_verdict_is boxes message, is_no_verdict boxes message)

nothing_there : (found : Option (ℕ × ℕ)) → is_some found ≡ false → found ≡ None
nothing_there None e = refl
nothing_there (Some at) e = absurd cc

pub returns-clause-clean : goal.returns-clause-clean
unfolding finds
returns-clause-clean c = λ boxes message. (
  λ e. no_verdict_is boxes message (nothing_there (verdict boxes message) e),
  λ none. ap is_some (is_no_verdict boxes message none),
)
