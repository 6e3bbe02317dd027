-- What turns put: from the lemmas.
use Rattle.pec_plays.proofs.LinkLemmas.{letters_fit}
use Rattle.pec_plays.proofs.TurnLemmas.{early_puts, fit_as_they_are, frames_due, other_puts, whole_puts}
use Rattle.pec_plays.proofs.turns.a_turn_puts_what_is_due.Goals as goal

pub returns : goal.returns
returns c = record { whole = whole_puts; early = early_puts; other = other_puts; fit = fit_as_they_are; few = letters_fit; frames = frames_due }
