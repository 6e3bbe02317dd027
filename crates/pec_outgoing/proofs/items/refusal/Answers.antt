-- The entry has the moment and the sender of the row, or it isn't what the notice is composed of.
use Rattle.std.proofs.Common.{sym, ◌∙◌}
use Rattle.std.proofs.lemmas.Bool.{false≢true}
use Rattle.pec_outgoing.proofs.items.refusal.Goals as goal

pub returns-then-not-is_of_row-clause-changed : goal.returns-then-not-is_of_row-clause-changed
returns-then-not-is_of_row-clause-changed g c changed text shown =
    absurd (false≢true (sym c.if-not-is_of_row.true ∙ c.is_of_row.ensures ∙ shown.0))
