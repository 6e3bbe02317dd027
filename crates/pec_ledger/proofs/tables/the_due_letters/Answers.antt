-- The due letters, from the lemmas.
use Rattle.std.proofs.Common.{refl}
use Rattle.pec_ledger.specs.Due.{due_letters}
use Rattle.pec_ledger.proofs.TableLemmas.{owed_say}
use Rattle.pec_ledger.proofs.tables.the_due_letters.Goals as goal

pub returns : goal.returns
unfolding due_letters
returns c = record { owed = owed_say; due = λ trade provider half to room owed. refl }
