-- The causes that are left say what all say of the place where the reader began.
use Rattle.std.proofs.Common.{◌≡◌, drop}
use Rattle.pec_grammar.specs.Grammar.{choice_at}
use Rattle.pec_grammar.specs.Reading.{standing}
use Rattle.pec_records.specs.EntryReading.{cause_rows}
use Rattle.pec_records.proofs.fields.one_cause.Given as goal

abbrev pub invariant-loop-cause : goal.invariant-loop-cause
invariant-loop-cause l =
    choice_at (cause_rows l.causes) (standing l.fn.at) ≡ choice_at (cause_rows (drop l.cause-index l.causes)) (standing l.at)
