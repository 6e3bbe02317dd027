use Rattle.std.proofs.Common.{subst}
use Rattle.pec_grammar.specs.Grammar.{ending}
use Rattle.pec_grammar.specs.Reading.{Fails}
use Rattle.pec_records.specs.EntryReading.{entry_at}
use Rattle.pec_records.proofs.EntryLemmas.{stop_within}
use Rattle.pec_records.proofs.decoding.read_entry.Goals as goal

pub overflow_sub-result : goal.overflow_sub-result
overflow_sub-result c =
    let bytes = c.args.bytes.now in
    stop_within c.lower_addresses_pass.ensures c.each_cause_is_one_of_all.ensures.place bytes _
    (subst (λ e. Fails e (ending (entry_at (record { rest = bytes; farthest = bytes })))) c.in-Err-Stop.field-0-is c.in-Err-Stop.ensures)
