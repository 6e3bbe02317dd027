use Rattle.std.proofs.Common.{◌≡◌}
use Rattle.pec_grammar.specs.Dependent.{times_at}
use Rattle.pec_grammar.specs.Reading.{standing}
use Rattle.pec_grammar.proofs.TimesLemmas.{before_all}
use Rattle.pec_records.specs.EntryReading.{address_at}
use Rattle.pec_records.proofs.addresses.so_many_addresses.Given as goal

abbrev pub invariant-loop-left : goal.invariant-loop-left
invariant-loop-left l = times_at address_at l.count (standing l.fn.at) ≡ before_all l.addresses.items (times_at address_at l.left (standing l.at))

abbrev pub decreases-loop-left : goal.decreases-loop-left
decreases-loop-left l = l.left
