use Rattle.std.proofs.Common.{◌≡◌}
use Rattle.pec_grammar.specs.Reading.{standing}
use Rattle.pec_grammar.proofs.TimesLemmas.{before_all}
use Rattle.pec_types.specs.declared.scanning.Stand.TheVariants as stands
use Rattle.pec_records.specs.EntryReading.{rest_at}
use Rattle.pec_records.proofs.addresses.address_bytes.Given as goal

abbrev pub invariant-loop-left : goal.invariant-loop-left
invariant-loop-left l = rest_at stands.AtomBegins l.length (standing l.fn.at) ≡ before_all l.bytes.items (rest_at l.stand l.left (standing l.at))

abbrev pub decreases-loop-left : goal.decreases-loop-left
decreases-loop-left l = l.left
