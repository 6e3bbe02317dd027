-- A filled field stands among those that are left exactly where one stands among all.
use Rattle.std.proofs.Common.{◌≡◌, length, map, not}
use Rattle.std.specs.List.{list_any}
use Rattle.pec_heads.specs.Heads.{cut, values_of}
use Rattle.pec_heads.specs.Lists.{is_all_blank}
use Rattle.pec_heads.specs.Views.{fields_at, fields_shown}
use Rattle.pec_heads.proofs.lookups.is_filled.Given as goal

abbrev pub invariant-loop-rest : goal.invariant-loop-rest
invariant-loop-rest l =
    list_any (λ value. not (is_all_blank value)) (values_of l.name (map cut (fields_at l.bytes l.rest)))
    ≡ list_any (λ value. not (is_all_blank value)) (values_of l.name (fields_shown l.fields))

abbrev pub decreases-loop-rest : goal.decreases-loop-rest
decreases-loop-rest l = length l.rest
