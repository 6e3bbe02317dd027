use Rattle.std.proofs.Common.{◌≡◌, drop, map}
use Rattle.pec_http_head.specs.Fields.{values_of}
use Rattle.pec_http_head.specs.Views.{field_shown}
use Rattle.pec_http_head.proofs.fields.first.Given as goal

abbrev pub invariant-loop-field : goal.invariant-loop-field
invariant-loop-field l = values_of l.name (map field_shown (drop l.field-index l.fields)) ≡ values_of l.name (map field_shown l.fields)
