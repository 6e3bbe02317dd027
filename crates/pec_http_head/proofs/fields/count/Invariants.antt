use Rattle.std.proofs.Common.{◌≡◌, ◌+◌, ◌≤◌, drop, map, length}
use Rattle.pec_http_head.specs.Fields.{values_of}
use Rattle.pec_http_head.specs.Views.{field_shown}
use Rattle.pec_http_head.proofs.fields.count.Given as goal

abbrev pub invariant-loop-field : goal.invariant-loop-field
invariant-loop-field l = record {
  counted : l.count + length (values_of l.name (map field_shown (drop l.field-index l.fields))) ≡ length (values_of l.name (map field_shown l.fields));
  few : l.count ≤ l.field-index;
}
