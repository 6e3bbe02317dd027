-- What contracts see of the parts of a head.
use Rattle.std.specs.Prelude.{map}
use Rattle.pec_types.specs.Bytes.{Bytes}
use Rattle.pec_http_head.specs.Requests.{Request}
use Rattle.pec_http_head.specs.declared.heads.Field.{Field}
use Rattle.pec_http_head.specs.declared.heads.Head.{Head}

abbrev pub field_shown : Field → Bytes × Bytes
field_shown field = (field.name.now, field.value.now)

abbrev pub request_shown : Head → Request
request_shown head = record { method = head.method.now; target = head.target.now; fields = map field_shown head.fields.items }
