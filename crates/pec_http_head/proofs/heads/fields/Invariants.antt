use Rattle.std.proofs.Common.{◌≡◌, map, take}
use Rattle.httparse.specs.Spans.{header_bytes}
use Rattle.pec_http_head.specs.Views.{field_shown}
use Rattle.pec_http_head.proofs.heads.fields.Given as goal

abbrev pub invariant-loop-span : goal.invariant-loop-span
invariant-loop-span l = map field_shown l.all.items ≡ map (header_bytes l.text) (take l.span-index l.spans)
