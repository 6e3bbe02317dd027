use Rattle.std.proofs.Common.{◌≡◌, ◌++◌, take}
use Rattle.std.specs.List.{flat_map}
use Rattle.pec_cert.specs.Markup.{escape}
use Rattle.pec_cert.proofs.writing.put_escaped.Given as goal

abbrev pub invariant-loop-b : goal.invariant-loop-b
invariant-loop-b l = l.out.items ≡ l.fn.out.items ++ flat_map escape (take l.b-index l.text)
