use Rattle.std.proofs.Common.{◌≡◌, ◌++◌, take}
use Rattle.std.specs.List.{flat_map}
use Rattle.pec_cert.specs.Lines.{addressee_text}
use Rattle.pec_cert.proofs.places.put_addressees.Given as goal

abbrev pub invariant-loop-r : goal.invariant-loop-r
invariant-loop-r l = l.out.items ≡ l.fn.out.items ++ flat_map addressee_text (take l.r-index l.addressees)
