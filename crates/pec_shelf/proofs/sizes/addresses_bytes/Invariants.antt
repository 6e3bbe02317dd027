use Rattle.std.proofs.Common.{◌≡◌, length, take}
use Rattle.std.specs.List.{flat_map}
use Rattle.pec_records.specs.Entry.{address_field}
use Rattle.pec_shelf.proofs.sizes.addresses_bytes.Given as goal

abbrev pub invariant-loop-address : goal.invariant-loop-address
invariant-loop-address l = l.bytes ≡ length (flat_map address_field (take l.address-index l.addresses))
