use Rattle.std.proofs.Common.{◌≡◌, ◌++◌, take}
use Rattle.std.specs.List.{flat_map, AllByRecursion}
use Rattle.pec_types.specs.Address.{IsLowerAddress}
use Rattle.pec_records.specs.Entry.{address_field}
use Rattle.pec_records.proofs.encoding.put_addresses.Given as goal

abbrev pub invariant-loop-address : goal.invariant-loop-address
invariant-loop-address l = record {
  puts : l.out.items ≡ l.fn.out.items ++ flat_map address_field (take l.address-index l.addresses);
  are : AllByRecursion IsLowerAddress (take l.address-index l.addresses);
}
