use Rattle.pec_types.specs.Address.{IsLowerAddress}
use Rattle.pec_records.specs.Entry.{address_field}
use Rattle.pec_records.proofs.PutLemmas.{all_taken, put_taken}
use Rattle.pec_records.proofs.encoding.put_addresses.Goals as goal

pub loop-address-preserved : goal.loop-address-preserved
loop-address-preserved c = record {
  puts = put_taken address_field c.args.addresses.now c.loop-address.address-index c.address-item.result c.args.out.now.items c.loop-address.out.items
      c.put_address.new.out.items c.loop-address-test.true c.address-item.is c.loop-address.invariant.puts c.in_ok-put_address.ensures.puts;
  are = all_taken IsLowerAddress c.args.addresses.now c.loop-address.address-index c.address-item.result c.loop-address-test.true c.address-item.is c.loop-address.invariant.are
      c.in_ok-put_address.ensures.is;
}
