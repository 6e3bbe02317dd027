-- The name and the lines are the field.
use Rattle.std.proofs.Common.{sym}
use Rattle.pec_heads.proofs.AddressListLaws.{list_put}
use Rattle.pec_heads.proofs.writing.put_addresses.Goals as goal

pub returns : goal.returns
returns c = list_put (λ address. address.now) c.args.name.now c.args.out.now.items c.put_name.new.out.items c.put_lines.new.out.items c.args.addresses.now (sym c.if-is_empty.ensures) c.in_ok-put_name.ensures c.in_ok-put_lines.ensures
