use Rattle.std.proofs.Common.{◌≡◌, [], take}
use Rattle.std.specs.List.{AllByRecursion}
use Rattle.pec_types.specs.Address.{IsLowerAddress}
use Rattle.pec_types.specs.declared.messages.Class.TheVariants.{Primary}
use Rattle.pec_heads.specs.FactsReading.{with_recipients}
use Rattle.pec_outgoing.specs.Known.{AreKnown}
use Rattle.pec_outgoing.proofs.notices.each_once.Given as goal

abbrev pub invariant-loop-address : goal.invariant-loop-address
invariant-loop-address l = record {
  known : AreKnown l.known l.all.items;
  all : l.all.items ≡ with_recipients Primary [] (take l.address-index l.path);
  lower : AllByRecursion IsLowerAddress (take l.address-index l.path);
}
