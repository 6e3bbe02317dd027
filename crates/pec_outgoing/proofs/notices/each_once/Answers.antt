-- One address more is gathered, and at the end all are.
use Rattle.std.proofs.Common.{[], ap, ◌∙◌}
use Rattle.std.proofs.lemmas.List.{take_all}
use Rattle.pec_types.specs.declared.messages.Class.TheVariants.{Primary}
use Rattle.pec_heads.specs.FactsReading.{with_recipients}
use Rattle.pec_outgoing.proofs.OnceLemmas.{each_once_is, gathered_more, lower_more}
use Rattle.pec_outgoing.proofs.notices.each_once.Goals as goal

pub loop-address-preserved : goal.loop-address-preserved
loop-address-preserved c = record {
  known = c.in_ok-add.ensures.known;
  all = gathered_more c.args.path.now c.loop-address.address-index c.address-item.result c.loop-address.all.items
      c.add.new.all.items
      c.loop-address-test.true c.address-item.is c.loop-address.invariant.all c.in_ok-add.ensures.added;
  lower = lower_more c.args.path.now c.loop-address.address-index c.address-item.result c.loop-address-test.true
      c.address-item.is
      c.loop-address.invariant.lower c.in_ok-add.ensures.lower;
}

pub returns-clause-recipients : goal.returns-clause-recipients
returns-clause-recipients c =
    c.loop-address.invariant.all
    ∙ ap (with_recipients Primary []) (take_all c.loop-address.address-index c.args.path.now c.loop-address-test.false)
    ∙ each_once_is c.args.path.now
