-- Account by account.
use Rattle.std.proofs.Common.{◌∙◌}
use Rattle.pec_load.specs.Accounts.{account_text, provider_text}
use Rattle.pec_load.proofs.RangeLemmas.{behind_more}
use Rattle.pec_load.proofs.directory.part_text.Goals as goal

pub loop-number-preserved : goal.loop-number-preserved
loop-number-preserved c =
    behind_more (provider_text c.args.name.now c.args.key.now) c.loop-number.text.items c.extend_from_slice.new.self.items
    c.deref.result.now (account_text c.args.name.now c.args.letter.now) c.loop-number.number c.loop-number.invariant
    (c.deref.ensures.value ∙ c.in_ok-account.ensures) c.in_ok-extend_from_slice.ensures.items
