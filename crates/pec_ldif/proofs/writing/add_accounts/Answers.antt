-- One account more.
use Rattle.std.proofs.Common.{◌++◌, arith}
use Rattle.std.specs.List.{flat_map}
use Rattle.pec_ldif.specs.Writing.{account_records, record_text}
use Rattle.pec_ldif.proofs.WritingLemmas.{account_more}
use Rattle.pec_ldif.proofs.writing.add_accounts.Goals as goal

pub loop-account-preserved : goal.loop-account-preserved
loop-account-preserved c =
    let all = c.args.text.now.items ++ flat_map record_text (account_records c.args.number 1 c.args.accounts.now) in (
      omega (arith, c.loop-account.invariant.0),
      account_more all c.loop-account.text.items c.add_account.new.text.items c.args.number c.loop-account.at c.args.accounts.now c.loop-account.account-index c.account-item.result
          c.loop-account-test.true c.account-item.is c.in_ok-add_account.ensures c.loop-account.invariant.1,
    )
