-- The records that were put and those of the accounts that are left are together all of them.
use Rattle.std.proofs.Common.{◌≡◌, ◌++◌, ◌+◌, drop}
use Rattle.std.specs.List.{flat_map}
use Rattle.pec_ldif.specs.Writing.{account_records, record_text}
use Rattle.pec_ldif.proofs.writing.add_accounts.Given as goal

abbrev pub invariant-loop-account : goal.invariant-loop-account
invariant-loop-account l =
    (l.at ≡ l.account-index + 1)
    × (l.text.items ++ flat_map record_text (account_records l.number l.at (drop l.account-index l.accounts))
    ≡ l.fn.text.items ++ flat_map record_text (account_records l.number 1 l.accounts))
