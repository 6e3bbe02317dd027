use Rattle.std.proofs.Common.{take}
use Rattle.std.specs.List.{flat_map}
use Rattle.pec_directory.specs.Canonical.{account_line}
use Rattle.pec_directory.specs.Feeding.{Fed}
use Rattle.pec_directory.proofs.digesting.feed_accounts.Given as goal

abbrev pub invariant-loop-account : goal.invariant-loop-account
invariant-loop-account l = Fed l.fn.hasher l.hasher (flat_map account_line (take l.account-index l.accounts))
