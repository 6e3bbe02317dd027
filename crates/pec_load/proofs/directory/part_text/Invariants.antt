use Rattle.std.proofs.Common.{◌≡◌, ◌++◌}
use Rattle.std.specs.List.{flat_map, range_with_len}
use Rattle.pec_load.specs.Accounts.{account_text, provider_text}
use Rattle.pec_load.proofs.directory.part_text.Given as goal

abbrev pub invariant-loop-number : goal.invariant-loop-number
invariant-loop-number l =
    l.text.items ≡ provider_text l.name l.key ++ flat_map (account_text l.name l.letter) (range_with_len 0 l.number)
