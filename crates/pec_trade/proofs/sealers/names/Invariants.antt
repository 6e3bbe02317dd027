-- What was put is that of the providers before this one.
use Rattle.std.proofs.Common.{◌≡◌, take}
use Rattle.pec_directory.specs.Directory.{providers_of}
use Rattle.pec_trade.specs.Keys.{names_of}
use Rattle.pec_trade.proofs.sealers.names.Given as goal

abbrev pub invariant-loop-number : goal.invariant-loop-number
invariant-loop-number l = l.names.items ≡ names_of (providers_of (take l.number l.directory))
