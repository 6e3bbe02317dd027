use Rattle.std.proofs.Common.{◌≡◌, take}
use Rattle.std.specs.List.{filter}
use Rattle.pec_types.specs.Bytes.{Bytes}
use Rattle.pec_directory.specs.Directory.{home_of, providers_of}
use Rattle.pec_ledger.specs.Lookups.{is_home}
use Rattle.pec_shelf.proofs.reading.at_home.Given as goal

abbrev pub invariant-loop-address : goal.invariant-loop-address
invariant-loop-address l = l.here.items
    ≡ filter (λ (address : Bytes). is_home l.provider (home_of (providers_of l.directory) address)) (take l.address-index l.addresses)
