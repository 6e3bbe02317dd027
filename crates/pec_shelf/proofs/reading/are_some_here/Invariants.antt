use Rattle.std.proofs.Common.{◌≡◌, drop}
use Rattle.std.specs.List.{list_any}
use Rattle.pec_types.specs.Bytes.{Bytes}
use Rattle.pec_directory.specs.Directory.{home_of, providers_of}
use Rattle.pec_ledger.specs.Lookups.{is_home}
use Rattle.pec_shelf.proofs.reading.are_some_here.Given as goal

abbrev pub invariant-loop-address : goal.invariant-loop-address
invariant-loop-address l = list_any (λ (address : Bytes). is_home l.provider (home_of (providers_of l.directory) address)) l.addresses
    ≡ list_any (λ (address : Bytes). is_home l.provider (home_of (providers_of l.directory) address)) (drop l.address-index l.addresses)
