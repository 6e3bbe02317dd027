-- The addresses of the recipients so far.
use Rattle.std.proofs.Common.{◌≡◌, take}
use Rattle.std.specs.List.{flat_map}
use Rattle.pec_directory.specs.Directory.{providers_of}
use Rattle.pec_receipts.specs.Receipts.{address_at}
use Rattle.pec_receipts.proofs.reporting.addresses_at.Given as goal

abbrev pub invariant-loop-recipient : goal.invariant-loop-recipient
invariant-loop-recipient l =
    l.list.items ≡ flat_map (address_at (providers_of l.directory) l.provider) (take l.recipient-index l.recipients)
