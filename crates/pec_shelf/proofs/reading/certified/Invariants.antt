use Rattle.std.proofs.Common.{◌≡◌, take}
use Rattle.pec_directory.specs.Directory.{providers_of}
use Rattle.pec_shelf.specs.Settled.{certified_among}
use Rattle.pec_shelf.proofs.reading.certified.Given as goal

abbrev pub invariant-loop-recipient : goal.invariant-loop-recipient
invariant-loop-recipient l = l.all.items ≡ certified_among (providers_of l.directory) (take l.recipient-index l.recipients)
