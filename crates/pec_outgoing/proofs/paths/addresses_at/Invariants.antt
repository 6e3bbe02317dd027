use Rattle.std.proofs.Common.{◌≡◌, filter, map, take}
use Rattle.pec_types.specs.Bytes.{Bytes}
use Rattle.pec_types.specs.declared.messages.Recipient.{Recipient as SomeRecipient}
use Rattle.pec_directory.specs.Directory.{home_of, providers_of}
use Rattle.pec_ledger.specs.Lookups.{is_home}
use Rattle.pec_outgoing.proofs.paths.addresses_at.Given as goal

abbrev pub invariant-loop-recipient : goal.invariant-loop-recipient
invariant-loop-recipient l =
    l.path.items
    ≡ filter (λ (address : Bytes). is_home l.provider (home_of (providers_of l.directory) address))
    (map (λ (recipient : SomeRecipient). recipient.address) (take l.recipient-index l.recipients))
