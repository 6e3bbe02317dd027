use Rattle.std.proofs.Common.{◌≡◌, map, take}
use Rattle.pec_types.specs.declared.messages.Recipient.{Recipient}
use Rattle.pec_extract.proofs.words.addresses.Given as goal

abbrev pub invariant-loop-recipient : goal.invariant-loop-recipient
invariant-loop-recipient l =
    l.addresses.items ≡ map (λ (recipient : Recipient). recipient.address) (take l.recipient-index l.recipients)
