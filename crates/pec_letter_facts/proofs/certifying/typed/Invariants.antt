-- The recipients so far are typed.
use Rattle.std.proofs.Common.{◌≡◌, map, take}
use Rattle.pec_directory.specs.Directory.{providers_of}
use Rattle.pec_letter_facts.specs.Certifying.{typed}
use Rattle.pec_letter_facts.proofs.certifying.typed.Given as goal

abbrev pub invariant-loop-recipient : goal.invariant-loop-recipient
invariant-loop-recipient l = l.all.items ≡ map (typed (providers_of l.directory)) (take l.recipient-index l.recipients)
