use Rattle.std.proofs.Common.{◌≡◌, drop}
use Rattle.std.specs.List.{position_from}
use Rattle.pec_directory.specs.Directory.{providers_of}
use Rattle.pec_directory.specs.Ids.{prints, provider_named}
use Rattle.pec_directory.proofs.ids.provider_named.Given as goal

abbrev pub invariant-loop-place : goal.invariant-loop-place
invariant-loop-place l = provider_named (providers_of l.providers) l.text l.number ≡ position_from (prints l.text l.number) l.place (providers_of (drop l.place l.providers))
