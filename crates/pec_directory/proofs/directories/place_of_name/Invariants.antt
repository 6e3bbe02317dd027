use Rattle.std.proofs.Common.{◌≡◌, drop}
use Rattle.std.specs.List.{position_from}
use Rattle.std.specs.Str.{bytes_eq}
use Rattle.pec_directory.specs.Directory.{Provider, named, providers_of}
use Rattle.pec_directory.proofs.directories.place_of_name.Given as goal

abbrev pub invariant-loop-number : goal.invariant-loop-number
invariant-loop-number l = named (providers_of l.providers) l.name ≡ position_from (λ (provider : Provider). bytes_eq l.name provider.name) l.number (providers_of (drop l.number l.providers))
