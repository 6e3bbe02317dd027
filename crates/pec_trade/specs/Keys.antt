-- Names and keys of a directory's providers, in the order of their numbers, as those who seal take them. This
-- project's profile.
use Rattle.std.specs.Prelude.{List, map}
use Rattle.pec_types.specs.Bytes.{Bytes}
use Rattle.pec_directory.specs.Directory.{Provider}

abbrev pub names_of : List Provider → List Bytes
names_of providers = map (λ (provider : Provider). provider.name) providers

abbrev pub keys_of : List Provider → List Bytes
keys_of providers = map (λ (provider : Provider). provider.key) providers
