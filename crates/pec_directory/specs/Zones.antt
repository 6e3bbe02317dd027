-- Zones of providers, which are read once and kept: `AreByRule`, each zone is of the rule that the directory gives its
-- provider.
use Rattle.std.specs.Prelude.{List}
use Rattle.std.specs.List.{AllByRecursion}
use Rattle.pec_cert.specs.Zone.{IsRule}
use Rattle.pec_directory.specs.Directory.{Kept}

-- each zone is of its provider's rule
abbrev pub AreByRule : List Kept → Type 0
AreByRule kept = AllByRecursion (λ (one : Kept). IsRule one.provider.rule one.zone) kept
