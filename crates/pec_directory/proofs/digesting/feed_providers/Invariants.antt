use Rattle.std.proofs.Common.{take}
use Rattle.std.specs.List.{flat_map}
use Rattle.pec_directory.specs.Canonical.{provider_text}
use Rattle.pec_directory.specs.Directory.{Kept}
use Rattle.pec_directory.specs.Feeding.{Fed}
use Rattle.pec_directory.proofs.digesting.feed_providers.Given as goal

abbrev pub invariant-loop-provider : goal.invariant-loop-provider
invariant-loop-provider l = Fed l.fn.hasher l.hasher (flat_map (λ (kept : Kept). provider_text kept.provider) (take l.provider-index l.providers))
