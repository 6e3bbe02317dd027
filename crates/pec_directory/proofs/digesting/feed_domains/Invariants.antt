use Rattle.std.proofs.Common.{take}
use Rattle.std.specs.List.{flat_map}
use Rattle.pec_directory.specs.Canonical.{domain_line}
use Rattle.pec_directory.specs.Feeding.{Fed}
use Rattle.pec_directory.proofs.digesting.feed_domains.Given as goal

abbrev pub invariant-loop-domain : goal.invariant-loop-domain
invariant-loop-domain l = Fed l.fn.hasher l.hasher (flat_map domain_line (take l.domain-index l.domains))
