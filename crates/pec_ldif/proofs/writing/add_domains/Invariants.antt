-- The lines of the domains so far were put.
use Rattle.std.proofs.Common.{◌≡◌, ◌++◌, codes, map, take}
use Rattle.std.specs.List.{flat_map}
use Rattle.pec_ldif.specs.Writing.{attribute_line, said}
use Rattle.pec_ldif.proofs.writing.add_domains.Given as goal

abbrev pub invariant-loop-domain : goal.invariant-loop-domain
invariant-loop-domain l =
    l.text.items ≡ l.fn.text.items ++ flat_map attribute_line (map (λ domain. said (codes "managedDomains") domain) (take l.domain-index l.domains))
