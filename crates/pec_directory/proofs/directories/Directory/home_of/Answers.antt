use Rattle.std.proofs.Common.{◌≡◌, ◌∙◌}
use Rattle.std.specs.List.{position_from}
use Rattle.pec_directory.proofs.LookupLemmas.{manager-found}
use Rattle.pec_directory.proofs.NumberLemmas.{found_below}
use Rattle.pec_directory.specs.Directory.{home_of, manager_of, manages, providers_of}
use Rattle.pec_directory.proofs.directories.Directory.home_of.Goals as goal

pub returns-clause-home : goal.returns-clause-home
unfolding home_of manager_of
returns-clause-home c =
    let domain = c.domain.result.now in
    rw (← c.self.view_is, ← c.domain.ensures.exact)
    (c.copied.ensures ∙ c.get.ensures ∙ c.self.invariant.0.homes_are domain ∙ manager-found domain 0 (providers_of c.self.inside.providers.items))

pub returns-clause-within : goal.returns-clause-within
returns-clause-within c =
    let domain = c.domain.result.now in
    let kept = c.self.inside.providers.items in
    let found : c.copied.result ≡ position_from (manages domain) 0 (providers_of kept) =
    c.copied.ensures ∙ c.get.ensures ∙ c.self.invariant.0.homes_are domain ∙ manager-found domain 0 (providers_of kept) in
    rw (← c.self.view_is, found) (found_below (manages domain) kept)
