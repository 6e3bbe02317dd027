use Rattle.pec_directory.proofs.IdLemmas.{names_found}
use Rattle.pec_directory.specs.Directory.{providers_of}
use Rattle.pec_directory.proofs.directories.Directory.id_of.Goals as goal

pub returns-clause-names : goal.returns-clause-names
returns-clause-names c =
    rw (← c.self.view_is) (names_found (providers_of c.self.inside.providers.items) c.args.text.now _ c.self.invariant.1 (rw c.as_slice.ensures.value at c.id_of.ensures))
