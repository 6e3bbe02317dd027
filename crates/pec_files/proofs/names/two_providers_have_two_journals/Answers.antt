use Rattle.pec_files.proofs.NameLemmas.{one_name, one_path}
use Rattle.pec_files.proofs.names.two_providers_have_two_journals.Goals as goal

pub returns-clause-names : goal.returns-clause-names
returns-clause-names c = one_name

pub returns-clause-paths : goal.returns-clause-paths
returns-clause-paths c = one_path
