-- The text is computed.
use Rattle.std.proofs.Common.{◌≡◌, ◌∙◌, Ok, ap, cond, Err}
use Rattle.pec_directory.specs.Walk.{directory_of}
use Rattle.pec_directory.specs.declared.faults.DirectoryFault.TheVariants.{NotToml}
use Rattle.pec_input.specs.Directory.{directory_in, directory_in_toml, of_directory}
use Rattle.pec_ldif.specs.Directories.{directory_in_ldif, of_table}
use Rattle.pec_load.specs.Accounts.{load_directory, load_providers}
use Rattle.pec_load.proofs.DirectoryLemmas.{directory_parted, directory_said, directory_short, is_text, is_toml}
use Rattle.pec_load.proofs.laws.a_load_has_its_directory.Goals as goal

said : directory_in load_directory ≡ Ok load_providers
unfolding directory_in directory_in_toml
said =
    ap (λ x. cond x (directory_in_ldif load_directory) (directory_in_toml load_directory)) is_toml
    ∙ (ap (λ x. cond x (of_table (directory_of load_directory)) (Err (of_directory NotToml))) is_text
    ∙ ap of_table directory_said)

pub returns : goal.returns
returns c = record { parted = directory_parted; short = directory_short; said = said }
