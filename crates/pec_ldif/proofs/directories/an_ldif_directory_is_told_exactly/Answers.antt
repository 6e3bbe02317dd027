-- The law of directories, from the lemmas.
use Rattle.pec_ldif.proofs.DirectoryLaws.{directory_told}
use Rattle.pec_ldif.proofs.directories.an_ldif_directory_is_told_exactly.Goals as goal

pub returns : goal.returns
returns c = directory_told c.a_text_is_one_ldif.ensures c.a_table_is_told_exactly.ensures.told
