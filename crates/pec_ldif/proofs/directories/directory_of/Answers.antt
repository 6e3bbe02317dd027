-- What was read is what `directory_in_ldif` tells, and so what the text is.
use Rattle.pec_ldif.proofs.DirectoryLaws.{directory_reads}
use Rattle.pec_ldif.proofs.directories.directory_of.Goals as goal

pub returns-clause-reads : goal.returns-clause-reads
returns-clause-reads c = directory_reads c.args.text.now c.read_directory.result (c.an_ldif_directory_is_told_exactly.ensures c.args.text.now) c.read_directory.ensures
