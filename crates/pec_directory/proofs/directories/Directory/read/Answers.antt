use Rattle.pec_directory.proofs.ReadingLemmas.{reads}
use Rattle.pec_directory.proofs.directories.Directory.read.Goals as goal

pub returns-clause-reads : goal.returns-clause-reads
returns-clause-reads c = reads c.a_directory_is_told_exactly.ensures c.args.text.now _ c.read_text.ensures
