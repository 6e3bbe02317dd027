use Rattle.toml.specs.Data.{table}
use Rattle.toml.specs.View.{table_view}
use Rattle.pec_directory.proofs.ReadingLemmas.{table_reads}
use Rattle.pec_directory.proofs.directories.Directory.from_table.Goals as goal

pub returns-clause-reads : goal.returns-clause-reads
returns-clause-reads c = table_reads c.a_table_is_told_exactly.ensures.told (table (table_view c.args.whole.now)) _ c.read_table.ensures
