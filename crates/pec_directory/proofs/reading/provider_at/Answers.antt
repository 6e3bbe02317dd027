use Rattle.std.proofs.Common.{codes}
use Rattle.toml.proofs.Views.{table_get}
use Rattle.pec_directory.proofs.reading.provider_at.Goals as goal

pub returns : goal.returns
returns c = table_get c.get.result (codes "provider") c.args.whole.now.entries c.get.ensures.value
