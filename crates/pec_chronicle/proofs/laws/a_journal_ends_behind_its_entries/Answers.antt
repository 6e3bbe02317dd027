use Rattle.std.proofs.Common.{refl}
use Rattle.pec_chronicle.proofs.ReadingLemmas.{journal_ends}
use Rattle.pec_chronicle.proofs.laws.a_journal_ends_behind_its_entries.Goals as goal

pub returns : goal.returns
returns c = record { none = refl; more = journal_ends }
