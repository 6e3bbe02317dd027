-- The version of a journal: from the lemmas.
use Rattle.pec_ledger.proofs.VersionLemmas.{version_one, version_two}
use Rattle.pec_ledger.proofs.boxes.a_journal_has_a_version.Goals as goal

pub returns : goal.returns
returns c = record { two = version_two; one_or_two = version_one }
