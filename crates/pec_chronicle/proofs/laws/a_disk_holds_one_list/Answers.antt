use Rattle.pec_chronicle.proofs.ReadingLemmas.{one_journal}
use Rattle.pec_chronicle.proofs.laws.a_disk_holds_one_list.Goals as goal

pub returns : goal.returns
returns c = one_journal c.one_entry.ensures.value c.a_file_has_one_list.ensures.list
