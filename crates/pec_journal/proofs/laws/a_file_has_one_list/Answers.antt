use Rattle.pec_journal.proofs.OneListLemmas.{one_list, broken_is_no_file, one_place}
use Rattle.pec_journal.proofs.laws.a_file_has_one_list.Goals as goal

pub returns : goal.returns
returns c = record { list = one_list; broken = broken_is_no_file; place = one_place }
