use Rattle.pec_records.proofs.EntryLemmas.{raw_length}
use Rattle.pec_records.proofs.fields.read_origin.Goals as goal

pub copy_from_slice-requires : goal.copy_from_slice-requires
copy_from_slice-requires c = raw_length 32 _ _ _ c.in_ok-bytes.ensures
