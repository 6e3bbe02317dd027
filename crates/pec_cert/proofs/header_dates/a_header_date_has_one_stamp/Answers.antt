use Rattle.pec_cert.proofs.HeaderDateLemmas.{date_right, date_only, stamp_value}
use Rattle.pec_cert.proofs.header_dates.a_header_date_has_one_stamp.Goals as goal

pub returns : goal.returns
returns c = record { text = date_right; only = date_only; stamp = stamp_value }
