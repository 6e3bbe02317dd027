use Rattle.pec_cert.proofs.HeaderDateLemmas.{one_date, one_line}
use Rattle.pec_cert.proofs.header_dates.a_printed_stamp_is_one_line.Goals as goal

pub returns : goal.returns
returns c = record { date = one_date; line = one_line }
