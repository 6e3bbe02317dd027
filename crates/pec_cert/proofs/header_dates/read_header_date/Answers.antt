use Rattle.pec_cert.proofs.HeaderDateLemmas.{date_told}
use Rattle.pec_cert.proofs.header_dates.read_header_date.Goals as goal

pub returns-clause-date : goal.returns-clause-date
returns-clause-date c = date_told c.args.text.now c.header_stamp.result c.header_stamp.ensures
