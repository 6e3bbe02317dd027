use Rattle.pec_cert.proofs.CalendarLemmas.{one_stamp}
use Rattle.pec_cert.proofs.CertificateLemmas.{shown_digits}
use Rattle.pec_cert.proofs.ClockLemmas.{shown_right, shown_only}
use Rattle.pec_cert.proofs.dates.a_moment_is_shown_in_one_way.Goals as goal

pub returns : goal.returns
returns c = record { shown = shown_right; only = shown_only; one = one_stamp; digits = shown_digits }
