use Rattle.std.proofs.Common.{arith, ◌≡◌, pos, ◌*ℤ◌, ◌+ℤ◌}
use Rattle.jiff_core.specs.DateTime.{civil_nanos}
use Rattle.jiff_core.specs.Timestamp.{nanos_of_seconds}
use Rattle.jiff_core.proofs.SignedLemmas.{signed_casts}
use Rattle.pec_cert.proofs.CalendarLemmas.{year_from}
use Rattle.pec_cert.proofs.dates.clock_of.Goals as goal

pub returns-clause-clock : goal.returns-clause-clock
returns-clause-clock c = omega (arith, signed_casts, c.requires, c.seconds.ensures.value, c.seconds.ensures.below, c.in-Ok.ensures.value, c.to_datetime.ensures)

pub returns-clause-year : goal.returns-clause-year
returns-clause-year c =
    let clock : civil_nanos c.to_datetime.result ≡ pos c.args.moment *ℤ pos 1_000_000_000 +ℤ nanos_of_seconds (c.args.minutes *ℤ pos 60) =
    omega (arith, signed_casts, c.requires, c.seconds.ensures.value, c.seconds.ensures.below, c.in-Ok.ensures.value, c.to_datetime.ensures) in
    year_from c.to_datetime.result c.args.moment c.args.minutes c.requires clock
