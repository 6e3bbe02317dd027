use Rattle.std.proofs.Common.{arith, ◌∙◌, inr}
use Rattle.jiff_core.proofs.SignedLemmas.{signed_arith}
use Rattle.pec_cert.proofs.CalendarLemmas.{same_seconds, kept}
use Rattle.pec_cert.proofs.dates.stamp_of.Goals as goal

pub returns-in_default-moment_of : goal.returns-in_default-moment_of
returns-in_default-moment_of c =
    let d = c.in-Some-date_of.ensures in
    let t = c.in-Some-time_of.ensures in
    let same = same_seconds c.args.shown (record { date = c.in-Some-date_of.date; time = c.in-Some-time_of.time }) (record { year = d.1; month = d.2; day = d.3; hour = t.1; minute = t.2; second = t.3 }) in (
      c.in-Some.ensures.0,
      inr (
        d.0,
        t.0,
        λ moment is. c.in_default-moment_of.ensures moment is.0
            (omega (arith, signed_arith, same, c.to_second-seconds.ensures.value, c.to_second-seconds.ensures.bound, is.1, c.in-Some.ensures.1, c.in-Some.ensures.2)),
      ),
    )

pub returns : goal.returns
returns c =
    let d = c.in-Some-date_of.ensures in
    let t = c.in-Some-time_of.ensures in
    let small = kept c.in-Some.minutes c.in-Some.ensures.2 in
    let same = same_seconds c.args.shown (record { date = c.in-Some-date_of.date; time = c.in-Some-time_of.time }) (record { year = d.1; month = d.2; day = d.3; hour = t.1; minute = t.2; second = t.3 }) in
    record {
      zone = c.in-Some.ensures.0;
      day = d.0;
      time = t.0;
      minutes = small ∙ c.in-Some.ensures.1;
      moment = (c.in-Some-moment_of.ensures.0, omega (arith, signed_arith, same, c.to_second-seconds.ensures.value, c.to_second-seconds.ensures.bound, c.in-Some-moment_of.ensures.1, c.in-Some.ensures.2));
    }
